use Rattle.std.proofs.Common.{◌∙◌, ap, sym, not}
use Rattle.wast_grammar.specs.Stand.{class_at, class_after}
use Rattle.wast_grammar.specs.Grammar.{holds}
use Rattle.text_table.specs.Code.{test_of}
use Rattle.text_table.proofs.Testing.{range_test, opening_test, both_are}
use Rattle.text_table.proofs.tests.holds.Goals as goal

pub returns-in-Next : goal.returns-in-Next
returns-in-Next c = c.is_between.ensures ∙ (range_test _ _ _ (class_at c.args.parser.now) c.requires.next ∙ ap (λ q. holds (test_of q) c.args.parser.now) (sym c.in-Next.is))

pub returns-in-Group : goal.returns-in-Group
returns-in-Group c = both_are _ _ _ _ (c.is_opening.ensures ∙ opening_test _ (class_at c.args.parser.now) c.requires.next) (c.is_between-in-Group.ensures ∙ range_test _ _ _ (class_after c.args.parser.now) c.requires.behind) ∙ ap (λ q. holds (test_of q) c.args.parser.now) (sym c.in-Group.is)

pub returns-in-Going : goal.returns-in-Going
returns-in-Going c = ap not (c.is_between-in-Going.ensures ∙ range_test 0 1 _ (class_at c.args.parser.now) c.requires.next) ∙ ap (λ q. holds (test_of q) c.args.parser.now) (sym c.in-Going.is)
