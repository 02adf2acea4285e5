use Rattle.std.proofs.Common.{◌∙◌, ap, sym, not}
use Rattle.wast_grammar.specs.Stand.{class_at, class_after}
use Rattle.wast_grammar.specs.Grammar.{holds}
use Rattle.wast_parser.specs.View.{stand_of}
use Rattle.text_table.specs.Code.{test_of}
use Rattle.text_table.proofs.Testing.{range_test, opening_test, both_are, both_test}
use Rattle.text_table.proofs.tests.+any_holds.Goals as goal

pub returns-in-Next : goal.returns-in-Next
returns-in-Next t c = c.is_between.ensures ∙ (range_test _ _ _ (class_at (stand_of c.args.cursor)) c.requires.next ∙ ap (λ q. holds (test_of q) (stand_of c.args.cursor)) (sym c.in-Next.is))

pub returns-in-Range : goal.returns-in-Range
returns-in-Range t c = c.is_between-in-Range.ensures ∙ (range_test _ _ _ (class_at (stand_of c.args.cursor)) c.requires.next ∙ ap (λ q. holds (test_of q) (stand_of c.args.cursor)) (sym c.in-Range.is))

pub returns-in-Among : goal.returns-in-Among
returns-in-Among t c = c.is_among.ensures (class_at (stand_of c.args.cursor)) c.requires.next ∙ ap (λ q. holds (test_of q) (stand_of c.args.cursor)) (sym c.in-Among.is)

pub returns-in-Both : goal.returns-in-Both
returns-in-Both t c = both_are _ _ _ _ c.is_between-in-Both.ensures c.is_between-in-Both-2.ensures ∙ (both_test _ _ _ _ (stand_of c.args.cursor) c.requires.next c.requires.behind ∙ ap (λ q. holds (test_of q) (stand_of c.args.cursor)) (sym c.in-Both.is))

pub returns-in-Group : goal.returns-in-Group
returns-in-Group t c = both_are _ _ _ _ (c.is_opening.ensures ∙ opening_test _ (class_at (stand_of c.args.cursor)) c.requires.next) (c.is_between-in-Group.ensures ∙ range_test _ _ _ (class_after (stand_of c.args.cursor)) c.requires.behind) ∙ ap (λ q. holds (test_of q) (stand_of c.args.cursor)) (sym c.in-Group.is)

pub returns-in-GroupRange : goal.returns-in-GroupRange
returns-in-GroupRange t c = both_are _ _ _ _ (c.is_opening-in-GroupRange.ensures ∙ opening_test _ (class_at (stand_of c.args.cursor)) c.requires.next) (c.is_between-in-GroupRange.ensures ∙ range_test _ _ _ (class_after (stand_of c.args.cursor)) c.requires.behind) ∙ ap (λ q. holds (test_of q) (stand_of c.args.cursor)) (sym c.in-GroupRange.is)

pub returns-in-Going : goal.returns-in-Going
returns-in-Going t c = ap not (c.is_between-in-Going.ensures ∙ range_test 0 1 _ (class_at (stand_of c.args.cursor)) c.requires.next) ∙ ap (λ q. holds (test_of q) (stand_of c.args.cursor)) (sym c.in-Going.is)

pub returns-in-Ending : goal.returns-in-Ending
returns-in-Ending t c = c.has_ending.ensures ∙ ap (λ q. holds (test_of q) (stand_of c.args.cursor)) (sym c.in-Ending.is)

pub returns-in-Form : goal.returns-in-Form
returns-in-Form t c = c.has_form.ensures ∙ ap (λ q. holds (test_of q) (stand_of c.args.cursor)) (sym c.in-Form.is)
