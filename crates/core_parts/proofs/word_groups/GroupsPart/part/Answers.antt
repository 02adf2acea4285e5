use Rattle.std.proofs.Common.{◌≡◌, subst}
use Rattle.wast_grammar.specs.Read.{FailsAs, read, reads}
use Rattle.wast_grammar.specs.CoreForms.{groups_of}
use Rattle.wast_grammar.specs.CoreRows.{is_value_type}
use Rattle.core_parts.specs.PartViews.{groups_view}
use Rattle.core_parts.proofs.word_groups.GroupsPart.part.Goals as goal

pub returns-in-Ok-clause-gives : goal.returns-in-Ok-clause-gives
returns-in-Ok-clause-gives g c =
    subst (λ w. read (groups_of w is_value_type g.T.GroupItem.item_row) c.args.parser.now ≡ reads (groups_view g.T.GroupItem.view c.in-Ok.items.items) c.all_groups.new.parser) c.word.ensures.word c.in-Ok.ensures.gives

pub returns-in-Err-clause-gives : goal.returns-in-Err-clause-gives
returns-in-Err-clause-gives g c =
    subst (λ w. FailsAs c.in-Err.error.kind c.in-Err.error.offset c.all_groups.new.parser (read (groups_of w is_value_type g.T.GroupItem.item_row) c.args.parser.now)) c.word.ensures.word c.in-Err.ensures.gives
