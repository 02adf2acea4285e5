use Rattle.std.proofs.Common.{◌∙◌}
use Rattle.wire_tree.specs.Model.{scope_of}
use Rattle.tree_print.specs.Taken.{taken}
use Rattle.tree_print.proofs.Whole.{whole_text}
use Rattle.tree_print.proofs.component.text_of.Goals as goal

pub returns : goal.returns
returns c = c.into_text.ensures ∙ whole_text (scope_of c.args.scope.now) (taken c.in_ok-printer.printer) _ c.in_ok-printer.ensures.written c.in_ok-printer.ensures.tight c.in_ok-put_component.ensures
