use Rattle.std.proofs.Common.{◌∙◌}
use Rattle.wire_tree.specs.Model.{scope_of}
use Rattle.tree_print.specs.Taken.{taken}
use Rattle.tree_print.proofs.Whole.{whole_length}
use Rattle.tree_print.proofs.component.text_length.Goals as goal

pub returns : goal.returns
returns c = c.length.ensures ∙ whole_length (scope_of c.args.scope.now) (taken c.counting-printer.result) _ c.counting-printer.ensures.written c.counting-printer.ensures.tight c.in_ok-put_component.ensures
