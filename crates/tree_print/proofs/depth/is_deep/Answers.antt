use Rattle.std.proofs.Common.{◌∙◌, sym, arith}
use Rattle.tree_print.proofs.Deep.{whole_deep}
use Rattle.tree_print.proofs.depth.is_deep.Goals as goal

pub returns : goal.returns
returns c = c.definitions_are_deep.ensures (omega arith) ∙ sym (whole_deep c.args.scope.now)
