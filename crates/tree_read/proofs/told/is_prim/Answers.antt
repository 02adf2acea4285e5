use Rattle.std.proofs.Common.{◌∙◌}
use Rattle.tree_read.proofs.Values.{prim_told}
use Rattle.tree_read.proofs.told.is_prim.Goals as goal

pub returns : goal.returns
returns c = c.is_prim_number.ensures ∙ prim_told c.args.reader.now c.code.result c.code.ensures
