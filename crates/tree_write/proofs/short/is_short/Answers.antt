use Rattle.std.proofs.Common.{map}
use Rattle.tree_write.specs.Wire.{wire_scope}
use Rattle.tree_write.proofs.Sizes.{short_same}
use Rattle.tree_write.proofs.short.is_short.Goals as goal

pub returns : goal.returns
returns g c = record { exact = short_same (wire_scope (map g.M.CoreBytes.core_module c.args.modules.now) c.args.scope.now) c.can_be_written.result c.requires.kind c.requires.rows c.requires.binary c.requires.covered c.can_be_written.ensures.exact }
