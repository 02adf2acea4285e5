use Rattle.std.proofs.Common.{arith}
use Rattle.comp_wire.proofs.NameBytes.{counted_names}
use Rattle.comp_wire.proofs.append_names.map_body.Goals as goal

pub overflow_cast-items : goal.overflow_cast-items
overflow_cast-items c = omega (arith, c.requires, counted_names c.args.items.now)
