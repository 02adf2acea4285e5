use Rattle.std.proofs.Common.{refl}
use Rattle.comp_model.specs.Leb.{leb}
use Rattle.comp_wire_tests.proofs.tests.types.types_of_values.Goals as goal

pub is_written-requires : goal.is_written-requires
unfolding leb
is_written-requires g c = rw c.list-defs.ensures refl
