use Rattle.std.proofs.Common.{refl}
use Rattle.comp_model.specs.Leb.{leb}
use Rattle.comp_wire_tests.proofs.tests.canons.errors_sets_and_threads.Goals as goal

pub is_written-requires : goal.is_written-requires
unfolding leb
is_written-requires g c = rw (c.list-defs.ensures, c.list.ensures, c.list-2.ensures) refl
