use Rattle.std.proofs.Common.{refl}
use Rattle.comp_model.specs.Leb.{leb}
use Rattle.comp_wire_tests.proofs.tests.names.a_component_in_a_component.Goals as goal

pub is_named-requires : goal.is_named-requires
unfolding leb
is_named-requires g c = rw (c.list-defs.ensures, c.inner_component.ensures, c.list-4.ensures, c.list-2.ensures, c.list.ensures, c.list-3.ensures) refl
