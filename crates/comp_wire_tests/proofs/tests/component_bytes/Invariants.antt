use Rattle.std.proofs.Common.{drop}
use Rattle.comp_wire.specs.NameSection.{maps_of, name_definition}
use Rattle.comp_wire.proofs.Component.{Turn}
use Rattle.comp_wire_tests.proofs.tests.component_bytes.Given as goal

-- the sink holds the items so far, and those of the rest complete the list
abbrev pub invariant-loop-def : goal.invariant-loop-def
invariant-loop-def l = Turn l.sink l.defs (drop l.def-index l.defs) (name_definition (maps_of l.names))
