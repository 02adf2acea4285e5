use Rattle.std.proofs.Common.{◌≡◌, ◌++◌, drop, length}
use Rattle.comp_wire.specs.Sections.{Word}
use Rattle.comp_model.specs.Payloads.{maps_bytes}
use Rattle.comp_wire.specs.NameSection.{maps_of_list}
use Rattle.comp_wire.proofs.append_names.append_maps.Given as goal

-- what is left completes the names, and is short
abbrev pub invariant-loop-map : goal.invariant-loop-map
invariant-loop-map l = record {
  written : l.out.items ++ maps_bytes (maps_of_list (drop l.map-index l.maps)) ≡ l.initial.out.items ++ maps_bytes (maps_of_list l.maps);
  short : Word (length (maps_bytes (maps_of_list (drop l.map-index l.maps))));
}
