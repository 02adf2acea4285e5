use Rattle.std.proofs.Common.{◌≡◌, List, [], None, refl, ap, true}
use Rattle.comp_model.specs.Model.{Defs, no_def, one_def}
use Rattle.comp_wire.specs.Fits.{fits}
use Rattle.comp_wire.specs.Definitions.{defs_append, wire_defs, named_defs, component_of_list, component_of_defs}
use Rattle.comp_wire.specs.declared.defs.WireDef.{WireDef}
use Rattle.comp_wire.specs.declared.names.NameMaps.{NameMaps}
use Rattle.comp_wire_tests.proofs.tests.is_written.Goals as goal

nothing_behind : (ds : Defs) → defs_append ds no_def ≡ ds
nothing_behind no_def = refl
nothing_behind (one_def d ds) = ap (one_def d) (nothing_behind ds)

without_names : (ds : List WireDef) (names : NameMaps) → names.component ≡ None → names.maps ≡ [] → fits (component_of_list ds) ≡ true → fits (component_of_defs (named_defs ds names)) ≡ true
without_names ds names c m h = rw (c, m, nothing_behind (wire_defs ds)) h

pub is_named-requires : goal.is_named-requires
is_named-requires c = without_names c.args.defs c.no_names.result c.no_names.ensures.component c.no_names.ensures.maps c.requires
