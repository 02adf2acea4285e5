-- The name section: what a component calls itself and its items (Component Model, binary format, Name Section).
use Rattle.std.specs.Prelude.{ℕ, List, [], ◌∷◌, Option, Some, None}
use Rattle.std.specs.Borrow.{Bor}
use Rattle.comp_model.specs.Makers as make
use Rattle.comp_model.specs.Core.{Text}
use Rattle.comp_model.specs.Model.{Node, no_names, define, Defs, no_def, one_def}
use Rattle.comp_model.specs.NameMaps as names
use Rattle.comp_model.specs.Payloads.{name_of_section, name_payload}
use Rattle.comp_wire.specs.declared.names.NameMap.{NameMap}
use Rattle.comp_wire.specs.declared.names.NameMaps.{NameMaps}

-- the writers' names as those of the model
abbrev pub item_names_of : List (ℕ × Bor Text) → List names.ItemName
item_names_of [] = []
item_names_of (p ∷ ps) = record { index = p.0; name = p.1.now } ∷ item_names_of ps

abbrev pub map_of : NameMap → names.NameMap
map_of n = record { space = n.space; names = item_names_of n.names }

abbrev pub maps_of_list : List NameMap → List names.NameMap
maps_of_list [] = []
maps_of_list (n ∷ ns) = map_of n ∷ maps_of_list ns

abbrev pub own_name_of : Option (Bor Text) → Option Text
own_name_of None = None
own_name_of (Some x) = Some x.now

abbrev pub maps_of : NameMaps → names.NameMaps
maps_of n = record { component = own_name_of n.component; maps = maps_of_list n.maps }

abbrev pub custom_row : Text → List ℕ → Node
custom_row x payload = make.custom x payload

-- the custom section of this payload, or nothing where it is empty
abbrev pub section_of_payload : List ℕ → Defs
section_of_payload [] = no_def
section_of_payload (b ∷ bs) = one_def (define no_names (custom_row name_of_section (b ∷ bs))) no_def

-- the name section, where there is a name
abbrev pub name_definition : names.NameMaps → Defs
name_definition n = section_of_payload (name_payload n)
