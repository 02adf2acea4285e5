-- The names of the items of a list of definitions, space by space, by an index that counts along the list.
use Rattle.std.specs.Prelude.{ℕ, ◌+◌, Bool, true, false, List, [], ◌∷◌, ◌++◌, map, Option, Some, option_map}
use Rattle.comp_model.specs.declared.Space.{Space}
use Rattle.comp_model.specs.Core.{Text, Id, label_or_id}
use Rattle.comp_model.specs.CoreModules.{CoreModule}
use Rattle.comp_model.specs.ItemNames.{first_or_none, rest_of, name_in_front}
use Rattle.comp_model.specs.NameMaps.{ItemName}
use Rattle.comp_model.specs.Payloads.{component_name_bytes, map_bytes}
use Rattle.comp_model.specs.Spaces.{declares_row, count_in, same_space, all_spaces}
use Rattle.comp_tree.specs.Model.{id_of, lent_text}
use Rattle.comp_tree.specs.Lists.{listed}
use Rattle.comp_tree.specs.declared.tree.Def.{Def}
use Rattle.comp_tree.specs.declared.tree.Names.{Names}
use Rattle.tree_write.specs.declared.item_names.NamedItem.{NamedItem}
use Rattle.tree_write.specs.declared.item_names.ComponentNames.{ComponentNames}

-- the names of parts, the first of which has number p, behind b items of the space
abbrev pub along : Space → ℕ → ℕ → List (Option Id) → List (Option Text) → List Space → List ItemName
along s b p ids labels [] = []
along s b p ids labels (x ∷ xs) = name_in_front (same_space s x) (label_or_id (first_or_none labels) (first_or_none ids)) (b + p) (along s b (p + 1) (rest_of ids) (rest_of labels) xs)

abbrev pub ids_in : Names → List (Option Id)
ids_in n = map (option_map id_of) n.ids.now

abbrev pub labels_in : Names → List (Option Text)
labels_in n = map (option_map lent_text) n.labels.now

module _ (cores : List CoreModule) where
  abbrev pub spaces_of : Def → List Space
  spaces_of d = declares_row d.node.row (listed cores d.node.leaves.now)

  abbrev pub names_of_def : Space → ℕ → Def → List ItemName
  names_of_def s b d = along s b 0 (ids_in d.names.now) (labels_in d.names.now) (spaces_of d)

  abbrev pub names_in : Space → ℕ → List Def → List ItemName
  names_in s b [] = []
  names_in s b (d ∷ ds) = names_of_def s b d ++ names_in s (b + count_in s (spaces_of d)) ds

-- of items in order, those of one space
abbrev pub of_space : Space → List NamedItem → List ItemName
of_space s [] = []
of_space s (x ∷ xs) = name_in_front (same_space s x.space) (Some (lent_text x.name)) x.index (of_space s xs)

-- the bytes of the maps of these spaces
abbrev pub maps_by : List NamedItem → List Space → List ℕ
maps_by items [] = []
maps_by items (s ∷ ss) = map_bytes s (of_space s items) ++ maps_by items ss

-- what the name section of a component holds
abbrev pub payload_by : ComponentNames → List ℕ
payload_by n = component_name_bytes (option_map lent_text n.own) ++ maps_by n.items.items all_spaces

-- whether there is something
abbrev pub is_filled : {A : Type 0} → List A → Bool
is_filled [] = false
is_filled (x ∷ xs) = true
