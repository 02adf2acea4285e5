-- The parts of keys as a walk puts them together: what each leaf adds, without the end of the leaves.
use Rattle.std.specs.Prelude.{◌≡◌, Bool, ◌&&◌, cond, false, List, [], ◌∷◌, ◌++◌, Option, Some, None}
use Rattle.comp_model.specs.Model.{Leaf, ref, present, nodes, inline, Leaves, no_leaf, ◌▸◌, row, Nodes, no_node, one_node}
use Rattle.comp_model.specs.declared.row.Row.{Row}
use Rattle.comp_model.specs.RowNumbers.{row_number}
use Rattle.comp_model.specs.Spaces.{code_of_space}
use Rattle.comp_scopes.specs.Reused.{is_shared, Typed}
use Rattle.type_keys.specs.Keys.{Part, part_other, part_end, part_row, part_present, part_nodes, part_space, leaf_key, same_parts}
use Rattle.type_keys.specs.PartsOf.{parts_of}
use Rattle.type_keys.specs.declared.key.TypeKey.{TypeKey}

abbrev pub leaf_parts : List Typed → Leaf → List Part
leaf_parts xs l = leaf_key xs l []

abbrev pub leaves_parts : List Typed → Leaves → List Part
leaves_parts xs no_leaf = []
leaves_parts xs (l ▸ ls) = leaf_parts xs l ++ leaves_parts xs ls

abbrev pub nodes_parts : List Typed → Nodes → List Part
nodes_parts xs no_node = []
nodes_parts xs (one_node (row t ls) ns) = (part_row (row_number t) ∷ (leaves_parts xs ls ++ part_end ∷ [])) ++ nodes_parts xs ns

-- what a leaf adds in front of what stands in it
abbrev pub head_parts : Leaf → List Part
head_parts (ref s (inline n)) = part_space (code_of_space s) ∷ []
head_parts (present l) = part_present ∷ []
head_parts (nodes ns) = part_nodes ∷ []
head_parts l = leaf_key [] l []

-- code has these parts so far; where it has none, they are equal to none, not even to themselves
abbrev pub KeyShows : Option TypeKey → List Part → Type 0
KeyShows None ps = same_parts ps ps ≡ false
KeyShows (Some k) ps = parts_of k ≡ ps

-- the first part of a type that is to be looked up
abbrev pub begun_parts : Bool → Row → List Part
begun_parts wanted t = cond (wanted && is_shared t) (part_row (row_number t) ∷ []) (part_other ∷ [])
