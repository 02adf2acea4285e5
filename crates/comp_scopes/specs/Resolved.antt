-- The binary scope that a resolved list stands for: its definitions, one by one, and the name section behind them.
use Rattle.std.specs.Prelude.{ℕ, zero, suc, ◌+◌, Bool, true, false, codes, List, [], ◌∷◌, length, None}
use Rattle.comp_model.specs.declared.Space.{Space}
use Rattle.comp_model.specs.Core.{counted, ref_index, ref_numeral}
use Rattle.comp_model.specs.Model.{Leaf, core_value, ref, place, present, node, nodes, case_id, result_ids, result_count, core_source, module_bytes, scope, index, numeral, Leaves, no_leaf, ◌▸◌, Node, row, Nodes, no_node, one_node, no_names, Def, define, Defs, no_def, one_def, Scope, scope_of, defs_of}
use Rattle.comp_model.specs.Spaces.{declares_row, count_in, same_space, all_spaces}
use Rattle.comp_model.specs.NameMaps.{ItemName, NameMap, NameMaps}
use Rattle.comp_model.specs.Payloads.{name_payload}
use Rattle.comp_scopes.specs.Encoding.{Encoding}
use Rattle.comp_model.specs.ItemNames.{PartName, names_from, own_name, has_names, name_in_front, map_in_front}
use Rattle.comp_scopes.specs.Form.{custom_node, coded_node}

-- how many items of the space the first n definitions declare
abbrev pub declared_before : Space → Defs → ℕ → ℕ
declared_before s no_def n = 0
declared_before s (one_def d ds) zero = 0
declared_before s (one_def (define names (row t ls)) ds) (suc n) = count_in s (declares_row t ls) + declared_before s ds n

-- the names of the items of one space, counted along the list; those of each space; all of a component
abbrev pub names_along : Defs → Space → List PartName → List ItemName
names_along ds s [] = []
names_along ds s (n ∷ ns) = name_in_front (same_space s n.space) n.name (declared_before s ds n.definition + n.part) (names_along ds s ns)

abbrev pub maps_along : Defs → List PartName → List Space → List NameMap
maps_along ds ns [] = []
maps_along ds ns (s ∷ ss) = map_in_front s (names_along ds s ns) (maps_along ds ns ss)

abbrev pub list_names : Scope → NameMaps
list_names s = record { component = own_name s; maps = maps_along (defs_of s) (names_from 0 (defs_of s)) all_spaces }

module _ (e : Encoding) where
  -- the name section, where it is due
  abbrev pub section_of : Scope → Bool → Defs
  section_of s true = one_def (define no_names (custom_node (codes "component-name") (name_payload (list_names s)))) no_def
  section_of s false = no_def

  abbrev mutual
    -- definition by definition, then what stands behind
    pub binary_of_defs : Defs → Defs → Defs
    binary_of_defs no_def more = more
    binary_of_defs (one_def (define names (row t ls)) ds) more = one_def (define no_names (coded_node e t ls (binary_of_leaves ls))) (binary_of_defs ds more)

    pub binary_of_leaves : Leaves → Leaves
    binary_of_leaves no_leaf = no_leaf
    binary_of_leaves (l ▸ ls) = binary_of_leaf l ▸ binary_of_leaves ls

    pub binary_of_leaf : Leaf → Leaf
    binary_of_leaf (core_value (ref_numeral b o n)) = core_value (ref_index b n)
    binary_of_leaf (ref s (numeral o n)) = ref s (index n)
    binary_of_leaf (place (counted o d)) = place (counted 0 d)
    binary_of_leaf (present l) = present (binary_of_leaf l)
    binary_of_leaf (node (row t ls)) = node (row t (binary_of_leaves ls))
    binary_of_leaf (nodes ns) = nodes (binary_of_nodes ns)
    binary_of_leaf (case_id x) = case_id None
    binary_of_leaf (result_ids ids) = result_count (length ids)
    binary_of_leaf (core_source c) = module_bytes (e.core_bytes c)
    binary_of_leaf (scope (scope_of kd id label ds)) = scope (scope_of kd None None (binary_of_defs ds (section_of (scope_of kd id label ds) (has_names (scope_of kd id label ds)))))
    binary_of_leaf l = l

    pub binary_of_nodes : Nodes → Nodes
    binary_of_nodes no_node = no_node
    binary_of_nodes (one_node (row t ls) ns) = one_node (row t (binary_of_leaves ls)) (binary_of_nodes ns)

  -- of one node, and of one definition
  abbrev pub binary_of_node : Node → Node
  binary_of_node (row t ls) = coded_node e t ls (binary_of_leaves ls)

  abbrev pub binary_of_def : Def → Def
  binary_of_def (define names n) = define no_names (binary_of_node n)

  abbrev pub binary_of : Scope → Scope
  binary_of (scope_of kd id label ds) = scope_of kd None None (binary_of_defs ds (section_of (scope_of kd id label ds) (has_names (scope_of kd id label ds))))
