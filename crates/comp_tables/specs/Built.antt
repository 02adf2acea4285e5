-- An expanded scope built with tables: its refusal, or its definitions with their marks.
use Rattle.std.specs.List.{range_with_len}
use Rattle.std.specs.Prelude.{ℕ, ◌+◌, Bool, true, false, nat_lt, cond, codes, List, [], ◌∷◌, ◌++◌, length, slice_index, is_some, Option, Some, None}
use Rattle.comp_model.specs.declared.Space.{Space}
use Rattle.comp_model.specs.declared.Space.TheVariants.{CoreType}
use Rattle.comp_model.specs.Core.{Id, Place, counted, named, Reach, own, at_place, ref_index, ref_numeral, ref_name}
use Rattle.comp_model.specs.Model.{Leaf, core_value, ref, place, present, node, nodes, case_id, result_ids, result_count, core_source, module_bytes, scope, index, numeral, name, Path, root_number, root_name, export_of, path, Leaves, no_leaf, ◌▸◌, row, Nodes, no_node, one_node, define, Defs, no_def, one_def, Scope, scope_of, id_of, defs_of}
use Rattle.comp_model.specs.Spaces.{declares_row, same_space, all_spaces, declarations}
use Rattle.comp_model.specs.NameMaps.{ItemName, NameMap, NameMaps}
use Rattle.comp_model.specs.Origins.{written, name_section, Held, holds_none, holds}
use Rattle.comp_model.specs.Payloads.{name_payload}
use Rattle.comp_scopes.specs.Encoding.{Encoding}
use Rattle.comp_scopes.specs.Names.{Denoted, first_of_two}
use Rattle.comp_scopes.specs.References.{references_leaf, references, instance_space}
use Rattle.comp_scopes.specs.Rule.{case_ids}
use Rattle.comp_scopes.specs.Unmet.{Unmet, unmet, unknown, outer_component, outer_count, unmet_cases, unmet_core}
use Rattle.comp_model.specs.ItemNames.{PartName, names_from, own_name, has_names, name_in_front, map_in_front}
use Rattle.comp_scopes.specs.Form.{Made, make, custom_node, coded_node, binary_defs, origins_of, held_first}
use Rattle.comp_tables.specs.Tables.{Counters, no_counts, advanced, Registry, nothing_registered, all_registered, first_taken, Opened, opened, found, opened_named, past, counted_table, unmet_kinds_defs, found_indices, needs, place_depth}

-- ---- opening a scope

abbrev pub registry_of : Scope → Registry
registry_of s = all_registered nothing_registered (declarations s)

-- a scope while its table is counted
abbrev pub half_open : Scope → Opened
half_open s = opened (id_of s) (registry_of s) []

abbrev pub table_for : List Opened → Scope → List ℕ
table_for os s = counted_table (half_open s ∷ os) no_counts (defs_of s)

-- a scope with its table
abbrev pub open_scope : List Opened → Scope → Opened
open_scope os s = opened (id_of s) (registry_of s) (table_for os s)

-- ---- the name section

-- the names of the items of one space, by the table
abbrev pub names_at : List ℕ → Space → List PartName → List ItemName
names_at T s [] = []
names_at T s (n ∷ ns) = name_in_front (same_space s n.space) n.name (slice_index T n.definition + n.part) (names_at T s ns)

abbrev pub maps_at : List ℕ → List PartName → List Space → List NameMap
maps_at T ns [] = []
maps_at T ns (s ∷ ss) = map_in_front s (names_at T s ns) (maps_at T ns ss)

abbrev pub names_by : List ℕ → Scope → NameMaps
names_by T s = record { component = own_name s; maps = maps_at T (names_from 0 (defs_of s)) all_spaces }

-- ---- the third search of `first_unmet`

-- a name that is not found
abbrev pub missing_name : List Opened → Reach → Id → Option Denoted → Option Unmet
missing_name os (at_place (counted o d)) x None = cond (nat_lt d (length os)) (unmet unknown x.offset) (unmet outer_count o)
missing_name os r x None = unmet unknown x.offset
missing_name os r x (Some d) = None

abbrev pub missing_place : List Opened → Place → Option Unmet
missing_place os (counted o d) = None
missing_place os (named o x) = cond (is_some (opened_named 0 os x)) None (unmet outer_component o)

abbrev pub missing_root : List Opened → Space → Path → Option Unmet
missing_root os s (root_number o n) = None
missing_root os s (root_name x) = missing_name os own x (found os s own x)
missing_root os s (export_of p t) = missing_root os (instance_space s) p

-- the roots of the paths of a definition, which are looked at first
abbrev mutual
  pub missing_roots : List Opened → Leaves → Option Unmet
  missing_roots os no_leaf = None
  missing_roots os (l ▸ ls) = first_of_two (missing_roots_leaf os l) (missing_roots os ls)

  pub missing_roots_leaf : List Opened → Leaf → Option Unmet
  missing_roots_leaf os (ref s (path p)) = missing_root os s p
  missing_roots_leaf os (present l) = missing_roots_leaf os l
  missing_roots_leaf os (node (row t ls)) = missing_roots os ls
  missing_roots_leaf os (nodes ns) = missing_roots_nodes os ns
  missing_roots_leaf os _ = None

  pub missing_roots_nodes : List Opened → Nodes → Option Unmet
  missing_roots_nodes os no_node = None
  missing_roots_nodes os (one_node (row t ls) ns) = first_of_two (missing_roots os ls) (missing_roots_nodes os ns)

-- a refusal, or the definitions
pub data Outcome : Type 0 where
  refused : Unmet → Outcome
  done : List Made → Outcome

-- the definitions, where nothing is refused
abbrev pub outcome : Option Unmet → List Made → Outcome
outcome None ms = done ms
outcome (Some u) ms = refused u

-- one step after the other, the second only where the first is done
abbrev pub and_then : Outcome → Outcome → Outcome
and_then (refused u) y = refused u
and_then (done ms) (refused u) = refused u
and_then (done ms) (done ns) = done (ms ++ ns)

module _ (e : Encoding) where
  -- then its other leaves, with the searches of an inner scope in the place of its leaf
  abbrev mutual
    pub missing_defs : List Opened → Defs → Option Unmet
    missing_defs os no_def = None
    missing_defs os (one_def (define names (row t ls)) ds) = first_of_two (first_of_two (missing_roots os ls) (missing os ls)) (missing_defs os ds)

    pub missing : List Opened → Leaves → Option Unmet
    missing os no_leaf = None
    missing os (l ▸ ls) = first_of_two (missing_leaf os l) (missing os ls)

    pub missing_leaf : List Opened → Leaf → Option Unmet
    missing_leaf os (core_value (ref_name b r x)) = missing_name os r x (found os CoreType r x)
    missing_leaf os (ref s (name r x)) = missing_name os r x (found os s r x)
    missing_leaf os (place p) = missing_place os p
    missing_leaf os (present l) = missing_leaf os l
    missing_leaf os (node (row t ls)) = missing os ls
    missing_leaf os (nodes ns) = missing_nodes os [] ns
    missing_leaf os (core_source c) = unmet_core (e.core_refusal c)
    missing_leaf os (scope (scope_of kd id label ds)) = first_of_two (first_taken nothing_registered (declarations (scope_of kd id label ds)))
        (first_of_two (unmet_kinds_defs (half_open (scope_of kd id label ds) ∷ os) ds) (missing_defs (open_scope os (scope_of kd id label ds) ∷ os) ds))
    missing_leaf os _ = None

    pub missing_nodes : List Opened → List Id → Nodes → Option Unmet
    missing_nodes os earlier no_node = None
    missing_nodes os earlier (one_node (row t ls) ns) = first_of_two (unmet_cases earlier (case_ids ls)) (first_of_two (missing os ls) (missing_nodes os (case_ids ls ++ earlier) ns))

  -- the three searches of a scope, one after the other
  abbrev pub missing_scope : List Opened → Scope → Option Unmet
  missing_scope os s = first_of_two (first_taken nothing_registered (declarations s)) (first_of_two (unmet_kinds_defs (half_open s ∷ os) (defs_of s)) (missing_defs (open_scope os s ∷ os) (defs_of s)))

  -- ---- what is built

  abbrev pub made_names : List ℕ → Scope → Bool → List Made
  made_names T s true = make name_section (custom_node (codes "component-name") (name_payload (names_by T s))) ∷ []
  made_names T s false = []

  abbrev mutual
    -- the definitions from number k on; the counters in front of them are c
    pub made_defs : List Opened → ℕ → Counters → Defs → List Made
    made_defs os k c no_def = []
    made_defs os k c (one_def (define names (row t ls)) ds) =
        (needs os k (range_with_len 0 (references ls)) ls c ++ record { origin = written k; held = held_in os ls; made = coded_node e t ls (renumbered os (found_indices os ls c) 0 ls) } ∷ [])
        ++ made_defs os (k + 1) (advanced (declares_row t ls) (past os ls c)) ds

    -- the leaves by the indices of their references, from number u on, and inner scopes built in their place
    pub renumbered : List Opened → List ℕ → ℕ → Leaves → Leaves
    renumbered os table u no_leaf = no_leaf
    renumbered os table u (l ▸ ls) = renumbered_leaf os table u l ▸ renumbered os table (u + references_leaf l) ls

    pub renumbered_leaf : List Opened → List ℕ → ℕ → Leaf → Leaf
    renumbered_leaf os table u (core_value (ref_numeral b o n)) = core_value (ref_index b (slice_index table u))
    renumbered_leaf os table u (core_value (ref_name b r x)) = core_value (ref_index b (slice_index table u))
    renumbered_leaf os table u (ref s (numeral o n)) = ref s (index (slice_index table u))
    renumbered_leaf os table u (ref s (name r x)) = ref s (index (slice_index table u))
    renumbered_leaf os table u (ref s (path p)) = ref s (index (slice_index table u))
    renumbered_leaf os table u (place p) = place (place_depth os p)
    renumbered_leaf os table u (present l) = present (renumbered_leaf os table u l)
    renumbered_leaf os table u (node (row t ls)) = node (row t (renumbered os table u ls))
    renumbered_leaf os table u (nodes ns) = nodes (renumbered_nodes os table u ns)
    renumbered_leaf os table u (case_id x) = case_id None
    renumbered_leaf os table u (result_ids ids) = result_count (length ids)
    renumbered_leaf os table u (core_source c) = module_bytes (e.core_bytes c)
    renumbered_leaf os table u (scope (scope_of kd id label ds)) = scope (scope_of kd None None (binary_defs (made_defs (open_scope os (scope_of kd id label ds) ∷ os) 0 no_counts ds
        ++ made_names (table_for os (scope_of kd id label ds)) (scope_of kd id label ds) (has_names (scope_of kd id label ds)))))
    renumbered_leaf os table u l = l

    pub renumbered_nodes : List Opened → List ℕ → ℕ → Nodes → Nodes
    renumbered_nodes os table u no_node = no_node
    renumbered_nodes os table u (one_node (row t ls) ns) = one_node (row t (renumbered os table u ls)) (renumbered_nodes os table (u + references ls) ns)

    -- the marks of the scope in leaves
    pub held_in : List Opened → Leaves → Held
    held_in os no_leaf = holds_none
    held_in os (l ▸ ls) = held_first (held_leaf os l) (held_in os ls)

    pub held_leaf : List Opened → Leaf → Held
    held_leaf os (present l) = held_leaf os l
    held_leaf os (node (row t ls)) = held_in os ls
    held_leaf os (nodes ns) = held_nodes os ns
    held_leaf os (scope (scope_of kd id label ds)) = holds (origins_of (made_defs (open_scope os (scope_of kd id label ds) ∷ os) 0 no_counts ds
        ++ made_names (table_for os (scope_of kd id label ds)) (scope_of kd id label ds) (has_names (scope_of kd id label ds))))
    held_leaf os _ = holds_none

    pub held_nodes : List Opened → Nodes → Held
    held_nodes os no_node = holds_none
    held_nodes os (one_node (row t ls) ns) = held_first (held_in os ls) (held_nodes os ns)

  -- of a whole scope
  abbrev pub made_scope : List Opened → Scope → List Made
  made_scope os s = made_defs (open_scope os s ∷ os) 0 no_counts (defs_of s) ++ made_names (table_for os s) s (has_names s)
