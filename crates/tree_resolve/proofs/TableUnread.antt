-- Where the table of the innermost scope isn't read: names are found, counted and asked for their kinds without it.
use Rattle.std.proofs.Common.{◌≡◌, ℕ, zero, suc, List, [], ◌∷◌, ◌++◌, Option, Some, None, option_map, refl, ap, ◌∙◌}
use Rattle.comp_model.specs.declared.Space.{Space}
use Rattle.comp_model.specs.declared.Space.TheVariants.{CoreType}
use Rattle.comp_model.specs.Core.{Id, Place, counted, named, Reach, outward, own, at_place, ref_name}
use Rattle.comp_model.specs.Model.{Leaf, core_value, ref, present, node, nodes, name, Path, root_number, root_name, export_of, path, Leaves, no_leaf, ◌▸◌, row, Nodes, no_node, one_node, define, Defs, no_def, one_def, Scope, scope_of, defs_of}
use Rattle.comp_model.specs.Spaces.{declares_row}
use Rattle.comp_scopes.specs.Names.{first_of_two}
use Rattle.comp_scopes.specs.Outward.{leads_out}
use Rattle.comp_scopes.specs.References.{instance_space}
use Rattle.comp_scopes.specs.Unmet.{unmet_kind}
use Rattle.comp_tables.specs.Built.{half_open, open_scope, registry_of, table_for}
use Rattle.comp_tables.specs.Tables.{Counters, no_counts, advanced, Registry, Opened, opened, found, found_at, found_there, opened_depth, past_name, past, past_leaf, past_nodes, first_index, counted_table, unmet_kinds, unmet_kinds_leaf, unmet_kinds_nodes, unmet_kinds_defs}
use Rattle.open_scopes.specs.Shown.{found_of}
use Rattle.tree_names.specs.AllFound.{root_found, all_found, leaf_found, nodes_found, defs_found}
use Rattle.tree_names.specs.Served.{name_served, all_served, leaf_served, nodes_served, defs_served}

module _ (id : Option Id) (names : Registry) (a b : List ℕ) (os : List Opened) where
  -- the scope with one table, and with the other
  abbrev one : List Opened
  one = opened id names a ∷ os

  abbrev other : List Opened
  other = opened id names b ∷ os

  at-tabled : (d : ℕ) (s : Space) (x : Id) → found_at 0 one d s x ≡ found_at 0 other d s x
  at-tabled zero s x = refl
  at-tabled (suc d) s x = refl

  there-tabled : (d : Option ℕ) (s : Space) (x : Id) → found_there one d s x ≡ found_there other d s x
  there-tabled None s x = refl
  there-tabled (Some d) s x = at-tabled d s x

  depth-tabled : (p : Place) → opened_depth one p ≡ opened_depth other p
  depth-tabled (counted o d) = refl
  depth-tabled (named o x) = refl

  found-tabled : (s : Space) (r : Reach) (x : Id) → found one s r x ≡ found other s r x
  found-tabled s outward x = refl
  found-tabled s own x = refl
  found-tabled s (at_place p) x = ap (λ d. found_there one d s x) (depth-tabled p) ∙ there-tabled (opened_depth other p) s x

  mutual
    past-tabled : (ls : Leaves) (c : Counters) → past one ls c ≡ past other ls c
    past-tabled no_leaf c = refl
    past-tabled (l ▸ ls) c = ap (past one ls) (past_leaf-tabled l c) ∙ past-tabled ls (past_leaf other l c)

    past_leaf-tabled : (l : Leaf) (c : Counters) → past_leaf one l c ≡ past_leaf other l c
    past_leaf-tabled (core_value (ref_name n r x)) c = ap (λ d. past_name CoreType (leads_out r d) d c) (found-tabled CoreType r x)
    past_leaf-tabled (ref s (name r x)) c = ap (λ d. past_name s (leads_out r d) d c) (found-tabled s r x)
    past_leaf-tabled (ref s (path p)) c = refl
    past_leaf-tabled (present l) c = past_leaf-tabled l c
    past_leaf-tabled (node (row t ls)) c = past-tabled ls c
    past_leaf-tabled (nodes ns) c = past_nodes-tabled ns c
    past_leaf-tabled l c = refl

    past_nodes-tabled : (ns : Nodes) (c : Counters) → past_nodes one ns c ≡ past_nodes other ns c
    past_nodes-tabled no_node c = refl
    past_nodes-tabled (one_node (row t ls) ns) c = ap (past_nodes one ns) (past-tabled ls c) ∙ past_nodes-tabled ns (past other ls c)

  mutual
    pub kinds-tabled : (ls : Leaves) → unmet_kinds one ls ≡ unmet_kinds other ls
    kinds-tabled no_leaf = refl
    kinds-tabled (l ▸ ls) = ap (λ u. first_of_two u (unmet_kinds one ls)) (kinds_leaf-tabled l) ∙ ap (first_of_two (unmet_kinds_leaf other l)) (kinds-tabled ls)

    kinds_leaf-tabled : (l : Leaf) → unmet_kinds_leaf one l ≡ unmet_kinds_leaf other l
    kinds_leaf-tabled (core_value (ref_name n r x)) = ap (unmet_kind r CoreType x) (found-tabled CoreType r x)
    kinds_leaf-tabled (ref s (name r x)) = ap (unmet_kind r s x) (found-tabled s r x)
    kinds_leaf-tabled (ref s (path p)) = refl
    kinds_leaf-tabled (present l) = kinds_leaf-tabled l
    kinds_leaf-tabled (node (row t ls)) = kinds-tabled ls
    kinds_leaf-tabled (nodes ns) = kinds_nodes-tabled ns
    kinds_leaf-tabled l = refl

    kinds_nodes-tabled : (ns : Nodes) → unmet_kinds_nodes one ns ≡ unmet_kinds_nodes other ns
    kinds_nodes-tabled no_node = refl
    kinds_nodes-tabled (one_node (row t ls) ns) = ap (λ u. first_of_two u (unmet_kinds_nodes one ns)) (kinds-tabled ls) ∙ ap (first_of_two (unmet_kinds other ls)) (kinds_nodes-tabled ns)

  pub defs-kinds-tabled : (ds : Defs) → unmet_kinds_defs one ds ≡ unmet_kinds_defs other ds
  defs-kinds-tabled no_def = refl
  defs-kinds-tabled (one_def (define ns (row t ls)) ds) = ap (λ u. first_of_two u (unmet_kinds_defs one ds)) (kinds-tabled ls) ∙ ap (first_of_two (unmet_kinds other ls)) (defs-kinds-tabled ds)

  pub table-tabled : (c : Counters) (ds : Defs) → counted_table one c ds ≡ counted_table other c ds
  table-tabled c no_def = refl
  table-tabled c (one_def (define ns (row t ls)) ds) =
      ap (λ d. first_index (declares_row t ls) d ∷ counted_table one (advanced (declares_row t ls) d) ds) (past-tabled ls c)
      ∙ ap (λ r. first_index (declares_row t ls) (past other ls c) ∷ r) (table-tabled (advanced (declares_row t ls) (past other ls c)) ds)

  root-tabled : (s : Space) (p : Path) → root_found one s p ≡ root_found other s p
  root-tabled s (root_number o n) = refl
  root-tabled s (root_name x) = refl
  root-tabled s (export_of p t) = root-tabled (instance_space s) p

  mutual
    all-tabled : (ls : Leaves) → all_found one ls ≡ all_found other ls
    all-tabled no_leaf = refl
    all-tabled (l ▸ ls) = ap (λ z. z ++ all_found one ls) (leaf-tabled l) ∙ ap (λ z. leaf_found other l ++ z) (all-tabled ls)

    leaf-tabled : (l : Leaf) → leaf_found one l ≡ leaf_found other l
    leaf-tabled (core_value (ref_name n r x)) = ap (λ d. option_map found_of d ∷ []) (found-tabled CoreType r x)
    leaf-tabled (ref s (name r x)) = ap (λ d. option_map found_of d ∷ []) (found-tabled s r x)
    leaf-tabled (ref s (path p)) = root-tabled s p
    leaf-tabled (present l) = leaf-tabled l
    leaf-tabled (node (row t ls)) = all-tabled ls
    leaf-tabled (nodes ns) = nodes-tabled ns
    leaf-tabled l = refl

    nodes-tabled : (ns : Nodes) → nodes_found one ns ≡ nodes_found other ns
    nodes-tabled no_node = refl
    nodes-tabled (one_node (row t ls) ns) = ap (λ z. z ++ nodes_found one ns) (all-tabled ls) ∙ ap (λ z. all_found other ls ++ z) (nodes-tabled ns)

  pub defs-found-tabled : (ds : Defs) → defs_found one ds ≡ defs_found other ds
  defs-found-tabled no_def = refl
  defs-found-tabled (one_def (define ns (row t ls)) ds) = ap (λ z. z ++ defs_found one ds) (all-tabled ls) ∙ ap (λ z. all_found other ls ++ z) (defs-found-tabled ds)

  mutual
    served-tabled : (ls : Leaves) (c : Counters) → all_served one ls c ≡ all_served other ls c
    served-tabled no_leaf c = refl
    served-tabled (l ▸ ls) c =
        ap (λ z. z ++ all_served one ls (past_leaf one l c)) (served_leaf-tabled l c) ∙ ap (λ d. leaf_served other l c ++ all_served one ls d) (past_leaf-tabled l c)
        ∙ ap (λ z. leaf_served other l c ++ z) (served-tabled ls (past_leaf other l c))

    served_leaf-tabled : (l : Leaf) (c : Counters) → leaf_served one l c ≡ leaf_served other l c
    served_leaf-tabled (core_value (ref_name n r x)) c = ap (λ d. name_served CoreType (leads_out r d) d c) (found-tabled CoreType r x)
    served_leaf-tabled (ref s (name r x)) c = ap (λ d. name_served s (leads_out r d) d c) (found-tabled s r x)
    served_leaf-tabled (present l) c = served_leaf-tabled l c
    served_leaf-tabled (node (row t ls)) c = served-tabled ls c
    served_leaf-tabled (nodes ns) c = served_nodes-tabled ns c
    served_leaf-tabled l c = refl

    served_nodes-tabled : (ns : Nodes) (c : Counters) → nodes_served one ns c ≡ nodes_served other ns c
    served_nodes-tabled no_node c = refl
    served_nodes-tabled (one_node (row t ls) ns) c =
        ap (λ z. z ++ nodes_served one ns (past one ls c)) (served-tabled ls c) ∙ ap (λ d. all_served other ls c ++ nodes_served one ns d) (past-tabled ls c)
        ∙ ap (λ z. all_served other ls c ++ z) (served_nodes-tabled ns (past other ls c))

  pub defs-served-tabled : (ds : Defs) (c : Counters) → defs_served one ds c ≡ defs_served other ds c
  defs-served-tabled no_def c = refl
  defs-served-tabled (one_def (define ns (row t ls)) ds) c =
      ap (λ z. z ++ defs_served one ds (advanced (declares_row t ls) (past one ls c))) (served-tabled ls c)
      ∙ ap (λ d. all_served other ls c ++ defs_served one ds (advanced (declares_row t ls) d)) (past-tabled ls c)
      ∙ ap (λ z. all_served other ls c ++ z) (defs-served-tabled ds (advanced (declares_row t ls) (past other ls c)))

-- what is asked of names while the table of a scope is counted is asked of them behind it
pub kinds-open : (os : List Opened) (s : Scope) → unmet_kinds_defs (half_open s ∷ os) (defs_of s) ≡ unmet_kinds_defs (open_scope os s ∷ os) (defs_of s)
kinds-open os (scope_of k i label ds) = defs-kinds-tabled i (registry_of (scope_of k i label ds)) [] (table_for os (scope_of k i label ds)) os ds

-- and the table is counted again
pub table-open : (os : List Opened) (s : Scope) → counted_table (open_scope os s ∷ os) no_counts (defs_of s) ≡ table_for os s
table-open os (scope_of k i label ds) = table-tabled i (registry_of (scope_of k i label ds)) (table_for os (scope_of k i label ds)) [] os no_counts ds
