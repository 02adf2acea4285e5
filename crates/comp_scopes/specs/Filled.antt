-- The binary leaves where a table has the index of each reference by its number, and that table.
use Rattle.std.specs.Prelude.{ℕ, ◌+◌, List, [], ◌∷◌, ◌++◌, length, slice_index, Option, Some, None}
use Rattle.comp_model.specs.declared.Space.{Space}
use Rattle.comp_model.specs.declared.Space.TheVariants.{CoreType}
use Rattle.comp_model.specs.Core.{ref_index, ref_numeral, ref_name}
use Rattle.comp_model.specs.Model.{Leaf, core_value, ref, place, present, node, nodes, case_id, result_ids, result_count, core_source, module_bytes, scope, Target, index, numeral, name, path, inline, bundle, Leaves, no_leaf, ◌▸◌, row, Nodes, no_node, one_node, Scope}
use Rattle.comp_model.specs.Origins.{Origin, inline_type, bundle_of}
use Rattle.comp_scopes.specs.Encoding.{Encoding}
use Rattle.comp_scopes.specs.Names.{denotes}
use Rattle.comp_scopes.specs.References.{references, references_leaf}
use Rattle.comp_scopes.specs.Reused.{reused}
use Rattle.comp_scopes.specs.Outward.{leads_out}
use Rattle.comp_scopes.specs.Plan.{marks, before}
use Rattle.comp_scopes.specs.Form.{form, form_name, form_place, path_index}

-- the index that stands for a name
abbrev pub name_index : List Scope → ℕ → ℕ → Space → Target → ℕ
name_index st k u s (name r x) = (form_name st k u s (leads_out r (denotes st s r x)) (denotes st s r x)).here
name_index st k u s _ = 0

-- the index that stands for an inline node, where it is reused or not
abbrev pub inline_index : List Scope → ℕ → ℕ → Space → Option Origin → ℕ
inline_index st k u s (Some o) = before s o (marks st)
inline_index st k u s None = before s (inline_type k u) (marks st)

-- the index of each reference of definition k, in leaf order, from reference u on
abbrev mutual
  pub indices : List Scope → ℕ → ℕ → Leaves → List ℕ
  indices st k u no_leaf = []
  indices st k u (l ▸ ls) = indices_of st k u l ++ indices st k (u + references_leaf l) ls

  pub indices_of : List Scope → ℕ → ℕ → Leaf → List ℕ
  indices_of st k u (core_value (ref_numeral b o n)) = n ∷ []
  indices_of st k u (core_value (ref_name b r x)) = name_index st k u CoreType (name r x) ∷ []
  indices_of st k u (ref s (numeral o n)) = n ∷ []
  indices_of st k u (ref s (name r x)) = name_index st k u s (name r x) ∷ []
  indices_of st k u (ref s (path p)) = path_index st k u s p ∷ []
  indices_of st k u (ref s (inline (row t ls))) = inline_index st k u s (reused st k u t ls) ∷ indices st k (u + 1) ls
  indices_of st k u (ref s (bundle (row t ls))) = before s (bundle_of k u) (marks st) ∷ indices st k (u + 1) ls
  indices_of st k u (present l) = indices_of st k u l
  indices_of st k u (node (row t ls)) = indices st k u ls
  indices_of st k u (nodes ns) = indices_of_nodes st k u ns
  indices_of st k u _ = []

  pub indices_of_nodes : List Scope → ℕ → ℕ → Nodes → List ℕ
  indices_of_nodes st k u no_node = []
  indices_of_nodes st k u (one_node (row t ls) ns) = indices st k u ls ++ indices_of_nodes st k (u + references ls) ns

module _ (e : Encoding) where
  -- each reference by the index that the table has at its number, each inner scope by its form
  abbrev mutual
    pub filled : List Scope → List ℕ → ℕ → Leaves → Leaves
    filled st table u no_leaf = no_leaf
    filled st table u (l ▸ ls) = filled_leaf st table u l ▸ filled st table (u + references_leaf l) ls

    pub filled_leaf : List Scope → List ℕ → ℕ → Leaf → Leaf
    filled_leaf st table u (core_value (ref_numeral b o n)) = core_value (ref_index b (slice_index table u))
    filled_leaf st table u (core_value (ref_name b r x)) = core_value (ref_index b (slice_index table u))
    filled_leaf st table u (ref s (numeral o n)) = ref s (index (slice_index table u))
    filled_leaf st table u (ref s (name r x)) = ref s (index (slice_index table u))
    filled_leaf st table u (ref s (path p)) = ref s (index (slice_index table u))
    filled_leaf st table u (ref s (inline (row t ls))) = ref s (index (slice_index table u))
    filled_leaf st table u (ref s (bundle (row t ls))) = ref s (index (slice_index table u))
    filled_leaf st table u (place p) = place (form_place st p)
    filled_leaf st table u (present l) = present (filled_leaf st table u l)
    filled_leaf st table u (node (row t ls)) = node (row t (filled st table u ls))
    filled_leaf st table u (nodes ns) = nodes (filled_nodes st table u ns)
    filled_leaf st table u (case_id x) = case_id None
    filled_leaf st table u (result_ids ids) = result_count (length ids)
    filled_leaf st table u (core_source c) = module_bytes (e.core_bytes c)
    filled_leaf st table u (scope s) = scope (form e st s)
    filled_leaf st table u l = l

    pub filled_nodes : List Scope → List ℕ → ℕ → Nodes → Nodes
    filled_nodes st table u no_node = no_node
    filled_nodes st table u (one_node (row t ls) ns) = one_node (row t (filled st table u ls)) (filled_nodes st table (u + references ls) ns)
