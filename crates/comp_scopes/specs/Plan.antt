-- The planned marks of a scope, in order, and the indices of items along them.
use Rattle.std.specs.Prelude.{ℕ, ◌+◌, Bool, true, false, cond, List, [], ◌∷◌, ◌++◌, drop, Option, Some, None}
use Rattle.comp_model.specs.declared.Space.{Space}
use Rattle.comp_model.specs.declared.Space.TheVariants.{CoreType}
use Rattle.comp_model.specs.Core.{Text, ref_name}
use Rattle.comp_model.specs.Model.{Leaf, core_value, ref, present, node, nodes, name, Path, root_number, root_name, export_of, path, inline, bundle, Leaves, no_leaf, ◌▸◌, row, Nodes, no_node, one_node, define, Defs, no_def, one_def, Scope, defs_of}
use Rattle.comp_model.specs.Spaces.{declares_row, count_in}
use Rattle.comp_model.specs.Origins.{Origin, written, inline_type, bundle_of, inline_export, export_step, outer_alias_of, name_section, same_origin}
use Rattle.comp_scopes.specs.Names.{Denoted, denotes}
use Rattle.comp_scopes.specs.References.{references_leaf, references, steps, instance_space}
use Rattle.comp_scopes.specs.Reused.{reused}
use Rattle.comp_scopes.specs.Outward.{Planned, plan_nothing, plan_needs, plan_both, plan_own, plan_inline, plan_bundle, leads_out, served}
use Rattle.comp_model.specs.ItemNames.{has_names}

-- a mark with the spaces in which its definition declares
pub record Mark : Type 0 where
  pub origin : Origin
  pub spaces : List Space

-- a mark by its parts
abbrev pub mark : Origin → List Space → Mark
mark o ss = record { origin = o; spaces = ss }

-- the marks of a definition or of an inline node, whose own mark is `m`
abbrev pub plan_one : Planned Mark → Mark → List Mark
plan_one p m = plan_own p (m ∷ [])

-- the mark of an outer alias, unless the name shares one
abbrev pub plan_alias : ℕ → ℕ → Space → Option Origin → Planned Mark
plan_alias k u s (Some o) = plan_nothing
plan_alias k u s None = plan_needs (mark (outer_alias_of k u) (s ∷ []) ∷ [])

-- a name, which may lead out
abbrev pub plan_name : List Scope → ℕ → ℕ → Space → Bool → Option Denoted → Planned Mark
plan_name st k u s true (Some d) = plan_alias k u s (served st k u s d)
plan_name st k u s out d = plan_nothing

-- the steps of a path to an item of the space, from the root outward
abbrev pub plan_path : ℕ → ℕ → Space → Path → List Mark
plan_path k u s (root_number o n) = []
plan_path k u s (root_name x) = []
plan_path k u s (export_of p t) = plan_path k u (instance_space s) p ++ mark (export_step k u (steps p)) (s ∷ []) ∷ []

-- `u` is the number of the first reference that stands in the leaves, counted along definition k
abbrev mutual
  pub plan_leaves : List Scope → ℕ → ℕ → Leaves → Planned Mark
  plan_leaves st k u no_leaf = plan_nothing
  plan_leaves st k u (l ▸ ls) = plan_both (plan_leaf st k u l) (plan_leaves st k (u + references_leaf l) ls)

  pub plan_leaf : List Scope → ℕ → ℕ → Leaf → Planned Mark
  plan_leaf st k u (core_value (ref_name b r x)) = plan_name st k u CoreType (leads_out r (denotes st CoreType r x)) (denotes st CoreType r x)
  plan_leaf st k u (ref s (name r x)) = plan_name st k u s (leads_out r (denotes st s r x)) (denotes st s r x)
  plan_leaf st k u (ref s (path p)) = plan_needs (plan_path k u s p)
  plan_leaf st k u (ref s (inline (row t ls))) = plan_inline (reused st k u t ls) (plan_leaves st k (u + 1) ls) (mark (inline_type k u) (declares_row t ls) ∷ [])
  plan_leaf st k u (ref s (bundle (row t ls))) = plan_bundle (plan_leaves st k (u + 1) ls) (mark (bundle_of k u) (declares_row t ls) ∷ [])
  plan_leaf st k u (present l) = plan_leaf st k u l
  plan_leaf st k u (node (row t ls)) = plan_leaves st k u ls
  plan_leaf st k u (nodes ns) = plan_nodes st k u ns
  plan_leaf st k u _ = plan_nothing

  pub plan_nodes : List Scope → ℕ → ℕ → Nodes → Planned Mark
  plan_nodes st k u no_node = plan_nothing
  plan_nodes st k u (one_node (row t ls) ns) = plan_both (plan_leaves st k u ls) (plan_nodes st k (u + references ls) ns)

-- the marks of the definitions, the first of which has number k
abbrev pub plan_defs : List Scope → ℕ → Defs → List Mark
plan_defs st k no_def = []
plan_defs st k (one_def (define names (row t ls)) ds) = plan_one (plan_leaves st k 0 ls) (mark (written k) (declares_row t ls)) ++ plan_defs st (k + 1) ds

-- the inline exports of definition k, the first of which has number j, where it declares an item
abbrev pub export_marks_of : ℕ → ℕ → List Text → List Space → List Mark
export_marks_of k j [] ss = []
export_marks_of k j (x ∷ xs) [] = []
export_marks_of k j (x ∷ xs) (s ∷ ss) = mark (inline_export k j) (s ∷ []) ∷ export_marks_of k (j + 1) xs (s ∷ ss)

-- the marks of all inline exports
abbrev pub export_marks : ℕ → Defs → List Mark
export_marks k no_def = []
export_marks k (one_def (define names (row t ls)) ds) = export_marks_of k 0 names.exports (declares_row t ls) ++ export_marks (k + 1) ds

-- a component has a name section where a name stands in it
abbrev pub name_marks : Bool → List Mark
name_marks true = mark name_section [] ∷ []
name_marks false = []

-- the marks of the innermost scope of a stack, in order; marks inside the scopes that its definitions hold are not among them
abbrev pub marks : List Scope → List Mark
marks [] = []
marks (s ∷ st) = plan_defs (s ∷ st) 0 (defs_of s) ++ (export_marks 0 (defs_of s) ++ name_marks (has_names s))

-- how many declarations of the space stand before the mark of that origin
abbrev pub before : Space → Origin → List Mark → ℕ
before s o [] = 0
before s o (m ∷ ms) = cond (same_origin o m.origin) 0 (count_in s m.spaces + before s o ms)

-- the index in its own scope's plan of what is denoted: the declarations before its mark, and the parts before it
abbrev pub item_index : List Scope → Space → Denoted → ℕ
item_index st s d = before s (written d.item.definition) (marks (drop d.depth st)) + d.item.part

-- the declarations of the space in a list of marks
abbrev pub counts : Space → List Mark → ℕ
counts s [] = 0
counts s (m ∷ ms) = count_in s m.spaces + counts s ms
