-- The names of a scope that lead to an enclosing one, in the order of the marks, and which of those that denote one item has the alias.
use Rattle.std.specs.Prelude.{ℕ, ◌+◌, Bool, true, false, ◌&&◌, nat_eq, nat_lt, cond, List, [], ◌∷◌, ◌++◌, Option, Some, None}
use Rattle.comp_model.specs.declared.Space.{Space}
use Rattle.comp_model.specs.declared.Space.TheVariants.{CoreType}
use Rattle.comp_model.specs.Core.{Reach, outward, ref_name}
use Rattle.comp_model.specs.Model.{Leaf, core_value, ref, present, node, nodes, name, inline, bundle, Leaves, no_leaf, ◌▸◌, row, Nodes, no_node, one_node, define, Defs, no_def, one_def, Scope, defs_of}
use Rattle.comp_model.specs.Spaces.{same_space}
use Rattle.comp_model.specs.Origins.{Origin, outer_alias_of, same_origin}
use Rattle.comp_scopes.specs.Names.{Denoted, denotes}
use Rattle.comp_scopes.specs.References.{references_leaf, references}
use Rattle.comp_scopes.specs.Reused.{reused}

-- what leaves ask for, each an A: in the inline nodes among them, in their bundles, and just before their own definition
pub record Planned (A : Type 0) : Type 0 where
  pub inlined : List A
  pub bundles : List A
  pub needed : List A

-- nothing
abbrev pub plan_nothing : {A : Type 0} → Planned A
plan_nothing = record { inlined = []; bundles = []; needed = [] }

-- just before the definition alone
abbrev pub plan_needs : {A : Type 0} → List A → Planned A
plan_needs ms = record { inlined = []; bundles = []; needed = ms }

-- two parts, one behind the other
abbrev pub plan_both : {A : Type 0} → Planned A → Planned A → Planned A
plan_both a b = record { inlined = a.inlined ++ b.inlined; bundles = a.bundles ++ b.bundles; needed = a.needed ++ b.needed }

-- of a definition or an inline node, its own behind all else
abbrev pub plan_own : {A : Type 0} → Planned A → List A → List A
plan_own p own = p.inlined ++ (p.bundles ++ (p.needed ++ own))

-- of an inline node, unless it is reused
abbrev pub plan_inline : {A : Type 0} → Option Origin → Planned A → List A → Planned A
plan_inline (Some o) p own = plan_nothing
plan_inline None p own = record { inlined = plan_own p own; bundles = []; needed = [] }

-- of a bundle: behind all inline nodes
abbrev pub plan_bundle : {A : Type 0} → Planned A → List A → Planned A
plan_bundle p own = record { inlined = p.inlined; bundles = p.bundles ++ (p.needed ++ own); needed = [] }

-- an outward name that leads to an enclosing scope
abbrev pub leads_out : Reach → Option Denoted → Bool
leads_out outward (Some d) = nat_lt 0 d.depth
leads_out _ _ = false

-- such a name: the mark of an alias for it alone, its space and what it denotes
pub record Outward : Type 0 where
  pub origin : Origin
  pub space : Space
  pub denoted : Denoted

abbrev pub outward_name : ℕ → ℕ → Space → Bool → Option Denoted → Planned Outward
outward_name k u s true (Some d) = plan_needs (record { origin = outer_alias_of k u; space = s; denoted = d } ∷ [])
outward_name k u s out d = plan_nothing

-- those in leaves of definition k, from reference u on; what a reused node names is not among them
abbrev mutual
  pub outward_leaves : List Scope → ℕ → ℕ → Leaves → Planned Outward
  outward_leaves st k u no_leaf = plan_nothing
  outward_leaves st k u (l ▸ ls) = plan_both (outward_leaf st k u l) (outward_leaves st k (u + references_leaf l) ls)

  pub outward_leaf : List Scope → ℕ → ℕ → Leaf → Planned Outward
  outward_leaf st k u (core_value (ref_name b r x)) = outward_name k u CoreType (leads_out r (denotes st CoreType r x)) (denotes st CoreType r x)
  outward_leaf st k u (ref s (name r x)) = outward_name k u s (leads_out r (denotes st s r x)) (denotes st s r x)
  outward_leaf st k u (ref s (inline (row t ls))) = plan_inline (reused st k u t ls) (outward_leaves st k (u + 1) ls) []
  outward_leaf st k u (ref s (bundle (row t ls))) = plan_bundle (outward_leaves st k (u + 1) ls) []
  outward_leaf st k u (present l) = outward_leaf st k u l
  outward_leaf st k u (node (row t ls)) = outward_leaves st k u ls
  outward_leaf st k u (nodes ns) = outward_nodes st k u ns
  outward_leaf st k u _ = plan_nothing

  pub outward_nodes : List Scope → ℕ → ℕ → Nodes → Planned Outward
  outward_nodes st k u no_node = plan_nothing
  outward_nodes st k u (one_node (row t ls) ns) = plan_both (outward_leaves st k u ls) (outward_nodes st k (u + references ls) ns)

-- those in the definitions from number k on
abbrev pub outward_defs : List Scope → ℕ → Defs → List Outward
outward_defs st k no_def = []
outward_defs st k (one_def (define names (row t ls)) ds) = plan_own (outward_leaves st k 0 ls) [] ++ outward_defs st (k + 1) ds

-- those of the innermost scope
abbrev pub outward_names : List Scope → List Outward
outward_names [] = []
outward_names (s ∷ st) = outward_defs (s ∷ st) 0 (defs_of s)

-- the same answer: one part of one definition, in one scope
abbrev pub same_item : Denoted → Denoted → Bool
same_item d e = nat_eq d.depth e.depth && (nat_eq d.item.definition e.item.definition && nat_eq d.item.part e.item.part)

-- the first of these names, up to the one with the mark o, that denotes the item; none where that is the one with the mark o
abbrev pub earlier_alias : Origin → Space → Denoted → List Outward → Option Origin
earlier_alias o s d [] = None
earlier_alias o s d (w ∷ ws) = cond (same_origin o w.origin) None (cond (same_space s w.space && same_item d w.denoted) (Some w.origin) (earlier_alias o s d ws))

-- the mark of the alias that reference u of definition k shares, where an earlier name of the scope denotes the same item
abbrev pub served : List Scope → ℕ → ℕ → Space → Denoted → Option Origin
served st k u s d = earlier_alias (outer_alias_of k u) s d (outward_names st)
