-- The first demand of the rule that is unmet, in the order of the searches, with its offset in the text.
use Rattle.std.specs.Prelude.{ℕ, cond, nat_lt, List, [], ◌∷◌, ◌++◌, length, Option, Some, None, find, is_some}
use Rattle.comp_model.specs.declared.Space.{Space}
use Rattle.comp_model.specs.declared.Space.TheVariants.{CoreType}
use Rattle.comp_model.specs.Core.{Id, Place, counted, named, Reach, own, at_place, ref_name, CoreFault, CoreRefusal}
use Rattle.comp_model.specs.Model.{Leaf, core_value, ref, place, present, node, nodes, core_source, scope, name, Path, root_number, root_name, export_of, path, inline, bundle, Leaves, no_leaf, ◌▸◌, row, Nodes, no_node, one_node, define, Defs, no_def, one_def, Scope, scope_of}
use Rattle.comp_model.specs.Spaces.{Declaration, declarations}
use Rattle.comp_scopes.specs.Encoding.{Encoding}
use Rattle.comp_scopes.specs.Names.{Denoted, denotes, scope_named, first_of_two}
use Rattle.comp_scopes.specs.References.{instance_space}
use Rattle.comp_scopes.specs.Rule.{clash, may_reach, path_allowed, case_ids, is_among}

-- what is not met: an id borne twice, a name that denotes nothing, one that may not reach what it denotes, an outer alias of no open scope by name or count, an export name of a core type or instance, a rule of core modules
pub data Cause : Type 0 where
  duplicate unknown outer_kind outer_component outer_count core_export_kind : Cause
  core_rule : CoreFault → Cause

-- a cause and its offset in the text
pub record Unmet : Type 0 where
  pub cause : Cause
  pub offset : ℕ

-- a refusal
abbrev pub unmet : Cause → ℕ → Option Unmet
unmet c o = Some (record { cause = c; offset = o })

-- a refusal at an id
abbrev pub unmet_at_id : Cause → Option Id → Option Unmet
unmet_at_id c None = None
unmet_at_id c (Some x) = unmet c x.offset

-- first search: the first declaration that bears the id of an earlier one of its space
abbrev pub first_duplicate : List Declaration → List Declaration → Option Unmet
first_duplicate earlier [] = None
first_duplicate earlier (d ∷ ds) = cond (is_some (find (λ e. clash e d) earlier)) (unmet_at_id duplicate d.id) (first_duplicate (d ∷ earlier) ds)

-- what a search finds in the inline nodes of leaves, in their bundles, at the roots of their paths, and beside all these
pub record Sought : Type 0 where
  pub inlined : Option Unmet
  pub bundles : Option Unmet
  pub roots : Option Unmet
  pub direct : Option Unmet

-- a finding beside inline nodes, bundles and roots
abbrev pub sought : Option Unmet → Sought
sought x = record { inlined = None; bundles = None; roots = None; direct = x }

-- of two parts the finding in the first comes first
abbrev pub sought_both : Sought → Sought → Sought
sought_both a b = record { inlined = first_of_two a.inlined b.inlined; bundles = first_of_two a.bundles b.bundles; roots = first_of_two a.roots b.roots; direct = first_of_two a.direct b.direct }

-- of one definition: its inline nodes, its bundles, then itself
abbrev pub sought_one : Sought → Option Unmet
sought_one a = first_of_two a.inlined (first_of_two a.bundles (first_of_two a.roots a.direct))

-- an inline node is a definition of its own, before the one that uses it
abbrev pub sought_inline : Sought → Sought
sought_inline a = record { inlined = sought_one a; bundles = None; roots = None; direct = None }

-- a bundle is one too, behind all inline nodes
abbrev pub sought_bundle : Sought → Sought
sought_bundle a = record { inlined = a.inlined; bundles = first_of_two a.bundles (first_of_two a.roots a.direct); roots = None; direct = None }

-- second search: an outward name that only an enclosing scope declares, in a space that does not reach out
abbrev pub unmet_kind : Reach → Space → Id → Option Denoted → Option Unmet
unmet_kind r s x None = None
unmet_kind r s x (Some d) = cond (may_reach r s d) None (unmet outer_kind x.offset)

-- the offset of a reference with export names is that of its root
abbrev pub root_offset : Path → ℕ
root_offset (root_number o n) = o
root_offset (root_name x) = x.offset
root_offset (export_of p t) = root_offset p

-- second search: an export name behind a core type or core instance
abbrev pub unmet_path : Space → Path → Option Unmet
unmet_path s p = cond (path_allowed s) None (unmet core_export_kind (root_offset p))

abbrev mutual
  pub kinds_of_leaves : List Scope → Leaves → Sought
  kinds_of_leaves st no_leaf = sought None
  kinds_of_leaves st (l ▸ ls) = sought_both (kinds_of_leaf st l) (kinds_of_leaves st ls)

  pub kinds_of_leaf : List Scope → Leaf → Sought
  kinds_of_leaf st (core_value (ref_name b r x)) = sought (unmet_kind r CoreType x (denotes st CoreType r x))
  kinds_of_leaf st (ref s (name r x)) = sought (unmet_kind r s x (denotes st s r x))
  kinds_of_leaf st (ref s (path p)) = sought (unmet_path s p)
  kinds_of_leaf st (ref s (inline (row t ls))) = sought_inline (kinds_of_leaves st ls)
  kinds_of_leaf st (ref s (bundle (row t ls))) = sought_bundle (kinds_of_leaves st ls)
  kinds_of_leaf st (present l) = kinds_of_leaf st l
  kinds_of_leaf st (node (row t ls)) = kinds_of_leaves st ls
  kinds_of_leaf st (nodes ns) = kinds_of_nodes st ns
  kinds_of_leaf st _ = sought None

  pub kinds_of_nodes : List Scope → Nodes → Sought
  kinds_of_nodes st no_node = sought None
  kinds_of_nodes st (one_node (row t ls) ns) = sought_both (kinds_of_leaves st ls) (kinds_of_nodes st ns)

-- the second search over definitions
abbrev pub kinds_of_defs : List Scope → Defs → Option Unmet
kinds_of_defs st no_def = None
kinds_of_defs st (one_def (define names (row t ls)) ds) = first_of_two (sought_one (kinds_of_leaves st ls)) (kinds_of_defs st ds)

-- third search: names that denote nothing, places that are none, cases with the id of an earlier one, core modules, and inner scopes
abbrev pub unmet_name : List Scope → Reach → Id → Option Denoted → Option Unmet
unmet_name st (at_place (counted o d)) x None = cond (nat_lt d (length st)) (unmet unknown x.offset) (unmet outer_count o)
unmet_name st r x None = unmet unknown x.offset
unmet_name st r x (Some d) = None

-- a named first part of an outer alias that is no open scope
abbrev pub unmet_place : List Scope → Place → Option Unmet
unmet_place st (counted o d) = None
unmet_place st (named o x) = cond (is_some (scope_named 0 st x)) None (unmet outer_component o)

-- the root of a path
abbrev pub unmet_root : List Scope → Space → Path → Option Unmet
unmet_root st s (root_number o n) = None
unmet_root st s (root_name x) = unmet_name st own x (denotes st s own x)
unmet_root st s (export_of p t) = unmet_root st (instance_space s) p

-- a case whose id an earlier one bears
abbrev pub unmet_cases : List Id → List Id → Option Unmet
unmet_cases earlier [] = None
unmet_cases earlier (x ∷ xs) = cond (is_among earlier x) (unmet duplicate x.offset) (unmet_cases earlier xs)

-- what the rule on core modules finds
abbrev pub unmet_core : Option CoreRefusal → Option Unmet
unmet_core None = None
unmet_core (Some r) = unmet (core_rule r.fault) r.offset

module _ (e : Encoding) where
  abbrev mutual
    pub unmet_of_defs : List Scope → Defs → Option Unmet
    unmet_of_defs st no_def = None
    unmet_of_defs st (one_def (define names (row t ls)) ds) = first_of_two (sought_one (unmet_of_leaves st ls)) (unmet_of_defs st ds)

    pub unmet_of_leaves : List Scope → Leaves → Sought
    unmet_of_leaves st no_leaf = sought None
    unmet_of_leaves st (l ▸ ls) = sought_both (unmet_of_leaf st l) (unmet_of_leaves st ls)

    pub unmet_of_leaf : List Scope → Leaf → Sought
    unmet_of_leaf st (core_value (ref_name b r x)) = sought (unmet_name st r x (denotes st CoreType r x))
    unmet_of_leaf st (ref s (name r x)) = sought (unmet_name st r x (denotes st s r x))
    unmet_of_leaf st (ref s (path p)) = record { inlined = None; bundles = None; roots = unmet_root st s p; direct = None }
    unmet_of_leaf st (ref s (inline (row t ls))) = sought_inline (unmet_of_leaves st ls)
    unmet_of_leaf st (ref s (bundle (row t ls))) = sought_bundle (unmet_of_leaves st ls)
    unmet_of_leaf st (place p) = sought (unmet_place st p)
    unmet_of_leaf st (present l) = unmet_of_leaf st l
    unmet_of_leaf st (node (row t ls)) = unmet_of_leaves st ls
    unmet_of_leaf st (nodes ns) = unmet_of_nodes st [] ns
    unmet_of_leaf st (core_source c) = sought (unmet_core (e.core_refusal c))
    unmet_of_leaf st (scope (scope_of k id label ds)) = sought (first_of_two (first_duplicate [] (declarations (scope_of k id label ds))) (first_of_two (kinds_of_defs (scope_of k id label ds ∷ st) ds) (unmet_of_defs (scope_of k id label ds ∷ st) ds)))
    unmet_of_leaf st _ = sought None

    -- `earlier` are the case ids of the nodes before
    pub unmet_of_nodes : List Scope → List Id → Nodes → Sought
    unmet_of_nodes st earlier no_node = sought None
    unmet_of_nodes st earlier (one_node (row t ls) ns) = sought_both (sought (unmet_cases earlier (case_ids ls))) (sought_both (unmet_of_leaves st ls) (unmet_of_nodes st (case_ids ls ++ earlier) ns))

  -- the three searches, one after the other
  abbrev pub first_unmet : List Scope → Scope → Option Unmet
  first_unmet st (scope_of k id label ds) = first_of_two (first_duplicate [] (declarations (scope_of k id label ds))) (first_of_two (kinds_of_defs (scope_of k id label ds ∷ st) ds) (unmet_of_defs (scope_of k id label ds ∷ st) ds))
