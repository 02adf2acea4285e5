-- The rule on names that every scope meets.
use Rattle.std.specs.Prelude.{Bool, true, false, ◌&&◌, ◌||◌, List, [], ◌∷◌, ◌++◌, find, is_some, Option, Some, None, IsSome, IsNone, IsFalse, IsTrue, nat_eq, ⊤}
use Rattle.comp_model.specs.declared.Space.{Space}
use Rattle.comp_model.specs.declared.Space.TheVariants.{CoreType, CoreModule, CoreInstance, Ty, Component}
use Rattle.comp_model.specs.Core.{Id, same_id, Place, counted, named, Reach, outward, own, at_place, ref_name}
use Rattle.comp_model.specs.Model.{Leaf, core_value, ref, place, present, node, nodes, case_id, core_source, scope, name, Path, root_number, root_name, export_of, path, inline, bundle, Leaves, no_leaf, ◌▸◌, row, Nodes, no_node, one_node, define, Defs, no_def, one_def, Scope, scope_of}
use Rattle.comp_model.specs.Spaces.{same_space, Declaration, declarations, bears}
use Rattle.comp_scopes.specs.Encoding.{Encoding}
use Rattle.comp_scopes.specs.Names.{Denoted, denotes, scope_named}
use Rattle.comp_scopes.specs.References.{instance_space}

-- a space whose names reach past their own scope: core modules, core types, types and components (Component Model text format, "Alias Definitions")
abbrev pub reaches_out : Space → Bool
reaches_out CoreType = true
reaches_out CoreModule = true
reaches_out Ty = true
reaches_out Component = true
reaches_out _ = false

-- both bear an id, and it is the same
abbrev pub same_name : Option Id → Option Id → Bool
same_name None y = false
same_name (Some x) y = bears x y

-- two declarations of one space bear the same id
abbrev pub clash : Declaration → Declaration → Bool
clash d e = same_space d.space e.space && same_name d.id e.id

-- a declaration beside the later ones
abbrev pub ClashesWithNone : Declaration → List Declaration → Type 0
ClashesWithNone d [] = ⊤
ClashesWithNone d (e ∷ es) = IsFalse (clash d e) × ClashesWithNone d es

-- no two of them clash
abbrev pub AllDistinct : List Declaration → Type 0
AllDistinct [] = ⊤
AllDistinct (d ∷ ds) = ClashesWithNone d ds × AllDistinct ds

-- at depth 0, or in a space that reaches out
abbrev pub may_reach : Reach → Space → Denoted → Bool
may_reach outward s d = nat_eq d.depth 0 || reaches_out s
may_reach own s d = true
may_reach (at_place p) s d = true

-- an answer that the reach allows
abbrev pub Reached : Reach → Space → Option Denoted → Type 0
Reached r s None = ⊥
Reached r s (Some d) = IsTrue (may_reach r s d)

-- a named first part of an outer alias is the id of an open scope; a count is looked at where a name follows it
abbrev pub PlaceStands : List Scope → Place → Type 0
PlaceStands st (counted o d) = ⊤
PlaceStands st (named o x) = IsSome (scope_named 0 st x)

-- no export name follows a core type or a core instance
abbrev pub path_allowed : Space → Bool
path_allowed CoreType = false
path_allowed CoreInstance = false
path_allowed _ = true

-- a named root of a path denotes an instance of the innermost scope
abbrev pub RootStands : List Scope → Space → Path → Type 0
RootStands st s (root_number o n) = ⊤
RootStands st s (root_name x) = IsSome (denotes st s own x)
RootStands st s (export_of p t) = RootStands st (instance_space s) p

-- the ids of a case
abbrev pub case_ids : Leaves → List Id
case_ids no_leaf = []
case_ids (case_id (Some x) ▸ ls) = x ∷ case_ids ls
case_ids (l ▸ ls) = case_ids ls

-- whether an id is among these
abbrev pub is_among : List Id → Id → Bool
is_among ys x = is_some (find (λ y. same_id x y) ys)

-- none of them is among the earlier ones
abbrev pub AmongNone : List Id → List Id → Type 0
AmongNone ys [] = ⊤
AmongNone ys (x ∷ xs) = IsFalse (is_among ys x) × AmongNone ys xs

-- no two cases bear the same id; `earlier` are those of the cases before
abbrev pub CasesDistinct : List Id → Nodes → Type 0
CasesDistinct earlier no_node = ⊤
CasesDistinct earlier (one_node (row t ls) ns) = AmongNone earlier (case_ids ls) × CasesDistinct (case_ids ls ++ earlier) ns

module _ (e : Encoding) where
  abbrev mutual
    pub RuleOfDefs : List Scope → Defs → Type 0
    RuleOfDefs st no_def = ⊤
    RuleOfDefs st (one_def (define names (row t ls)) ds) = RuleOfLeaves st ls × RuleOfDefs st ds

    pub RuleOfLeaves : List Scope → Leaves → Type 0
    RuleOfLeaves st no_leaf = ⊤
    RuleOfLeaves st (l ▸ ls) = RuleOfLeaf st l × RuleOfLeaves st ls

    pub RuleOfLeaf : List Scope → Leaf → Type 0
    RuleOfLeaf st (core_value (ref_name b r x)) = Reached r CoreType (denotes st CoreType r x)
    RuleOfLeaf st (ref s (name r x)) = Reached r s (denotes st s r x)
    RuleOfLeaf st (ref s (path p)) = IsTrue (path_allowed s) × RootStands st s p
    RuleOfLeaf st (ref s (inline (row t ls))) = RuleOfLeaves st ls
    RuleOfLeaf st (ref s (bundle (row t ls))) = RuleOfLeaves st ls
    RuleOfLeaf st (place p) = PlaceStands st p
    RuleOfLeaf st (present l) = RuleOfLeaf st l
    RuleOfLeaf st (node (row t ls)) = RuleOfLeaves st ls
    RuleOfLeaf st (nodes ns) = CasesDistinct [] ns × RuleOfNodes st ns
    RuleOfLeaf st (core_source c) = IsNone (e.core_refusal c)
    RuleOfLeaf st (scope (scope_of k id label ds)) = AllDistinct (declarations (scope_of k id label ds)) × RuleOfDefs (scope_of k id label ds ∷ st) ds
    RuleOfLeaf st _ = ⊤

    pub RuleOfNodes : List Scope → Nodes → Type 0
    RuleOfNodes st no_node = ⊤
    RuleOfNodes st (one_node (row t ls) ns) = RuleOfLeaves st ls × RuleOfNodes st ns

  -- the rule of a scope that stands in `st`
  abbrev pub ScopeRule : List Scope → Scope → Type 0
  ScopeRule st (scope_of k id label ds) = AllDistinct (declarations (scope_of k id label ds)) × RuleOfDefs (scope_of k id label ds ∷ st) ds
