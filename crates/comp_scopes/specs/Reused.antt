-- Which inline nodes reuse an earlier definition: a value type or function type an equal one of its scope, a signature of a module type an equal function type (Component Model text format, "Module types").
use Rattle.std.specs.Prelude.{ℕ, ◌+◌, Bool, true, false, ◌&&◌, nat_eq, bytes_eq, cond, List, [], ◌∷◌, ◌++◌, Option, Some, None}
use Rattle.comp_model.specs.declared.row.Row.TheVariants as rows
use Rattle.comp_model.specs.declared.row.Row.{Row}
use Rattle.comp_model.specs.RowNumbers.{same_row, is_row}
use Rattle.comp_model.specs.Rows.{value_rows}
use Rattle.comp_model.specs.Core.{Id, same_id}
use Rattle.comp_model.specs.Model.{Leaf, text, number, ref, absent, present, node, nodes, case_id, Target, numeral, name, path, inline, bundle, Path, root_number, root_name, export_of, Leaves, no_leaf, ◌▸◌, row, Nodes, no_node, one_node, define, Defs, no_def, one_def, Scope, defs_of}
use Rattle.comp_model.specs.Spaces.{same_space}
use Rattle.comp_model.specs.Origins.{Origin, written, inline_type, same_origin}
use Rattle.comp_scopes.specs.References.{references_leaf, references}
use Rattle.comp_scopes.specs.Signatures.{same_reach, reused_signature}

-- ---- equality of what is written, offsets aside

abbrev pub same_path : Path → Path → Bool
same_path (root_number o n) (root_number p m) = nat_eq n m
same_path (root_name x) (root_name y) = same_id x y
same_path (export_of p t) (export_of q v) = same_path p q && bytes_eq t v
same_path _ _ = false

abbrev pub same_case : Option Id → Option Id → Bool
same_case None None = true
same_case (Some x) (Some y) = same_id x y
same_case _ _ = false

-- a value type or a function type of a component, which alone are shared
abbrev pub is_shared : Row → Bool
is_shared t = is_row t (rows.FunctionType ∷ value_rows)

-- of the leaves of value types and function types; others are equal to none
abbrev mutual
  pub same_leaves : Leaves → Leaves → Bool
  same_leaves no_leaf no_leaf = true
  same_leaves (l ▸ ls) (m ▸ ms) = same_leaf l m && same_leaves ls ms
  same_leaves _ _ = false

  pub same_leaf : Leaf → Leaf → Bool
  same_leaf (text t) (text v) = bytes_eq t v
  same_leaf (number n) (number m) = nat_eq n m
  same_leaf (ref s t) (ref r v) = same_space s r && same_target t v
  same_leaf absent absent = true
  same_leaf (present l) (present m) = same_leaf l m
  same_leaf (nodes ns) (nodes ks) = same_nodes ns ks
  same_leaf (case_id x) (case_id y) = same_case x y
  same_leaf _ _ = false

  pub same_target : Target → Target → Bool
  same_target (numeral o n) (numeral p m) = nat_eq n m
  same_target (name r x) (name q y) = same_reach r q && same_id x y
  same_target (path p) (path q) = same_path p q
  same_target (inline (row t ls)) (inline (row v ms)) = is_shared t && (same_row t v && same_leaves ls ms)
  same_target _ _ = false

  pub same_nodes : Nodes → Nodes → Bool
  same_nodes no_node no_node = true
  same_nodes (one_node (row t ls) ns) (one_node (row v ms) ks) = same_row t v && (same_leaves ls ms && same_nodes ns ks)
  same_nodes _ _ = false

-- ---- the types of a scope

-- a type with its mark
pub record Typed : Type 0 where
  pub origin : Origin
  pub tag : Row
  pub leaves : Leaves

-- the first of these types, up to the one with the mark o, that is equal; none where that is the one with the mark o
abbrev pub earlier_type : Origin → Row → Leaves → List Typed → Option Origin
earlier_type o t ls [] = None
earlier_type o t ls (x ∷ xs) = cond (same_origin o x.origin) None (cond (same_row t x.tag && same_leaves ls x.leaves) (Some x.origin) (earlier_type o t ls xs))

-- new ones, and those that follow behind them
abbrev pub then_more : {A : Type 0} → List A → (List A → List A) → List A
then_more new more = new ++ more new

-- an inline type behind the new ones that stand in it, where it reuses none
abbrev pub typed_once : Typed → List Typed → Option Origin → List Typed
typed_once x new (Some o) = []
typed_once x new None = new ++ x ∷ []

abbrev pub typed_inline : Typed → List Typed → List Typed → List Typed
typed_inline x earlier new = typed_once x new (earlier_type x.origin x.tag x.leaves (earlier ++ new))

-- another inline node, which is no type that is shared: those that stand in it, unless it is a signature that is reused
abbrev pub typed_within : Option ℕ → List Typed → List Typed
typed_within (Some j) new = []
typed_within None new = new

-- a type definition of a shared row
abbrev pub written_type : ℕ → Row → Leaves → List Typed
written_type k t ls = cond (is_shared t) (record { origin = written k; tag = t; leaves = ls } ∷ []) []

module _ (c : Scope) where
  -- the inline types that have a mark, in leaves of definition k of the scope, from reference u on; `earlier` are the types with marks
  -- before these
  abbrev mutual
    pub types_of_leaves : ℕ → ℕ → Leaves → List Typed → List Typed
    types_of_leaves k u no_leaf earlier = []
    types_of_leaves k u (l ▸ ls) earlier = then_more (types_of_leaf k u l earlier) (λ new. types_of_leaves k (u + references_leaf l) ls (earlier ++ new))

    pub types_of_leaf : ℕ → ℕ → Leaf → List Typed → List Typed
    types_of_leaf k u (ref s (inline (row t ls))) earlier =
        cond (is_shared t) (typed_inline (record { origin = inline_type k u; tag = t; leaves = ls }) earlier (types_of_leaves k (u + 1) ls earlier)) (typed_within (reused_signature (c ∷ []) k t ls) (types_of_leaves k (u + 1) ls earlier))
    types_of_leaf k u (ref s (bundle (row t ls))) earlier = types_of_leaves k (u + 1) ls earlier
    types_of_leaf k u (present l) earlier = types_of_leaf k u l earlier
    types_of_leaf k u (node (row t ls)) earlier = types_of_leaves k u ls earlier
    types_of_leaf k u (nodes ns) earlier = types_of_nodes k u ns earlier
    types_of_leaf k u _ earlier = []

    pub types_of_nodes : ℕ → ℕ → Nodes → List Typed → List Typed
    types_of_nodes k u no_node earlier = []
    types_of_nodes k u (one_node (row t ls) ns) earlier = then_more (types_of_leaves k u ls earlier) (λ new. types_of_nodes k (u + references ls) ns (earlier ++ new))

  -- the types that have marks, in the definitions from number k on
  abbrev pub types_of_defs : ℕ → Defs → List Typed → List Typed
  types_of_defs k no_def earlier = []
  types_of_defs k (one_def (define names (row t ls)) ds) earlier = then_more (types_of_leaves k 0 ls earlier ++ written_type k t ls) (λ new. types_of_defs (k + 1) ds (earlier ++ new))

-- the value types and function types of a scope that have marks, in the order of these
abbrev pub types : Scope → List Typed
types s = types_of_defs s 0 (defs_of s) []

-- ---- what an inline node reuses

-- the mark of the type that stands for a shared one which is reference u of definition k, where an earlier one is equal
abbrev pub reused_type : List Scope → ℕ → ℕ → Row → Leaves → Option Origin
reused_type [] k u t ls = None
reused_type (s ∷ st) k u t ls = earlier_type (inline_type k u) t ls (types s)

abbrev pub as_written : Option ℕ → Option Origin
as_written None = None
as_written (Some k) = Some (written k)

-- the mark of what an inline node of this row, reference u of definition k, reuses
abbrev pub reused : List Scope → ℕ → ℕ → Row → Leaves → Option Origin
reused st k u t ls = cond (is_shared t) (reused_type st k u t ls) (as_written (reused_signature st k t ls))
