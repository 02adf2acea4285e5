-- Whether each reference of a binary component is to something that stands before it.
use Rattle.std.specs.Prelude.{ℕ, ◌+◌, nat_lt, cond, Bool, true, false, List, [], ◌∷◌, ◌++◌, map, slice_get, Option, Some, None}
use Rattle.comp_model.specs.declared.Space.{Space}
use Rattle.comp_model.specs.declared.row.Row.TheVariants as rows
use Rattle.comp_model.specs.declared.row.Row.{Row}
use Rattle.comp_model.specs.Model as m
use Rattle.comp_model.specs.Model.{Leaf, Leaves, no_leaf, ◌▸◌, row, Nodes, no_node, one_node, define, Defs, no_def, one_def, Scope, scope_of}
use Rattle.comp_model.specs.Spaces.{count_in, count_items, declares_row, append_defs}
use Rattle.comp_list.specs.declared.reference.Reference.{Reference}
use Rattle.comp_list.specs.References.{references, outer_count}
use Rattle.comp_order.specs.declared.verdict.Verdict.{Verdict}
use Rattle.comp_order.specs.declared.verdict.Verdict.TheVariants.{InOrder, Early, OutOfRange}
use Rattle.comp_order.specs.declared.verdict.Order.{Order}
use Rattle.comp_order.specs.declared.verdict.Order.TheVariants.{Ordered, Index, Outer}

-- a core function type and a group of core types may refer to their own types
abbrev pub may_name_itself : Row → Bool
may_name_itself rows.CoreFunctionType = true
may_name_itself rows.CoreRec = true
may_name_itself _ = false

abbrev pub own_items : Row → Leaves → Space → ℕ
own_items t ls s = cond (may_name_itself t) (count_in s (declares_row t ls)) 0

abbrev pub verdict_below : ℕ → ℕ → Verdict
verdict_below i n = cond (nat_lt i n) InOrder Early

abbrev pub verdict_in : Reference → Option Defs → Verdict
verdict_in r None = OutOfRange
verdict_in r (Some ds) = verdict_below r.index (count_items r.space ds)

-- of a reference so many scopes outward; of each open scope the definitions before the one at hand are given, the innermost first
abbrev pub verdict_outward : List Defs → ℕ → Reference → Verdict
verdict_outward befores c r = verdict_in r (slice_get befores c)

abbrev pub verdict_of : List Defs → Defs → Row → Leaves → Option ℕ → Reference → Verdict
verdict_of befores before t ls None r = verdict_below r.index (count_items r.space before + own_items t ls r.space)
verdict_of befores before t ls (Some c) r = verdict_outward (before ∷ befores) c r

-- the verdicts on the lines of a scope, in their order; `befores` are the definitions before the one that holds the scope, of each scope around it
abbrev mutual
  pub scope_verdicts : Scope → List Defs → List Verdict
  scope_verdicts (scope_of k id label ds) befores = defs_verdicts ds befores no_def

  pub defs_verdicts : Defs → List Defs → Defs → List Verdict
  defs_verdicts no_def befores before = []
  defs_verdicts (one_def (define names (row t ls)) ds) befores before =
      map (verdict_of befores before t ls (outer_count t ls)) (references ls)
      ++ (leaves_verdicts ls (before ∷ befores) ++ defs_verdicts ds befores (append_defs before (one_def (define names (row t ls)) no_def)))

  pub leaf_verdicts : Leaf → List Defs → List Verdict
  leaf_verdicts (m.scope s) befores = scope_verdicts s befores
  leaf_verdicts (m.present l) befores = leaf_verdicts l befores
  leaf_verdicts (m.node (row t ls)) befores = leaves_verdicts ls befores
  leaf_verdicts (m.nodes ns) befores = nodes_verdicts ns befores
  leaf_verdicts _ befores = []

  pub leaves_verdicts : Leaves → List Defs → List Verdict
  leaves_verdicts no_leaf befores = []
  leaves_verdicts (l ▸ ls) befores = leaf_verdicts l befores ++ leaves_verdicts ls befores

  pub nodes_verdicts : Nodes → List Defs → List Verdict
  nodes_verdicts no_node befores = []
  nodes_verdicts (one_node (row t ls) ns) befores = leaves_verdicts ls befores ++ nodes_verdicts ns befores

-- those on the lines of a definition
abbrev pub def_verdicts : List Defs → Defs → Row → Leaves → List Verdict
def_verdicts befores before t ls = map (verdict_of befores before t ls (outer_count t ls)) (references ls) ++ leaves_verdicts ls (before ∷ befores)

-- all in order, or the number of the first line that isn't, and why
abbrev pub first_fault : ℕ → List Verdict → Order
first_fault n [] = Ordered
first_fault n (InOrder ∷ vs) = first_fault (n + 1) vs
first_fault n (Early ∷ vs) = Index n
first_fault n (OutOfRange ∷ vs) = Outer n

-- Whether the lines of a component are in order.
abbrev pub order : Scope → Order
order b = first_fault 0 (scope_verdicts b [])
