-- A binary scope that costs less than 2 ^ 32 is short.
use Rattle.std.proofs.Common.{◌≡◌, ℕ, ◌+◌, ◌<◌, ◌^◌, length, refl, arith, true, ◌||◌}
use Rattle.comp_model.specs.Core as c
use Rattle.comp_model.specs.Core.{CoreValue, Place}
use Rattle.comp_model.specs.Model as m
use Rattle.comp_model.specs.declared.row.ScopeKind.TheVariants as kinds
use Rattle.comp_model.specs.Model.{Leaf, Leaves, no_leaf, ◌▸◌, row, Nodes, no_node, one_node, define, Defs, no_def, one_def, Scope, scope_of, Target, count_nodes, count_defs}
use Rattle.comp_model.specs.declared.row.ScopeKind.{ScopeKind}
use Rattle.comp_wire.specs.Sections.{groups}
use Rattle.comp_wire.specs.Spelled.{items_of}
use Rattle.comp_wire.specs.Fits.{is_word}
use Rattle.comp_wire.specs.Short.{is_unwritten, short_value, short_place, short_target, short_frame, short_leaf, short_leaves, short_nodes, short_defs, is_short}
use Rattle.comp_wire.proofs.FitsTest.{both, right, word, short}
use Rattle.comp_weight.specs.Cost.{width, cost_value, cost_place, cost_target, cost_leaf, cost_leaves, cost_nodes, cost_defs, cost_scope}
use Rattle.comp_weight.proofs.Spelled.{word-width, count-cost, count-defs-cost, sections-short}

is-word : (n : ℕ) → n < 2 ^ 32 → is_word n ≡ true
is-word n h = (word n).passes h

short-width : (n : ℕ) → width n < 2 ^ 32 → is_word n ≡ true
short-width n h = is-word n (word-width n h)

short-value : (v : CoreValue) → cost_value v < 2 ^ 32 → short_value v ≡ true
short-value (c.ref_index b i) h = short-width i (omega (arith, h))
short-value _ h = refl

short-place : (p : Place) → cost_place p < 2 ^ 32 → short_place p ≡ true
short-place (c.counted o n) h = short-width n h
short-place (c.named o x) h = refl

short-target : (u : Target) → cost_target u < 2 ^ 32 → short_target u ≡ true
short-target (m.index i) h = short-width i (omega (arith, h))
short-target _ h = refl

short-frame : (k : ScopeKind) (ds : Defs) → 8 + cost_defs ds < 2 ^ 32 → short_frame k ds ≡ true
short-frame kinds.Component ds h = (short (groups (items_of ds))).passes (sections-short ds h)
short-frame kinds.ComponentType ds h = is-word (count_defs ds) (omega (arith, h, count-defs-cost ds))
short-frame kinds.InstanceType ds h = is-word (count_defs ds) (omega (arith, h, count-defs-cost ds))
short-frame kinds.ModuleType ds h = is-word (count_defs ds) (omega (arith, h, count-defs-cost ds))

mutual
  short-leaf : (l : Leaf) → cost_leaf l < 2 ^ 32 → short_leaf l ≡ true
  short-leaf (m.text x) h = is-word (length x) (omega (arith, h))
  short-leaf (m.number n) h = short-width n (omega (arith, h))
  short-leaf (m.core_value v) h = short-value v h
  short-leaf (m.ref s u) h = short-target u h
  short-leaf (m.place p) h = short-place p h
  short-leaf (m.present l) h = short-leaf l (omega (arith, h))
  short-leaf (m.node (row t ls)) h = right (is_unwritten t) (short_leaves ls) (short-leaves ls (omega (arith, h)))
  short-leaf (m.nodes ns) h = both (is_word (count_nodes ns)) (short_nodes ns) (is-word (count_nodes ns) (omega (arith, h, count-cost ns))) (short-nodes ns (omega (arith, h)))
  short-leaf (m.result_count n) h = short-width n h
  short-leaf (m.scope s) h = short-scope s h
  short-leaf _ h = refl

  short-leaves : (ls : Leaves) → cost_leaves ls < 2 ^ 32 → short_leaves ls ≡ true
  short-leaves no_leaf h = refl
  short-leaves (l ▸ ls) h = both (short_leaf l) (short_leaves ls) (short-leaf l (omega (arith, h))) (short-leaves ls (omega (arith, h)))

  short-nodes : (ns : Nodes) → cost_nodes ns < 2 ^ 32 → short_nodes ns ≡ true
  short-nodes no_node h = refl
  short-nodes (one_node (row t ls) ns) h =
      both (is_unwritten t || short_leaves ls) (short_nodes ns) (right (is_unwritten t) (short_leaves ls) (short-leaves ls (omega (arith, h)))) (short-nodes ns (omega (arith, h)))

  short-defs : (ds : Defs) → cost_defs ds < 2 ^ 32 → short_defs ds ≡ true
  short-defs no_def h = refl
  short-defs (one_def (define names (row t ls)) ds) h =
      both (is_unwritten t || short_leaves ls) (short_defs ds) (right (is_unwritten t) (short_leaves ls) (short-leaves ls (omega (arith, h)))) (short-defs ds (omega (arith, h)))

  pub short-scope : (s : Scope) → cost_scope s < 2 ^ 32 → is_short s ≡ true
  short-scope (scope_of k id label ds) h = both (short_defs ds) (short_frame k ds) (short-defs ds (omega (arith, h))) (short-frame k ds h)
