-- The bytes of a binary scope are at most what it costs, where that is below 2 ^ 32.
use Rattle.std.proofs.Common.{◌≡◌, ℕ, zero, suc, ◌+◌, ◌<◌, ◌≤◌, ◌^◌, List, length, length-append, refl, arith, Bool, true, false, Option}
use Rattle.std.specs.Prelude.{nat_lt, if◌then◌else◌}
use Rattle.std.proofs.lemmas.Bool.{ltb-true}
use Rattle.comp_model.specs.declared.Space.{Space}
use Rattle.comp_model.specs.declared.Space.TheVariants.{CoreFunc}
use Rattle.comp_model.specs.Core as c
use Rattle.comp_model.specs.CoreModules.{CoreModule}
use Rattle.comp_model.specs.Core.{Text, CoreValue, Place}
use Rattle.comp_model.specs.Model as m
use Rattle.comp_model.specs.Model.{Leaf, Target, Leaves, no_leaf, ◌▸◌, Node, row, Nodes, no_node, one_node, Names, define, Defs, no_def, one_def, Scope, scope_of, count_nodes, count_defs}
use Rattle.comp_model.specs.declared.row.ScopeKind.{ScopeKind}
use Rattle.comp_model.specs.Leb.{uleb, sleb}
use Rattle.comp_wire.specs.Table as t
use Rattle.comp_wire.specs.Table.{Family, Field}
use Rattle.comp_wire.specs.Sections.{groups, sections, preamble, rows_of, section_of, EachShort}
use Rattle.comp_model.specs.Payloads.{sort_bytes}
use Rattle.comp_wire.specs.Spelled.{core_bytes, spell_reference, declarations_of, spell_leaf, spell_leaves, spell_node, spell_nodes, spell_declarations, items_of, spell_type_scope, spell_component}
use Rattle.comp_wire.proofs.Numbers.{uleb_short, sleb_short}
use Rattle.comp_weight.specs.Cost.{apart, width, cost_value, cost_place, cost_target, cost_leaf, cost_leaves, cost_node, cost_nodes, cost_defs, cost_scope}
use Rattle.comp_weight.proofs.Sections.{framed-length, each-short, sections-cost}
use Rattle.comp_weight.proofs.Rows.{At, row-cost}

pub word-width : (n : ℕ) → width n < 2 ^ 32 → n < 2 ^ 32
unfolding width
word-width n h = go (nat_lt n (2 ^ 32)) refl h
  where
    go : (b : Bool) → nat_lt n (2 ^ 32) ≡ b → (if b then 5 else 2 ^ 32) < 2 ^ 32 → n < 2 ^ 32
    go true e g = ltb-true n (2 ^ 32) e
    go false e g = absurd (omega (arith, g))

five-width : (n : ℕ) → 5 ≤ width n
unfolding width
five-width n = go (nat_lt n (2 ^ 32))
  where
    go : (b : Bool) → 5 ≤ (if b then 5 else 2 ^ 32)
    go true = omega arith
    go false = omega arith

uleb-width : (n : ℕ) → width n < 2 ^ 32 → length (uleb n) ≤ width n
uleb-width n h = omega (arith, uleb_short n (word-width n h), five-width n)

sleb-width : (n : ℕ) → width n < 2 ^ 32 → length (sleb n) ≤ width n
sleb-width n h = omega (arith, sleb_short n (word-width n h), five-width n)

pub sort-length : (s : Space) → length (sort_bytes s) ≤ 2
sort-length CoreFunc = omega arith
sort-length _ = omega arith

text-cost : (x : Text) (f : Field) → 6 + length x < 2 ^ 32 → length (spell_leaf (m.text x) f) ≤ 6 + length x
text-cost x t.string h = omega (arith, framed-length x (omega (arith, h)))
text-cost x t.extern_name h = omega (arith, framed-length x (omega (arith, h)))
text-cost x t.rest h = omega arith
text-cost x _ h = omega arith

number-cost : (n : ℕ) (f : Field) → 1 + width n < 2 ^ 32 → length (spell_leaf (m.number n) f) ≤ 1 + width n
number-cost n t.unsigned h = omega (arith, uleb-width n (omega (arith, h)))
number-cost n t.primitive_byte h = omega arith
number-cost n t.value h = omega arith
number-cost n t.async_byte h = omega arith
number-cost n t.flag h = omega arith
number-cost n _ h = omega arith

kind-cost : (s : Space) (f : Field) → length (spell_leaf (m.kind s) f) ≤ 2
kind-cost s t.sort = sort-length s
kind-cost s t.core_sort = sort-length s
kind-cost s _ = omega arith

value-length : (v : CoreValue) → cost_value v < 2 ^ 32 → length (core_bytes v) ≤ cost_value v
value-length (c.ref_func true) h = omega arith
value-length (c.ref_func false) h = omega arith
value-length (c.ref_extern true) h = omega arith
value-length (c.ref_extern false) h = omega arith
value-length (c.ref_index true i) h = omega (arith, sleb-width i (omega (arith, h)))
value-length (c.ref_index false i) h = omega (arith, sleb-width i (omega (arith, h)))
value-length _ h = omega arith

value-cost : (v : CoreValue) (f : Field) → cost_value v < 2 ^ 32 → length (spell_leaf (m.core_value v) f) ≤ cost_value v
value-cost v t.core_type h = value-length v h
value-cost v _ h = omega arith

reference-cost : (s : Space) (u : Target) (f : Field) → cost_target u < 2 ^ 32 → length (spell_reference f s u) ≤ cost_target u
reference-cost s (m.index i) (t.index_in v) h = omega (arith, uleb-width i (omega (arith, h)))
reference-cost s (m.index i) t.any_index h = omega (arith, uleb-width i (omega (arith, h)))
reference-cost s (m.index i) t.sorted_index h = omega (arith, length-append (sort_bytes s) (uleb i), sort-length s, uleb-width i (omega (arith, h)))
reference-cost s (m.index i) t.core_sorted_index h = omega (arith, uleb-width i (omega (arith, h)))
reference-cost s (m.index i) t.value h = omega (arith, sleb-width i (omega (arith, h)))
reference-cost s (m.index i) _ h = omega arith
reference-cost s (m.numeral o n) t.any_index h = omega arith
reference-cost s (m.numeral o n) _ h = omega arith
reference-cost s (m.name o n) t.any_index h = omega arith
reference-cost s (m.name o n) _ h = omega arith
reference-cost s (m.path o) t.any_index h = omega arith
reference-cost s (m.path o) _ h = omega arith
reference-cost s (m.inline o) t.any_index h = omega arith
reference-cost s (m.inline o) _ h = omega arith
reference-cost s (m.bundle o) t.any_index h = omega arith
reference-cost s (m.bundle o) _ h = omega arith

place-cost : (p : Place) (f : Field) → cost_place p < 2 ^ 32 → length (spell_leaf (m.place p) f) ≤ cost_place p
place-cost (c.counted o n) t.outward h = uleb-width n h
place-cost (c.counted o n) _ h = omega arith
place-cost (c.named o x) t.outward h = omega arith
place-cost (c.named o x) _ h = omega arith

results-cost : (n : ℕ) (f : Field) → width n < 2 ^ 32 → length (spell_leaf (m.result_count n) f) ≤ width n
results-cost n t.results h = uleb-width n h
results-cost n _ h = omega arith

absent-cost : (f : Field) → length (spell_leaf m.absent f) ≤ 2
absent-cost (t.optional f) = omega arith
absent-cost (t.result f) = omega arith
absent-cost t.presence = omega arith
absent-cost _ = omega arith

module-cost : (bs : List ℕ) (f : Field) → length (spell_leaf (m.module_bytes bs) f) ≤ length bs
module-cost bs t.whole_module = omega arith
module-cost bs _ = omega arith

case-cost : (x : Option c.Id) (f : Field) → length (spell_leaf (m.case_id x) f) ≤ 0
case-cost x t.unsigned = omega arith
case-cost x _ = omega arith

ids-cost : (x : List (Option c.Id)) (f : Field) → length (spell_leaf (m.result_ids x) f) ≤ 0
ids-cost x t.unsigned = omega arith
ids-cost x _ = omega arith

source-cost : (x : CoreModule) (f : Field) → length (spell_leaf (m.core_source x) f) ≤ 0
source-cost x t.unsigned = omega arith
source-cost x _ = omega arith

-- a part that holds others, by what these cost
present-cost : (l : Leaf) (f : Field) → ((g : Field) → length (spell_leaf l g) ≤ cost_leaf l) → length (spell_leaf (m.present l) f) ≤ 1 + cost_leaf l
present-cost l (t.optional f) h = omega (arith, h f)
present-cost l (t.result f) h = omega (arith, h f)
present-cost l t.presence h = omega arith
present-cost l t.maximum h = omega (arith, h t.unsigned)
present-cost l _ h = omega arith

one-cost : (n : Node) (f : Field) → ((g : Family) → length (spell_node n g) ≤ cost_node n) → length (spell_leaf (m.node n) f) ≤ cost_node n
one-cost n (t.one f) h = h f
one-cost n _ h = omega arith

pub count-cost : (ns : Nodes) → count_nodes ns ≤ cost_nodes ns
count-cost no_node = omega arith
count-cost (one_node (row u ls) ns) = omega (arith, count-cost ns)

each-cost : (ns : Nodes) (f : Field) → 5 + cost_nodes ns < 2 ^ 32 → ((g : Family) → length (spell_nodes ns g) ≤ cost_nodes ns) → length (spell_leaf (m.nodes ns) f) ≤ 5 + cost_nodes ns
each-cost ns (t.each f) b h = omega (arith, length-append (uleb (count_nodes ns)) (spell_nodes ns f), uleb_short (count_nodes ns) (omega (arith, b, count-cost ns)), h f)
each-cost ns _ b h = omega arith

scope-leaf-cost : (s : Scope) (f : Field) → ((k : ScopeKind) → length (spell_type_scope s k) ≤ cost_scope s) → length (spell_component s) ≤ cost_scope s → length (spell_leaf (m.scope s) f) ≤ cost_scope s
scope-leaf-cost s (t.type_scope k) g h = g k
scope-leaf-cost s t.whole_component g h = h
scope-leaf-cost s _ g h = omega arith

halves-cost : (l : Leaf) → ((g : Field) → length (spell_leaf l g) ≤ cost_leaf l) → length (spell_leaf l t.presence) + length (spell_leaf l t.maximum) ≤ cost_leaf l
halves-cost m.absent h = omega arith
halves-cost (m.present l) h = let i = h (t.optional t.unsigned) in omega (arith, i)
halves-cost (m.text x) h = omega arith
halves-cost _ h = omega arith

pub count-defs-cost : (ds : Defs) → count_defs ds ≤ cost_defs ds
count-defs-cost no_def = omega arith
count-defs-cost (one_def (define names (row u ls)) ds) = omega (arith, count-defs-cost ds)

-- what the leaf at a place costs
abbrev cost_at : ℕ → Leaves → ℕ
cost_at i no_leaf = 0
cost_at zero (l ▸ ls) = cost_leaf l
cost_at (suc i) (l ▸ ls) = cost_at i ls

first-three : (ls : Leaves) → cost_at 0 ls + (cost_at 1 ls + cost_at 2 ls) ≤ cost_leaves ls
first-three no_leaf = omega arith
first-three (l ▸ no_leaf) = omega arith
first-three (l ▸ k ▸ no_leaf) = omega arith
first-three (l ▸ k ▸ j ▸ ls) = omega arith

mutual
  pub leaf-cost : (l : Leaf) → cost_leaf l < 2 ^ 32 → (f : Field) → length (spell_leaf l f) ≤ cost_leaf l
  leaf-cost (m.text x) h f = text-cost x f h
  leaf-cost (m.number n) h f = number-cost n f h
  leaf-cost (m.kind s) h f = kind-cost s f
  leaf-cost (m.core_value v) h f = value-cost v f h
  leaf-cost (m.ref s u) h f = reference-cost s u f h
  leaf-cost (m.place p) h f = place-cost p f h
  leaf-cost m.absent h f = absent-cost f
  leaf-cost (m.present l) h f = present-cost l f (leaf-cost l (omega (arith, h)))
  leaf-cost (m.node n) h f = one-cost n f (node-cost n h)
  leaf-cost (m.nodes ns) h f = each-cost ns f h (nodes-cost ns (omega (arith, h)))
  leaf-cost (m.case_id x) h f = case-cost x f
  leaf-cost (m.result_ids ids) h f = ids-cost ids f
  leaf-cost (m.result_count n) h f = results-cost n f h
  leaf-cost (m.core_source x) h f = source-cost x f
  leaf-cost (m.module_bytes bs) h f = module-cost bs f
  leaf-cost (m.scope s) h f = scope-leaf-cost s f (type-cost s h) (component-cost s h)

  leaves-cost : (ls : Leaves) → cost_leaves ls < 2 ^ 32 → (i : ℕ) → At i (spell_leaves ls) (cost_at i ls)
  leaves-cost no_leaf h i = (λ f. omega arith, omega arith)
  leaves-cost (l ▸ ls) h zero = (leaf-cost l (omega (arith, h)), halves-cost l (leaf-cost l (omega (arith, h))))
  leaves-cost (l ▸ ls) h (suc i) = leaves-cost ls (omega (arith, h)) i

  pub node-cost : (n : Node) → cost_node n < 2 ^ 32 → (f : Family) → length (spell_node n f) ≤ cost_node n
  node-cost (row u ls) h f =
      let at = leaves-cost ls (omega (arith, h)) in
      omega (arith, row-cost (spell_leaves ls) (cost_at 0 ls) (cost_at 1 ls) (cost_at 2 ls) (at 0) (at 1) (at 2) u f, first-three ls)

  nodes-cost : (ns : Nodes) → cost_nodes ns < 2 ^ 32 → (f : Family) → length (spell_nodes ns f) ≤ cost_nodes ns
  nodes-cost no_node h f = omega arith
  nodes-cost (one_node n ns) h f = omega (arith, length-append (spell_node n f) (spell_nodes ns f), node-cost n (omega (arith, h)) f, nodes-cost ns (omega (arith, h)) f)

  declarations-cost : (ds : Defs) → cost_defs ds < 2 ^ 32 → (f : Family) → length (spell_declarations ds f) ≤ cost_defs ds
  declarations-cost no_def h f = omega arith
  declarations-cost (one_def (define names n) ds) h f = omega (arith, length-append (spell_node n f) (spell_declarations ds f), node-cost n (omega (arith, h)) f, declarations-cost ds (omega (arith, h)) f)

  items-cost : (ds : Defs) → cost_defs ds < 2 ^ 32 → apart (items_of ds) ≤ cost_defs ds
  items-cost no_def h = omega arith
  items-cost (one_def (define names (row u ls)) ds) h = omega (arith, node-cost (row u ls) (omega (arith, h)) (rows_of (section_of u)), items-cost ds (omega (arith, h)))

  type-cost : (s : Scope) → cost_scope s < 2 ^ 32 → (k : ScopeKind) → length (spell_type_scope s k) ≤ cost_scope s
  type-cost (scope_of k id label ds) h kind =
      omega (arith, length-append (uleb (count_defs ds)) (spell_declarations ds (declarations_of kind)), uleb_short (count_defs ds) (omega (arith, h, count-defs-cost ds)), declarations-cost ds (omega (arith, h)) (declarations_of kind))

  pub component-cost : (s : Scope) → cost_scope s < 2 ^ 32 → length (spell_component s) ≤ cost_scope s
  component-cost (scope_of k id label ds) h =
      let i = items-cost ds (omega (arith, h)) in
      omega (arith, length-append preamble (sections (groups (items_of ds))), sections-cost (items_of ds) (omega (arith, h, i)), i)

pub sections-short : (ds : Defs) → 8 + cost_defs ds < 2 ^ 32 → EachShort (groups (items_of ds))
sections-short ds h = each-short (items_of ds) (omega (arith, h, items-cost ds (omega (arith, h))))
