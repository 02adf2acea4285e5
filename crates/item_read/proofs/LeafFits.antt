-- A leaf that fits its field of the table of bytes holds what its shape says.
use Rattle.std.proofs.Common.{◌≡◌, length, refl, sym, ap, ◌∙◌, subst, arith}
use Rattle.comp_model.specs.declared.Space.{Space}
use Rattle.comp_model.specs.declared.Space.TheVariants.{CoreFunc}
use Rattle.comp_model.specs.declared.row.ScopeKind.{ScopeKind}
use Rattle.comp_model.specs.declared.row.ScopeKind.TheVariants as kinds
use Rattle.comp_model.specs.Model as m
use Rattle.comp_model.specs.Model.{Leaf, Leaves, no_leaf, ◌▸◌, Node, Nodes, no_node, one_node, Defs, Scope, scope_of}
use Rattle.comp_wire.specs.Table as t
use Rattle.comp_wire.specs.Table.{Family, Field}
use Rattle.comp_wire.specs.Spelled.{FitsLeaf, FitsNode, FitsNodes, FitsDeclarations, fits_leaves, fits_at, declarations_of}
use Rattle.item_read.specs.Leaves.{IsText, IsModule, IsNumber, IsFlag, IsPrimitiveByte, IsValue, IsCoreValue, IsItem, IsIndex, IsKind, IsOutward, IsOfKind, IsNoId, IsResults, IsOptional, IsRow, Each, IsList}
use Rattle.item_read.specs.Parts.{count, at, One, Two, Three}
use Rattle.item_read.specs.Rows.{Outer}
use Rattle.item_read.specs.Scopes.{DefsFit, IsScope}

pub string_at : (l : Leaf) → FitsLeaf l t.string → IsText l
string_at (m.text x) h = tt
string_at _ h = absurd h

pub name_at : (l : Leaf) → FitsLeaf l t.extern_name → IsText l
name_at (m.text x) h = tt
name_at _ h = absurd h

pub rest_at : (l : Leaf) → FitsLeaf l t.rest → IsText l
rest_at (m.text x) h = tt
rest_at _ h = absurd h

pub module_at : (l : Leaf) → FitsLeaf l t.whole_module → IsModule l
module_at (m.module_bytes x) h = tt
module_at _ h = absurd h

pub number_at : (l : Leaf) → FitsLeaf l t.unsigned → IsNumber l
number_at (m.number n) h = tt
number_at _ h = absurd h

pub maximum_at : (l : Leaf) → FitsLeaf l t.maximum → IsOptional IsNumber l
maximum_at m.absent h = tt
maximum_at (m.present l) h = number_at l h
maximum_at _ h = absurd h

pub flag_at : (l : Leaf) → FitsLeaf l t.flag → IsFlag l
flag_at (m.number n) h = h
flag_at _ h = absurd h

pub async_at : (l : Leaf) → FitsLeaf l t.async_byte → IsFlag l
async_at (m.number n) h = h
async_at _ h = absurd h

pub primitive_at : (l : Leaf) → FitsLeaf l t.primitive_byte → IsPrimitiveByte l
primitive_at (m.number n) h = h
primitive_at _ h = absurd h

pub value_at : (l : Leaf) → FitsLeaf l t.value → IsValue l
value_at (m.number n) h = h
value_at (m.ref s (m.index i)) h = h.0
value_at _ h = absurd h

pub maybe_at : (l : Leaf) → FitsLeaf l (t.optional t.value) → IsOptional IsValue l
maybe_at m.absent h = tt
maybe_at (m.present l) h = value_at l h
maybe_at _ h = absurd h

pub result_at : (l : Leaf) → FitsLeaf l (t.result t.value) → IsOptional IsValue l
result_at m.absent h = tt
result_at (m.present l) h = value_at l h
result_at _ h = absurd h

pub core_at : (l : Leaf) → FitsLeaf l t.core_type → IsCoreValue l
core_at (m.core_value v) h = tt
core_at _ h = absurd h

pub index_at : (u : Space) (l : Leaf) → FitsLeaf l (t.index_in u) → IsIndex u l
index_at u (m.ref s (m.index i)) h = (tt, h.0)
index_at u _ h = absurd h

pub function_at : (l : Leaf) → FitsLeaf l (t.optional (t.index_in CoreFunc)) → IsOptional (IsIndex CoreFunc) l
function_at m.absent h = tt
function_at (m.present l) h = index_at CoreFunc l h
function_at _ h = absurd h

pub item_at : (l : Leaf) → FitsLeaf l t.sorted_index → IsItem l
item_at (m.ref s (m.index i)) h = tt
item_at _ h = absurd h

pub core_item_at : (l : Leaf) → FitsLeaf l t.core_sorted_index → IsItem l
core_item_at (m.ref s (m.index i)) h = tt
core_item_at _ h = absurd h

pub sort_at : (l : Leaf) → FitsLeaf l t.sort → IsKind l
sort_at (m.kind s) h = tt
sort_at _ h = absurd h

pub core_sort_at : (l : Leaf) → FitsLeaf l t.core_sort → IsKind l
core_sort_at (m.kind s) h = tt
core_sort_at _ h = absurd h

pub kind_at : (u : Space) (l : Leaf) → FitsLeaf l (t.kind_is u) → IsKind l
kind_at u (m.kind s) h = tt
kind_at u _ h = absurd h

pub outward_at : (l : Leaf) → FitsLeaf l t.outward → IsOutward l
outward_at (m.place p) h = tt
outward_at _ h = absurd h

pub case_at : (l : Leaf) → FitsLeaf l t.unspelled → IsNoId l
case_at (m.case_id i) h = ap m.case_id h
case_at _ h = absurd h

pub results_at : (l : Leaf) → FitsLeaf l t.results → IsResults l
results_at (m.result_count n) h = tt
results_at _ h = absurd h

-- ---- rows, and scopes

module _ (P : Node → Type 0) (f : Family) (made : (n : Node) → FitsNode n f → P n) where
  each_of : (ns : Nodes) → FitsNodes ns f → Each P ns
  each_of no_node h = tt
  each_of (one_node n ns) h = (made n h.0, each_of ns h.1)

  pub list_at : (l : Leaf) → FitsLeaf l (t.each f) → IsList P l
  list_at (m.nodes ns) h = each_of ns h.1
  list_at _ h = absurd h

  pub row_at : (l : Leaf) → FitsLeaf l (t.one f) → IsRow P l
  row_at (m.node n) h = made n h
  row_at _ h = absurd h

  pub maybe_row_at : (l : Leaf) → FitsLeaf l (t.optional (t.one f)) → IsOptional (IsRow P) l
  maybe_row_at m.absent h = tt
  maybe_row_at (m.present l) h = row_at l h
  maybe_row_at _ h = absurd h

pub component_at : (l : Leaf) → FitsLeaf l t.whole_component → IsScope kinds.Component l
component_at (m.scope (scope_of k id label ds)) h = (h.0, subst (λ j. DefsFit j ds) (sym h.0) h.3)
component_at _ h = absurd h

pub type_at : (k : ScopeKind) → ((ds : Defs) → FitsDeclarations ds (declarations_of k) → DefsFit k ds) → (l : Leaf) → FitsLeaf l (t.type_scope k) → IsScope k l
type_at k made (m.scope (scope_of j id label ds)) h = (h.0, subst (λ i. DefsFit i ds) (sym h.0) (made ds h.4))
type_at k made _ h = absurd h

-- ---- the leaves of a row, by how many they are

pub nothing : (ls : Leaves) → length (fits_leaves ls) ≡ 0 → ls ≡ no_leaf
nothing no_leaf e = refl
nothing (a ▸ ls) e = absurd (omega arith)

pub one : (P : Leaf → Type 0) (f : Field) → ((l : Leaf) → FitsLeaf l f → P l) → (ls : Leaves) → length (fits_leaves ls) ≡ 1 → fits_at 0 f (fits_leaves ls) → One P ls
one P f p no_leaf e x = absurd (omega arith)
one P f p (a ▸ no_leaf) e x = (refl, p a x)
one P f p (a ▸ (b ▸ ls)) e x = absurd (omega arith)

pub two : (P Q : Leaf → Type 0) (f g : Field) → ((l : Leaf) → FitsLeaf l f → P l) → ((l : Leaf) → FitsLeaf l g → Q l) → (ls : Leaves) → length (fits_leaves ls) ≡ 2
    → fits_at 0 f (fits_leaves ls) → fits_at 1 g (fits_leaves ls) → Two P Q ls
two P Q f g p q no_leaf e x y = absurd (omega arith)
two P Q f g p q (a ▸ no_leaf) e x y = absurd (omega arith)
two P Q f g p q (a ▸ (b ▸ no_leaf)) e x y = (refl, p a x, q b y)
two P Q f g p q (a ▸ (b ▸ (d ▸ ls))) e x y = absurd (omega arith)

pub three : (P Q R : Leaf → Type 0) (f g i : Field) → ((l : Leaf) → FitsLeaf l f → P l) → ((l : Leaf) → FitsLeaf l g → Q l) → ((l : Leaf) → FitsLeaf l i → R l) → (ls : Leaves) → length (fits_leaves ls) ≡ 3
    → fits_at 0 f (fits_leaves ls) → fits_at 1 g (fits_leaves ls) → fits_at 2 i (fits_leaves ls) → Three P Q R ls
three P Q R f g i p q r no_leaf e x y z = absurd (omega arith)
three P Q R f g i p q r (a ▸ no_leaf) e x y z = absurd (omega arith)
three P Q R f g i p q r (a ▸ (b ▸ no_leaf)) e x y z = absurd (omega arith)
three P Q R f g i p q r (a ▸ (b ▸ (d ▸ no_leaf))) e x y z = (refl, p a x, q b y, r d z)
three P Q R f g i p q r (a ▸ (b ▸ (d ▸ (k ▸ ls)))) e x y z = absurd (omega arith)

-- an outer alias: the kind is the space of the index
of_kind : (u : Space) (a b : Leaf) → FitsLeaf a (t.index_in u) → FitsLeaf b (t.kind_is u) → IsOfKind a b
of_kind u (m.ref s (m.index i)) (m.kind r) x y = x.0 ∙ sym y
of_kind u (m.ref s (m.index i)) _ x y = absurd y
of_kind u _ b x y = absurd x

pub outer : (ls : Leaves) → length (fits_leaves ls) ≡ 3 → (u : Space) → fits_at 0 t.outward (fits_leaves ls) → fits_at 1 (t.index_in u) (fits_leaves ls) → fits_at 2 (t.kind_is u) (fits_leaves ls) → Outer ls
outer no_leaf e u x y z = absurd (omega arith)
outer (a ▸ no_leaf) e u x y z = absurd (omega arith)
outer (a ▸ (b ▸ no_leaf)) e u x y z = absurd (omega arith)
outer (a ▸ (b ▸ (d ▸ no_leaf))) e u x y z = (refl, outward_at a x, (index_at u b y).0, kind_at u d z, of_kind u b d y z)
outer (a ▸ (b ▸ (d ▸ (k ▸ ls)))) e u x y z = absurd (omega arith)

pub one_scope : (k : ScopeKind) (f : Field) → ((l : Leaf) → FitsLeaf l f → IsScope k l) → (ls : Leaves) → length (fits_leaves ls) ≡ 1 → fits_at 0 f (fits_leaves ls) → Unit {0} × (count ls ≡ 1) × IsScope k (at 0 ls)
one_scope k f p ls e x = let y = one (IsScope k) f p ls e x in (tt, y.0, y.1)
