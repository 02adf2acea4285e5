-- What a leaf is that fits the table of bytes and passes the test of the printed table.
use Rattle.std.proofs.Common.{◌≡◌, ℕ, zero, suc, ◌<◌, Bool, true, false, refl, sym, subst, arith, None, length}
use Rattle.std.specs.Str.{is_utf8}
use Rattle.comp_model.specs.declared.Space.{Space}
use Rattle.comp_model.specs.declared.Space.TheVariants as space
use Rattle.comp_model.specs.Core as c
use Rattle.comp_model.specs.Core.{CoreValue, Text}
use Rattle.comp_model.specs.Model as m
use Rattle.comp_model.specs.Model.{Leaf, Leaves, no_leaf, ◌▸◌, Node, Nodes, no_node, one_node, Defs, Scope, scope_of}
use Rattle.comp_model.specs.declared.row.ScopeKind.{ScopeKind}
use Rattle.comp_wire.specs.Table as t
use Rattle.comp_wire.specs.Table.{Family}
use Rattle.comp_wire.specs.Sections.{Word}
use Rattle.comp_wire.specs.Spelled.{FitsCore, FitsLeaf, FitsNode, FitsNodes, fits_leaves}
use Rattle.comp_wire.proofs.FitsTest.{primitive}
use Rattle.comp_wire.proofs.Groups.{and_both}
use Rattle.print_table.specs.Lines as line
use Rattle.print_table.specs.TextOf.{kind_words, core_kind_words, outer_kind_words, unnamed_leaf}
use Rattle.print_table.specs.HasText.{has_words, is_reference, leaf_has, node_has, nodes_have}
use Rattle.print_table.specs.Printable as p
use Rattle.print_table.specs.Printable.{IsText, ValuePrintable, MaybePrintable, CorePrintable, Kind, CoreKind, OuterKind, Each, MaybeNumber, ReferencePrintable, MaybeFunction}
use Rattle.print_table.proofs.Utf8Bytes.{utf8_bytes}

pub not_true : false ≡ true → ⊥
not_true e = cc

pub not_false : true ≡ false → ⊥
not_false e = cc

-- ---- lists of leaves, by how many they are

pub no_leaves : (P : Leaves → Type 0) (ls : Leaves) → length (fits_leaves ls) ≡ 0 → P no_leaf → P ls
no_leaves P no_leaf e x = x
no_leaves P (a ▸ ls) e x = absurd (omega arith)

pub one_leaf : (P : Leaves → Type 0) (ls : Leaves) → length (fits_leaves ls) ≡ 1 → ((a : Leaf) → P (a ▸ no_leaf)) → P ls
one_leaf P no_leaf e x = absurd (omega arith)
one_leaf P (a ▸ no_leaf) e x = x a
one_leaf P (a ▸ (b ▸ ls)) e x = absurd (omega arith)

pub two_leaves : (P : Leaves → Type 0) (ls : Leaves) → length (fits_leaves ls) ≡ 2 → ((a b : Leaf) → P (a ▸ b ▸ no_leaf)) → P ls
two_leaves P no_leaf e x = absurd (omega arith)
two_leaves P (a ▸ no_leaf) e x = absurd (omega arith)
two_leaves P (a ▸ (b ▸ no_leaf)) e x = x a b
two_leaves P (a ▸ (b ▸ (d ▸ ls))) e x = absurd (omega arith)

pub three_leaves : (P : Leaves → Type 0) (ls : Leaves) → length (fits_leaves ls) ≡ 3 → ((a b d : Leaf) → P (a ▸ b ▸ d ▸ no_leaf)) → P ls
three_leaves P no_leaf e x = absurd (omega arith)
three_leaves P (a ▸ no_leaf) e x = absurd (omega arith)
three_leaves P (a ▸ (b ▸ no_leaf)) e x = absurd (omega arith)
three_leaves P (a ▸ (b ▸ (d ▸ no_leaf))) e x = x a b d
three_leaves P (a ▸ (b ▸ (d ▸ (g ▸ ls)))) e x = absurd (omega arith)

-- ---- what leaves are

pub data NumberLeaf : Leaf → Type 0 where
  a_number : {n : ℕ} → Word n → NumberLeaf (m.number n)

pub data FlagLeaf : Leaf → Type 0 where
  off : FlagLeaf (m.number 0)
  on : FlagLeaf (m.number 1)

pub data PrimitiveLeaf : Leaf → Type 0 where
  a_primitive : {n : ℕ} → Rattle.comp_model.specs.Rows.is_primitive_code n ≡ true → PrimitiveLeaf (m.number n)

pub data IndexLeaf (u : Space) : Leaf → Type 0 where
  an_index : {i : ℕ} → Word i → IndexLeaf u (m.ref u (m.index i))

pub data ItemLeaf : Leaf → Type 0 where
  an_item : {s : Space} {i : ℕ} → Kind s → Word i → ItemLeaf (m.ref s (m.index i))

pub data CoreItemLeaf : Leaf → Type 0 where
  a_core_item : {s : Space} {i : ℕ} → CoreKind s → Word i → CoreItemLeaf (m.ref s (m.index i))

pub data TextLeaf : Leaf → Type 0 where
  a_text : {x : Text} → IsText x → TextLeaf (m.text x)

pub data KindLeaf : Leaf → Type 0 where
  a_kind : {s : Space} → Kind s → KindLeaf (m.kind s)

pub data CoreKindLeaf : Leaf → Type 0 where
  a_core_kind : {s : Space} → CoreKind s → CoreKindLeaf (m.kind s)

pub data CoreLeaf : Leaf → Type 0 where
  a_core_value : {v : CoreValue} → CorePrintable v → CoreLeaf (m.core_value v)

pub data ElementLeaf : Leaf → Type 0 where
  an_element : {v : CoreValue} → ReferencePrintable v → ElementLeaf (m.core_value v)

pub data NoIdLeaf : Leaf → Type 0 where
  no_id : NoIdLeaf (m.case_id None)

pub data ResultsLeaf : Leaf → Type 0 where
  a_count : {n : ℕ} → ResultsLeaf (m.result_count n)

pub data NodesLeaf (P : Node → Type 0) : Leaf → Type 0 where
  some_nodes : {ns : Nodes} → Each P ns → NodesLeaf P (m.nodes ns)

pub data NodeLeaf (P : Node → Type 0) : Leaf → Type 0 where
  a_node : {n : Node} → P n → NodeLeaf P (m.node n)

pub data MaybeNode (P : Node → Type 0) : Leaf → Type 0 where
  no_part : MaybeNode P m.absent
  a_part : {n : Node} → P n → MaybeNode P (m.present (m.node n))

-- ---- leaves that fit

pub number_at : (a : Leaf) → FitsLeaf a t.unsigned → NumberLeaf a
number_at (m.number n) h = a_number h
number_at _ h = absurd h

below_two : (n : ℕ) → n < 2 → FlagLeaf (m.number n)
below_two zero h = off
below_two (suc zero) h = on
below_two (suc (suc n)) h = absurd (omega arith)

pub flag_at : (a : Leaf) → FitsLeaf a t.flag → FlagLeaf a
flag_at (m.number n) h = below_two n h
flag_at _ h = absurd h

pub async_at : (a : Leaf) → FitsLeaf a t.async_byte → FlagLeaf a
async_at (m.number n) h = below_two n h
async_at _ h = absurd h

pub primitive_at : (a : Leaf) → FitsLeaf a t.primitive_byte → PrimitiveLeaf a
primitive_at (m.number n) h = a_primitive ((primitive n).passes h)
primitive_at _ h = absurd h

pub index_at : (u : Space) (a : Leaf) → FitsLeaf a (t.index_in u) → IndexLeaf u a
index_at u (m.ref s (m.index i)) h = subst (λ k. IndexLeaf u (m.ref k (m.index i))) (sym h.0) (an_index h.1)
index_at u _ h = absurd h

pub value_at : (a : Leaf) → FitsLeaf a t.value → ValuePrintable a
value_at (m.number n) h = p.a_primitive ((primitive n).passes h)
value_at (m.ref s (m.index i)) h = subst (λ k. ValuePrintable (m.ref k (m.index i))) (sym h.0) (p.an_index h.1)
value_at _ h = absurd h

pub maybe_at : (a : Leaf) → FitsLeaf a (t.optional t.value) → MaybePrintable a
maybe_at m.absent h = MaybePrintable.none
maybe_at (m.present l) h = MaybePrintable.some (value_at l h)
maybe_at _ h = absurd h

pub result_at : (a : Leaf) → FitsLeaf a (t.result t.value) → MaybePrintable a
result_at m.absent h = MaybePrintable.none
result_at (m.present l) h = MaybePrintable.some (value_at l h)
result_at _ h = absurd h

pub maximum_at : (a : Leaf) → FitsLeaf a t.maximum → MaybeNumber a
maximum_at m.absent h = MaybeNumber.none
maximum_at (m.present (m.number n)) h = MaybeNumber.some h
maximum_at _ h = absurd h

pub function_at : (a : Leaf) → FitsLeaf a (t.optional (t.index_in space.CoreFunc)) → MaybeFunction a
function_at m.absent h = MaybeFunction.none
function_at (m.present (m.ref s (m.index i))) h = subst (λ k. MaybeFunction (m.present (m.ref k (m.index i)))) (sym h.0) (MaybeFunction.some h.1)
function_at _ h = absurd h

pub no_id_at : (a : Leaf) → FitsLeaf a t.unspelled → NoIdLeaf a
no_id_at (m.case_id i) h = subst (λ k. NoIdLeaf (m.case_id k)) (sym h) no_id
no_id_at _ h = absurd h

pub results_at : (a : Leaf) → FitsLeaf a t.results → ResultsLeaf a
results_at (m.result_count n) h = a_count
results_at _ h = absurd h

core_value : (v : CoreValue) → FitsCore v → CorePrintable v
core_value c.i32 h = CorePrintable.i32
core_value c.i64 h = CorePrintable.i64
core_value c.f32 h = CorePrintable.f32
core_value c.f64 h = CorePrintable.f64
core_value c.v128 h = CorePrintable.v128
core_value (c.ref_func b) h = CorePrintable.func
core_value (c.ref_extern b) h = CorePrintable.extern
core_value (c.ref_index b i) h = CorePrintable.index h
core_value _ h = absurd h

pub core_at : (a : Leaf) → FitsLeaf a t.core_type → CoreLeaf a
core_at (m.core_value v) h = a_core_value (core_value v h)
core_at _ h = absurd h

-- ---- those of which the printed table asks more

text_by : (x : Text) → is_utf8 x ≡ true → IsText x
text_by x e = record { utf8 = e; bytes = utf8_bytes x e }

pub text_at : (a : Leaf) → FitsLeaf a t.string → leaf_has a line.string ≡ true → TextLeaf a
text_at (m.text x) h e = a_text (text_by x e)
text_at _ h e = absurd h

pub name_at : (a : Leaf) → FitsLeaf a t.extern_name → leaf_has a line.string ≡ true → TextLeaf a
name_at (m.text x) h e = a_text (text_by x e)
name_at _ h e = absurd h

kind : (s : Space) → has_words (kind_words s) ≡ true → Kind s
kind space.CoreModule e = Kind.core_module
kind space.Func e = Kind.func
kind space.Value e = Kind.value
kind space.Ty e = Kind.type
kind space.Component e = Kind.component
kind space.Instance e = Kind.instance
kind _ e = absurd (not_true e)

core_kind : (s : Space) → has_words (core_kind_words s) ≡ true → CoreKind s
core_kind space.CoreFunc e = CoreKind.func
core_kind space.CoreTable e = CoreKind.table
core_kind space.CoreMemory e = CoreKind.memory
core_kind space.CoreGlobal e = CoreKind.global
core_kind space.CoreTag e = CoreKind.a_tag
core_kind _ e = absurd (not_true e)

pub outer_kind : (s : Space) → has_words (outer_kind_words s) ≡ true → OuterKind s
outer_kind space.CoreModule e = OuterKind.core_module
outer_kind space.CoreType e = OuterKind.core_type
outer_kind space.Ty e = OuterKind.type
outer_kind space.Component e = OuterKind.component
outer_kind _ e = absurd (not_true e)

pub kind_at : (a : Leaf) → FitsLeaf a t.sort → leaf_has a line.kind ≡ true → KindLeaf a
kind_at (m.kind s) h e = a_kind (kind s e)
kind_at _ h e = absurd h

pub core_kind_at : (a : Leaf) → FitsLeaf a t.core_sort → leaf_has a line.core_kind ≡ true → CoreKindLeaf a
core_kind_at (m.kind s) h e = a_core_kind (core_kind s e)
core_kind_at _ h e = absurd h

pub item_at : (a : Leaf) → FitsLeaf a t.sorted_index → leaf_has a line.item ≡ true → ItemLeaf a
item_at (m.ref s (m.index i)) h e = an_item (kind s e) h
item_at _ h e = absurd h

pub core_item_at : (a : Leaf) → FitsLeaf a t.core_sorted_index → leaf_has a line.core_item ≡ true → CoreItemLeaf a
core_item_at (m.ref s (m.index i)) h e = a_core_item (core_kind s e) h.1
core_item_at _ h e = absurd h

element : (v : CoreValue) → FitsCore v → is_reference v ≡ true → ReferencePrintable v
element (c.ref_func b) h e = ReferencePrintable.func
element (c.ref_extern b) h e = ReferencePrintable.extern
element (c.ref_index b i) h e = ReferencePrintable.index h
element _ h e = absurd (not_true e)

pub element_at : (a : Leaf) → FitsLeaf a t.core_type → leaf_has a line.element ≡ true → ElementLeaf a
element_at (m.core_value v) h e = an_element (element v h e)
element_at _ h e = absurd h

-- ---- rows

module _ (P : Node → Type 0) (f : Family) (made : (n : Node) → FitsNode n f → node_has n ≡ true → P n) where
  each_of : (ns : Nodes) → FitsNodes ns f → nodes_have ns ≡ true → Each P ns
  each_of no_node h e = tt
  each_of (one_node n ns) h e = let s = and_both (node_has n) (nodes_have ns) e in (made n h.0 s.0, each_of ns h.1 s.1)

  pub nodes_at : (a : Leaf) → FitsLeaf a (t.each f) → leaf_has a line.each ≡ true → NodesLeaf P a
  nodes_at (m.nodes ns) h e = some_nodes (each_of ns h.1 e)
  nodes_at _ h e = absurd h

  pub groups_at : (x : _) (a : Leaf) → FitsLeaf a (t.each f) → leaf_has a (line.each_in x) ≡ true → NodesLeaf P a
  groups_at x (m.nodes ns) h e = some_nodes (each_of ns h.1 e)
  groups_at x _ h e = absurd h

  pub node_at : (a : Leaf) → FitsLeaf a (t.one f) → leaf_has a line.one ≡ true → NodeLeaf P a
  node_at (m.node n) h e = a_node (made n h e)
  node_at _ h e = absurd h

  pub maybe_node_at : (a : Leaf) → FitsLeaf a (t.optional (t.one f)) → leaf_has a (line.optional line.one) ≡ true → MaybeNode P a
  maybe_node_at m.absent h e = no_part
  maybe_node_at (m.present (m.node n)) h e = a_part (made n h e)
  maybe_node_at _ h e = absurd h

-- ---- without name sections

-- a leaf that holds no scope is itself
abbrev pub holds_scope : t.Field → Bool
holds_scope t.whole_component = true
holds_scope (t.type_scope k) = true
holds_scope _ = false

no_scope : (s : Scope) (f : t.Field) → holds_scope f ≡ false → FitsLeaf (m.scope s) f → ⊥
no_scope s t.whole_component e h = not_false e
no_scope s (t.type_scope k) e h = not_false e
no_scope s _ e h = h

pub same_leaf : (f : t.Field) (a : Leaf) → holds_scope f ≡ false → FitsLeaf a f → unnamed_leaf a ≡ a
same_leaf f (m.scope (scope_of k id label ds)) e h = absurd (no_scope (scope_of k id label ds) f e h)
same_leaf f _ e h = refl

pub as_unnamed : (X : Leaf → Type 0) (f : t.Field) (a : Leaf) → holds_scope f ≡ false → FitsLeaf a f → X a → X (unnamed_leaf a)
as_unnamed X f a e h x = subst X (sym (same_leaf f a e h)) x

pub as_named : (f : t.Field) (g : line.Field) (a : Leaf) → holds_scope f ≡ false → FitsLeaf a f → leaf_has (unnamed_leaf a) g ≡ true → leaf_has a g ≡ true
as_named f g a e h x = subst (λ b. leaf_has b g ≡ true) (same_leaf f a e h) x
