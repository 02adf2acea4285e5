-- A leaf of a sort is good where the sort fits its shape.
use Rattle.std.specs.Str.{is_utf8}
use Rattle.std.proofs.Common.{◌≡◌, ◌^◌, ℕ, true, ◌&&◌, ◌||◌, List, refl, subst, inl, inr, nat_lt, ltb-true}
use Rattle.comp_model.specs.Core as core
use Rattle.comp_model.specs.Core.{Text, Reach, CoreValue}
use Rattle.comp_model.specs.Model as m
use Rattle.comp_model.specs.Model.{Leaf, Nodes, no_node, one_node, row}
use Rattle.comp_model.specs.declared.row.Row.{Row}
use Rattle.comp_model.specs.Utf8Names.{is_spelled}
use Rattle.comp_model.specs.Rows as w
use Rattle.comp_model.specs.Rows.{Shape, fits_number, ShapedNodes, is_core_value, fits_reach, fits_space, takes_path, path_into, is_list, rows_of_list, the_option, is_optional, is_text}
use Rattle.comp_expanded.specs.OfText.{TextReach}
use Rattle.text_rules.specs.Sorts.{Sort}
use Rattle.text_rules.specs.Good.{GoodLeaf}
use Rattle.text_rules.specs.HasSorts.{HasLeaf}
use Rattle.text_rules.specs.HasSorts as is
use Rattle.text_rules.specs.LeafTests.{fits_sort, takes_number, takes_payload, is_plain_reach, is_core_word, is_value_type, is_own_value, are_rows}
use Rattle.text_rules.proofs.Booleans.{make_true, row_among}
use Rattle.wast_grammar.proofs.Moves.{and_true, or_true}

takes_any : (s : Shape) (n : ℕ) → takes_number s ≡ true → fits_number s n ≡ true
takes_any w.a_number n h = refl
takes_any _ n h = absurd (cc)

reach_of_text : (q : Reach) → is_plain_reach q ≡ true → TextReach q
reach_of_text core.outward h = tt
reach_of_text core.own h = tt
reach_of_text (core.at_place p) h = absurd (cc)

core_word : (v : CoreValue) (s : Shape) → (is_core_value s && is_core_word v) ≡ true → GoodLeaf s (m.core_value v)
core_word (core.ref_index b n) s h = let q = and_true (is_core_value s) _ h in absurd (cc)
core_word (core.ref_numeral b o n) s h = let q = and_true (is_core_value s) _ h in absurd (cc)
core_word (core.ref_name b r x) s h = let q = and_true (is_core_value s) _ h in absurd (cc)
core_word core.i32 s h = record { shaped = h; written = tt; short = tt; named = tt; utf8 = tt; of_text = tt }
core_word _ s h = record { shaped = h; written = tt; short = tt; named = tt; utf8 = tt; of_text = tt }

value_shape : (x s : Shape) → (is_value_type x && is_value_type s) ≡ true → x ≡ s
value_shape w.a_value_type w.a_value_type h = refl
value_shape w.a_value_type _ h = absurd (cc)
value_shape _ _ h = absurd (cc)

own_shape : (x s : Shape) → (is_own_value x && is_own_value s) ≡ true → x ≡ s
own_shape w.an_own_core_value w.an_own_core_value h = refl
own_shape w.an_own_core_value _ h = absurd (cc)
own_shape _ _ h = absurd (cc)

same_shape : (x s : Shape) → ((is_value_type x && is_value_type s) || (is_own_value x && is_own_value s)) ≡ true → x ≡ s
same_shape x s h = elim (or_true (is_value_type x && is_value_type s) _ h) [ inl e ↦ value_shape x s e | inr e ↦ own_shape x s e ]

pub nodes_among : (ts us : List Row) (ns : Nodes) → are_rows ts us ≡ true → ShapedNodes ns ts → ShapedNodes ns us
nodes_among ts us no_node h g = tt
nodes_among ts us (one_node (row t ls) ns) h g = (row_among t ts us h g.0, g.1, nodes_among ts us ns h g.2)

-- a text in UTF-8 stands in every place of one, any other in that of a payload alone
in_utf8 : (s : Shape) (t : Text) → is_utf8 t ≡ true → is_spelled s t ≡ true
in_utf8 w.a_payload t h = refl
in_utf8 _ t h = h

of_payload : (s : Shape) (t : Text) → takes_payload s ≡ true → (is_text s ≡ true) × (is_spelled s t ≡ true)
of_payload w.a_payload t h = (refl, refl)
of_payload _ t h = absurd (cc)

pub good_leaf : {x : Sort} {l : Leaf} → HasLeaf x l → (s : Shape) → fits_sort x s ≡ true → GoodLeaf s l
good_leaf (is.text_leaf {t = t} u) s h = record { shaped = h; written = tt; short = tt; named = tt; utf8 = in_utf8 s t u; of_text = tt }
good_leaf (is.payload_leaf {t = t}) s h = let p = of_payload s t h in record { shaped = p.0; written = tt; short = tt; named = tt; utf8 = p.1; of_text = tt }
good_leaf (is.any_number_leaf {n = n} i) s h = record { shaped = takes_any s n h; written = tt; short = i; named = tt; utf8 = tt; of_text = tt }
good_leaf (is.number_leaf {n = n} f) s h =
    let q = and_true (fits_number s n) _ (f (λ k. fits_number s k && nat_lt k (2 ^ 32)) h) in
    record { shaped = q.0; written = tt; short = ltb-true _ _ q.1; named = tt; utf8 = tt; of_text = tt }
good_leaf is.kind_leaf s h = record { shaped = h; written = tt; short = tt; named = tt; utf8 = tt; of_text = tt }
good_leaf (is.word_leaf {v = v}) s h = core_word v s h
good_leaf (is.heap_name {r = q} {x = x} i) s h =
    let a = and_true (is_core_value s) _ h in
    let b = and_true (fits_reach s q) _ a.1 in
    record { shaped = make_true (is_core_value s) (fits_reach s q) a.0 b.0; written = tt; short = tt; named = tt; utf8 = tt; of_text = (reach_of_text q b.1, i) }
good_leaf (is.heap_numeral {r = q} i) s h =
    let a = and_true (is_core_value s) _ h in
    record { shaped = make_true (is_core_value s) true a.0 refl; written = tt; short = i; named = tt; utf8 = tt; of_text = tt }
good_leaf (is.name_leaf {u = u} {r = q} i) s h =
    let a = and_true (fits_space s u) _ h in
    let b = and_true (fits_reach s q) _ a.1 in
    record { shaped = (a.0, b.0); written = tt; short = tt; named = tt; utf8 = tt; of_text = (reach_of_text q b.1, i) }
good_leaf (is.numeral_leaf {u = u} i) s h = record { shaped = ((and_true (fits_space s u) _ h).0, tt); written = tt; short = i; named = tt; utf8 = tt; of_text = tt }
good_leaf (is.item_name {u = u} i) s h =
    let a = and_true (fits_space s u) _ h in
    record { shaped = (a.0, (and_true (fits_reach s core.outward) _ a.1).0); written = tt; short = tt; named = tt; utf8 = tt; of_text = (tt, i) }
good_leaf (is.item_numeral {u = u} i) s h = record { shaped = ((and_true (fits_space s u) _ h).0, tt); written = tt; short = i; named = tt; utf8 = tt; of_text = tt }
good_leaf (is.item_path {u = u} {p = p} f i j k) s h =
    let a = and_true (fits_space s u) _ h in
    record { shaped = (a.0, make_true (takes_path s) (path_into u p) (and_true (fits_reach s core.outward) _ a.1).1 f); written = tt; short = i; named = tt; utf8 = k; of_text = j }
good_leaf (is.inline_leaf {u = u} g i) s h =
    let a = and_true (fits_space s u) _ h in
    record { shaped = (a.0, (a.1, g.shaped)); written = g.written; short = g.short; named = (i, g.named); utf8 = g.utf8; of_text = g.of_text }
good_leaf (is.bundle_leaf {u = u} g) s h =
    let a = and_true (fits_space s u) _ h in
    record { shaped = (a.0, (a.1, g.shaped)); written = g.written; short = g.short; named = g.named; utf8 = g.utf8; of_text = g.of_text }
good_leaf is.absent_leaf s h = record { shaped = h; written = tt; short = tt; named = tt; utf8 = tt; of_text = tt }
good_leaf (is.present_leaf i) s h =
    let a = and_true (is_optional s) _ h in
    let g = good_leaf i (the_option s) a.1 in
    record { shaped = (a.0, g.shaped); written = g.written; short = g.short; named = g.named; utf8 = g.utf8; of_text = g.of_text }
good_leaf (is.node_leaf g) s h = record { shaped = (h, g.shaped); written = g.written; short = g.short; named = g.named; utf8 = g.utf8; of_text = g.of_text }
good_leaf (is.list_leaf {ts = ts} {ns = ns} g) s h =
    let a = and_true (is_list s) _ h in
    record { shaped = (a.0, nodes_among ts (rows_of_list s) ns a.1 g.shaped); written = g.written; short = g.short; named = g.named; utf8 = g.utf8; of_text = g.of_text }
good_leaf is.case_leaf s h = record { shaped = h; written = tt; short = tt; named = tt; utf8 = tt; of_text = tt }
good_leaf (is.scope_leaf g) s h = record { shaped = (h, g.shaped); written = g.written; short = g.short; named = g.named; utf8 = g.utf8; of_text = (tt, g.of_text) }
good_leaf (is.module_leaf i) s h = record { shaped = h; written = tt; short = i; named = tt; utf8 = tt; of_text = tt }
good_leaf (is.name_text {t = t} u) s h = record { shaped = (and_true (is_text s) _ h).0; written = tt; short = tt; named = tt; utf8 = in_utf8 s t u; of_text = tt }
good_leaf (is.name_node g) s h = record { shaped = ((and_true (is_text s) _ h).1, g.shaped); written = g.written; short = g.short; named = g.named; utf8 = g.utf8; of_text = g.of_text }
good_leaf is.results_leaf s h = absurd (cc)
good_leaf (is.shape_leaf {s = z} {l = l} p g) s h = subst (λ y. GoodLeaf y l) (same_shape z s h) g
