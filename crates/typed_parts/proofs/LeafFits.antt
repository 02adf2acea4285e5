-- A leaf of a sort fits each shape that the sort fits.
use Rattle.std.specs.Str.{is_utf8}
use Rattle.std.proofs.Common.{◌≡◌, ◌^◌, ℕ, Bool, true, false, ◌&&◌, ◌||◌, List, [], ◌∷◌, refl, sym, subst, inl, inr, nat_lt}
use Rattle.comp_model.specs.Core as core
use Rattle.comp_model.specs.Core.{Text, CoreValue}
use Rattle.comp_model.specs.Model as m
use Rattle.comp_model.specs.Model.{Leaf, Nodes, no_node, one_node, row}
use Rattle.comp_model.specs.declared.row.Row.{Row}
use Rattle.comp_model.specs.RowNumbers.{is_row, same_row}
use Rattle.comp_model.specs.Utf8Names.{is_spelled}
use Rattle.comp_model.specs.Rows as w
use Rattle.comp_model.specs.Rows.{Shape, fits_number, ShapedNodes, is_core_value, fits_reach, fits_space, takes_path, path_into, is_list, rows_of_list, the_option, is_optional, is_text}
use Rattle.comp_model.proofs.Tests.{same_row-true}
use Rattle.text_rules.specs.HasSorts as is
use Rattle.text_rules.specs.HasSorts.{HasLeaf, HasLeaves}
use Rattle.text_rules.specs.LeafTests.{fits_sort, fits_leaves, takes_number, takes_payload, is_core_word, is_value_type, is_own_value, are_rows}
use Rattle.text_rules.specs.Made.{leaves_from}
use Rattle.text_rules.specs.Sorts.{Sort, Segment}
use Rattle.typed_nodes.specs.Fits.{FitLeaf, FitLeaves}
use Rattle.wast_grammar.proofs.Moves.{and_true, or_true}

not_true : false ≡ true → ⊥
not_true e = absurd (cc)

both : (a b : Bool) → a ≡ true → b ≡ true → (a && b) ≡ true
both true b g h = h
both false b g h = absurd (not_true g)

takes_any : (s : Shape) (n : ℕ) → takes_number s ≡ true → fits_number s n ≡ true
takes_any w.a_number n h = refl
takes_any _ n h = absurd (not_true h)

core_word : (v : CoreValue) (s : Shape) → (is_core_value s && is_core_word v) ≡ true → FitLeaf s (m.core_value v)
core_word (core.ref_index b n) s h = absurd (not_true (and_true (is_core_value s) _ h).1)
core_word (core.ref_numeral b o n) s h = absurd (not_true (and_true (is_core_value s) _ h).1)
core_word (core.ref_name b r x) s h = absurd (not_true (and_true (is_core_value s) _ h).1)
core_word core.i32 s h = (h, tt)
core_word _ s h = (h, tt)

value_shape : (x s : Shape) → (is_value_type x && is_value_type s) ≡ true → x ≡ s
value_shape w.a_value_type w.a_value_type h = refl
value_shape w.a_value_type _ h = absurd (not_true h)
value_shape _ _ h = absurd (not_true h)

own_shape : (x s : Shape) → (is_own_value x && is_own_value s) ≡ true → x ≡ s
own_shape w.an_own_core_value w.an_own_core_value h = refl
own_shape w.an_own_core_value _ h = absurd (not_true h)
own_shape _ _ h = absurd (not_true h)

same_shape : (x s : Shape) → ((is_value_type x && is_value_type s) || (is_own_value x && is_own_value s)) ≡ true → x ≡ s
same_shape x s h = elim (or_true (is_value_type x && is_value_type s) _ h) [ inl e ↦ value_shape x s e | inr e ↦ own_shape x s e ]

row_among : (t : Row) (ts us : List Row) → are_rows ts us ≡ true → is_row t ts ≡ true → is_row t us ≡ true
row_among t [] us h i = absurd (not_true i)
row_among t (u ∷ ts) us h i =
    let a = and_true (is_row u us) _ h in
    elim (or_true (same_row t u) _ i) [ inl e ↦ subst (λ x. is_row x us ≡ true) (sym (same_row-true t u e)) a.0 | inr e ↦ row_among t ts us a.1 e ]

nodes_among : (ts us : List Row) (ns : Nodes) → are_rows ts us ≡ true → ShapedNodes ns ts → ShapedNodes ns us
nodes_among ts us no_node h g = tt
nodes_among ts us (one_node (row t ls) ns) h g = (row_among t ts us h g.0, g.1, nodes_among ts us ns h g.2)

in_utf8 : (s : Shape) (t : Text) → is_utf8 t ≡ true → is_spelled s t ≡ true
in_utf8 w.a_payload t h = refl
in_utf8 _ t h = h

of_payload : (s : Shape) (t : Text) → takes_payload s ≡ true → (is_text s ≡ true) × (is_spelled s t ≡ true)
of_payload w.a_payload t h = (refl, refl)
of_payload _ t h = absurd (not_true h)

pub leaf_fits : {x : Sort} {l : Leaf} → HasLeaf x l → (s : Shape) → fits_sort x s ≡ true → FitLeaf s l
leaf_fits (is.text_leaf {t = t} u) s h = (h, in_utf8 s t u)
leaf_fits (is.payload_leaf {t = t}) s h = of_payload s t h
leaf_fits (is.any_number_leaf {n = n} i) s h = (takes_any s n h, tt)
leaf_fits (is.number_leaf {n = n} f) s h = ((and_true (fits_number s n) _ (f (λ k. fits_number s k && nat_lt k (2 ^ 32)) h)).0, tt)
leaf_fits is.kind_leaf s h = (h, tt)
leaf_fits (is.word_leaf {v = v}) s h = core_word v s h
leaf_fits (is.heap_name {r = q} i) s h = let a = and_true (is_core_value s) _ h in (both (is_core_value s) (fits_reach s q) a.0 (and_true (fits_reach s q) _ a.1).0, tt)
leaf_fits (is.heap_numeral {r = q} i) s h = (both (is_core_value s) true (and_true (is_core_value s) _ h).0 refl, tt)
leaf_fits (is.name_leaf {u = u} {r = q} i) s h = let a = and_true (fits_space s u) _ h in ((a.0, (and_true (fits_reach s q) _ a.1).0), tt)
leaf_fits (is.numeral_leaf {u = u} i) s h = (((and_true (fits_space s u) _ h).0, tt), tt)
leaf_fits (is.item_name {u = u} i) s h = let a = and_true (fits_space s u) _ h in ((a.0, (and_true (fits_reach s core.outward) _ a.1).0), tt)
leaf_fits (is.item_numeral {u = u} i) s h = (((and_true (fits_space s u) _ h).0, tt), tt)
leaf_fits (is.item_path {u = u} {p = p} f i j k) s h =
    let a = and_true (fits_space s u) _ h in
    ((a.0, both (takes_path s) (path_into u p) (and_true (fits_reach s core.outward) _ a.1).1 f), k)
leaf_fits (is.inline_leaf {u = u} g i) s h = let a = and_true (fits_space s u) _ h in ((a.0, (a.1, g.shaped)), g.utf8)
leaf_fits (is.bundle_leaf {u = u} g) s h = let a = and_true (fits_space s u) _ h in ((a.0, (a.1, g.shaped)), g.utf8)
leaf_fits is.absent_leaf s h = (h, tt)
leaf_fits (is.present_leaf i) s h =
    let a = and_true (is_optional s) _ h in
    let g = leaf_fits i (the_option s) a.1 in
    ((a.0, g.0), g.1)
leaf_fits (is.node_leaf g) s h = ((h, g.shaped), g.utf8)
leaf_fits (is.list_leaf {ts = ts} {ns = ns} g) s h = let a = and_true (is_list s) _ h in ((a.0, nodes_among ts (rows_of_list s) ns a.1 g.shaped), g.utf8)
leaf_fits is.case_leaf s h = (h, tt)
leaf_fits (is.scope_leaf g) s h = ((h, g.shaped), g.utf8)
leaf_fits (is.module_leaf i) s h = (h, tt)
leaf_fits (is.name_text {t = t} u) s h = ((and_true (is_text s) _ h).0, in_utf8 s t u)
leaf_fits (is.name_node g) s h = (((and_true (is_text s) _ h).1, g.shaped), g.utf8)
leaf_fits is.results_leaf s h = absurd (not_true h)
leaf_fits (is.shape_leaf {s = t} {l = l} p g) s h = subst (λ q. FitLeaf q l) (same_shape t s h) (g.shaped, g.utf8)

pub leaves_fit_shapes : {xs : List Segment} {ls : List Leaf} → HasLeaves xs ls → (ss : List Shape) → fits_leaves xs ss ≡ true → FitLeaves ss (leaves_from ls)
leaves_fit_shapes is.no_leaves [] h = (tt, tt)
leaves_fit_shapes is.no_leaves (s ∷ ss) h = absurd (not_true h)
leaves_fit_shapes (is.one_leaf i j) [] h = absurd (not_true h)
leaves_fit_shapes (is.one_leaf {x = x} i j) (s ∷ ss) h =
    let a = and_true (fits_sort x s) _ h in
    let b = leaf_fits i s a.0 in
    let c = leaves_fit_shapes j ss a.1 in
    ((b.0, c.0), (b.1, c.1))
leaves_fit_shapes (is.no_texts j) ss h = absurd (not_true h)
leaves_fit_shapes (is.more_texts u j) ss h = absurd (not_true h)
leaves_fit_shapes (is.no_strings j) ss h = absurd (not_true h)
leaves_fit_shapes (is.more_strings j) ss h = absurd (not_true h)
leaves_fit_shapes (is.outer_name a b c j) (w.a_place ∷ w.a_placed_ref ∷ w.a_kind ∷ ss) h =
    let d = leaves_fit_shapes j ss h in
    ((refl, ((refl, refl), (refl, d.0))), (tt, (tt, (tt, d.1))))
leaves_fit_shapes (is.outer_numeral a b c j) (w.a_place ∷ w.a_placed_ref ∷ w.a_kind ∷ ss) h =
    let d = leaves_fit_shapes j ss h in
    ((refl, ((refl, tt), (refl, d.0))), (tt, (tt, (tt, d.1))))
leaves_fit_shapes (is.outer_name a b c j) _ h = absurd (not_true h)
leaves_fit_shapes (is.outer_numeral a b c j) _ h = absurd (not_true h)
leaves_fit_shapes (is.row_leaves ls ms e p g j) ss h = absurd (not_true h)
