-- Loose parts of a sort: one behind the other, of a wider sort, and many.
use Rattle.std.proofs.Common.{◌≡◌, ◌≤◌, ◌+◌, ℕ, Bool, true, false, ◌&&◌, ◌||◌, cond, not, nat_le, List, [], ◌∷◌, ◌++◌, length, refl, sym, ◌∙◌, ap, subst, inl, inr, Some, None, Option, leb-true, arith, length-append, append_assoc, append-nil}
use Rattle.std.specs.List.{list_all}
use Rattle.comp_model.specs.Core.{Id, Text}
use Rattle.comp_model.specs.Model as m
use Rattle.comp_model.specs.declared.row.ScopeKind.TheVariants as kinds
use Rattle.comp_model.specs.Model.{Leaf}
use Rattle.comp_model.specs.declared.row.ScopeKind.{ScopeKind}
use Rattle.comp_model.specs.declared.row.Row.{Row}
use Rattle.comp_model.specs.RowNumbers.{same_row, is_row}
use Rattle.comp_model.specs.Rows.{leaves_of}
use Rattle.comp_model.specs.Utf8Names.{Utf8Texts}
use Rattle.comp_model.proofs.Tests.{same_row-true, same_row-refl}
use Rattle.comp_expanded.specs.OfText.{TextIds}
use Rattle.text_rules.specs.Made.{Made, empty, join}
use Rattle.text_rules.specs.Makes as k
use Rattle.text_rules.specs.Sorts.{Sort, of_shape, a_node, a_scope, Segment, one, texts, strings, outer, all_of, Parts}
use Rattle.text_rules.specs.Good.{Plain}
use Rattle.text_rules.specs.HasSorts as is
use Rattle.text_rules.specs.HasSorts.{HasLeaf, HasLeaves, HasParts, Has, Results, ResultIs, entries, listed}
use Rattle.text_rules.specs.LeafTests.{is_plain, are_plain, are_rows}
use Rattle.text_rules.specs.Tests.{bare, lone, both_sorts, below, below_rows, below_sort, below_leaves, below_defs, implies, is_one_of, repeated, leaves_texts, leaves_strings, entries_in, leaves_exports, numbered_in, holds_at, is_result, no_results, is_quiet, below_count}
use Rattle.text_rules.specs.Rule.{Rule}
use Rattle.text_rules.proofs.Booleans.{make_true, first_true, second_true, is_implied, not_implied, not_true, no_both}
use Rattle.text_rules.proofs.Leaves.{good_leaf}
use Rattle.text_rules.proofs.Rows.{plain_leaf, plain_leaves, good_shapes}
use Rattle.text_rules.proofs.Defs.{defs-append, nodes-append, nodes-both, nodes-among, bound_none}
use Rattle.wast_grammar.proofs.Moves.{and_true, or_true}

-- a row and leaves alone
leaves_alone : (x : Parts) {ls : List Leaf} → x.least ≡ 0 → x.results ≡ false → HasLeaves x.leaves ls → HasParts x (record empty { rows = x.rows; leaves = ls })
leaves_alone x e r h = record {
  rows = refl;
  leaves = h;
  nodes = tt;
  least = omega (arith, e);
  ids = λ f. omega arith;
  texts = tt;
  labels = omega arith;
  results = λ i. no_both x.results i r;
  exports = λ e. refl;
  names = tt;
  none = λ e. refl;
  defs = λ k h. record { shaped = tt; written = tt; short = tt; named = tt; utf8 = tt; of_text = tt };
}

pub only_has : {us : List Row} {xs : List Segment} {ls : List Leaf} → HasLeaves xs ls → HasParts (record bare { rows = us; leaves = xs }) (record empty { rows = us; leaves = ls })
only_has {us} {xs} h = leaves_alone (record bare { rows = us; leaves = xs }) refl refl h

pub bare_has : HasParts bare empty
bare_has = only_has is.no_leaves

pub lone_has : {z : Sort} {l : Leaf} → HasLeaf z l → HasParts (lone z) (k.a_leaf l)
lone_has i = only_has (is.one_leaf i is.no_leaves)

-- ---- one behind the other

pub leaves-append : {xs ys : List Segment} {ls ms : List Leaf} → HasLeaves xs ls → HasLeaves ys ms → HasLeaves (xs ++ ys) (ls ++ ms)
leaves-append is.no_leaves j = j
leaves-append (is.one_leaf i h) j = is.one_leaf i (leaves-append h j)
leaves-append (is.no_texts h) j = is.no_texts (leaves-append h j)
leaves-append (is.more_texts u h) j = is.more_texts u (leaves-append h j)
leaves-append (is.no_strings h) j = is.no_strings (leaves-append h j)
leaves-append (is.more_strings h) j = is.more_strings (leaves-append h j)
leaves-append (is.outer_name a b c h) j = is.outer_name a b c (leaves-append h j)
leaves-append (is.outer_numeral a b c h) j = is.outer_numeral a b c (leaves-append h j)
leaves-append {ms = zs} (is.row_leaves ls ms e p g h) j = is.row_leaves ls (ms ++ zs) (ap (λ v. v ++ zs) e ∙ append_assoc ls ms zs) p g (leaves-append h j)

ids-append : (xs ys : List (Option Id)) → TextIds xs → TextIds ys → TextIds (xs ++ ys)
ids-append [] ys h g = g
ids-append (None ∷ xs) ys h g = ids-append xs ys h g
ids-append (Some x ∷ xs) ys h g = (h.0, ids-append xs ys h.1 g)

names-append : (xs ys : List Text) → Utf8Texts xs → Utf8Texts ys → Utf8Texts (xs ++ ys)
names-append [] ys h g = g
names-append (x ∷ xs) ys h g = (h.0, names-append xs ys h.1 g)

no-exports : {A : Type 0} (b c : Bool) (xs ys : List A) → (b ≡ false → xs ≡ []) → (c ≡ false → ys ≡ []) → (b || c) ≡ false → (xs ++ ys) ≡ []
no-exports true c xs ys h g e = absurd (cc)
no-exports false c xs ys h g e = rw (h refl, g e) refl

pub listed-append : (ls ms : List Leaf) → listed (ls ++ ms) ≡ listed ls + listed ms
listed-append [] ms = omega arith
listed-append (l ∷ ls) ms = omega (arith, listed-append ls ms)

pub entries-join : (a b : Made) → entries (join a b) ≡ entries a + entries b
entries-join a b = omega (arith, length-append a.nodes b.nodes, listed-append a.leaves b.leaves)

both_bound : (b c : Bool) (l m n i j e f g : ℕ) → l ≡ m + n → g ≡ e + f → m ≤ i + cond b e 0 → n ≤ j + cond c f 0 → l ≤ (i + j) + cond (b || c) g 0
both_bound true true l m n i j e f g p q h k = omega (arith, p, q, h, k)
both_bound true false l m n i j e f g p q h k = omega (arith, p, q, h, k)
both_bound false true l m n i j e f g p q h k = omega (arith, p, q, h, k)
both_bound false false l m n i j e f g p q h k = omega (arith, p, q, h, k)

neither : (b c : Bool) → (b || c) ≡ false → (b ≡ false) × (c ≡ false)
neither true c h = absurd (cc)
neither false c h = (refl, h)

-- ---- ids of results

result_plain : (ids : List (Option Id)) (l : Leaf) → Plain l → ResultIs ids l
result_plain ids (m.result_ids xs) h = absurd h
result_plain ids _ h = tt

results_plain : (ids : List (Option Id)) (ls ms : List Leaf) → is.ArePlain ls → Results ids ms → Results ids (ls ++ ms)
results_plain ids [] ms h g = g
results_plain ids (l ∷ ls) ms h g = (result_plain ids l h.0, results_plain ids ls ms h.1 g)

no_result : (ids : List (Option Id)) {x : Sort} {l : Leaf} → HasLeaf x l → not (is_result x) ≡ true → ResultIs ids l
no_result ids is.results_leaf h = absurd (cc)
no_result ids (is.shape_leaf {l = l} p g) h = result_plain ids l p
no_result ids _ h = tt

pub quiet_leaves : (ids : List (Option Id)) {xs : List Segment} {ls : List Leaf} → HasLeaves xs ls → no_results xs ≡ true → Results ids ls
quiet_leaves ids is.no_leaves h = tt
quiet_leaves ids (is.one_leaf {x = x} i j) h = let a = and_true (not (is_result x)) _ h in (no_result ids i a.0, quiet_leaves ids j a.1)
quiet_leaves ids (is.no_texts j) h = quiet_leaves ids j h
quiet_leaves ids (is.more_texts u j) h = (tt, quiet_leaves ids j h)
quiet_leaves ids (is.no_strings j) h = quiet_leaves ids j h
quiet_leaves ids (is.more_strings j) h = (tt, quiet_leaves ids j h)
quiet_leaves ids (is.outer_name a b c j) h = (tt, (tt, (tt, quiet_leaves ids j h)))
quiet_leaves ids (is.outer_numeral a b c j) h = (tt, (tt, (tt, quiet_leaves ids j h)))
quiet_leaves ids (is.row_leaves ls ms e p g j) h = subst (λ v. Results ids v) (sym e) (results_plain ids ls ms p (quiet_leaves ids j h))

pub results-append : (ids : List (Option Id)) (ls ms : List Leaf) → Results ids ls → Results ids ms → Results ids (ls ++ ms)
results-append ids [] ms h g = g
results-append ids (l ∷ ls) ms h g = (h.0, results-append ids ls ms h.1 g)

pub no_length : {A : Type 0} (xs : List A) → length xs ≤ 0 → xs ≡ []
no_length [] h = refl
no_length (x ∷ xs) h = absurd (omega (arith, h))

quiet_ids : (x : Parts) (a : Made) → HasParts x a → is_quiet x ≡ true → (a.ids ≡ []) × (no_results x.leaves ≡ true)
quiet_ids x a p h =
    let b1 = and_true (not x.free) _ h in
    let b2 = and_true (not x.each) _ b1.1 in
    let b3 = and_true (nat_le x.ids 0) _ b2.1 in
    let n = bound_none x.each (length a.ids) x.ids (entries a) (not_true x.each b2.0) (p.ids (not_true x.free b1.0)) in
    (no_length a.ids (omega (arith, n, leb-true x.ids 0 b3.0)), b3.1)

joined_results : (x y : Parts) (a b : Made) → HasParts x a → HasParts y b → ((x.results && is_quiet y) || (is_quiet x && y.results)) ≡ true → Results (a.ids ++ b.ids) (a.leaves ++ b.leaves)
joined_results x y a b p q h = elim (or_true (x.results && is_quiet y) _ h) [
  | inl e ↦
      let c = and_true x.results _ e in
      let d = quiet_ids y b q c.1 in
      subst (λ v. Results (a.ids ++ v) (a.leaves ++ b.leaves)) (sym d.0)
      (subst (λ v. Results v (a.leaves ++ b.leaves)) (sym (append-nil a.ids)) (results-append a.ids a.leaves b.leaves (p.results c.0) (quiet_leaves a.ids q.leaves d.1)))
  | inr e ↦
      let c = and_true (is_quiet x) _ e in
      let d = quiet_ids x a p c.0 in
      subst (λ v. Results (v ++ b.ids) (a.leaves ++ b.leaves)) (sym d.0) (results-append b.ids a.leaves b.leaves (quiet_leaves b.ids p.leaves d.1) (q.results c.1))
]

pub join_has : {x y : Parts} {a b : Made} → HasParts x a → HasParts y b → HasParts (both_sorts x y) (join a b)
join_has {x = x} {y = y} {a = a} {b = b} p q = record {
  rows = rw (p.rows, q.rows) refl;
  leaves = leaves-append p.leaves q.leaves;
  nodes = nodes-append x.nodes x.numbered y.nodes y.numbered a.nodes b.nodes p.nodes q.nodes;
  least = omega (arith, length-append a.nodes b.nodes, p.least, q.least);
  ids = λ f. let g = neither x.free y.free f in both_bound x.each y.each (length (a.ids ++ b.ids)) (length a.ids) (length b.ids) x.ids y.ids (entries a) (entries b) (entries (join a b)) (length-append a.ids b.ids) (entries-join a b) (p.ids g.0) (q.ids g.1);
  texts = ids-append a.ids b.ids p.texts q.texts;
  labels = both_bound x.each y.each (length (a.labels ++ b.labels)) (length a.labels) (length b.labels) x.labels y.labels (entries a) (entries b) (entries (join a b)) (length-append a.labels b.labels) (entries-join a b) p.labels q.labels;
  results = joined_results x y a b p q;
  exports = no-exports x.exports y.exports a.exports b.exports p.exports q.exports;
  names = names-append a.exports b.exports p.names q.names;
  none = no-exports x.some y.some a.defs b.defs p.none q.none;
  defs = λ k h. let c = and_true (x.defs k) (y.defs k) h in defs-append k a.defs b.defs (p.defs k c.0) (q.defs k c.1);
}

-- ---- wider sorts

pub rows_below : (ts us : List Row) → below_rows ts us ≡ true → ts ≡ us
rows_below [] [] h = refl
rows_below [] (u ∷ us) h = absurd (cc)
rows_below (t ∷ []) (u ∷ []) h = ap (λ v. v ∷ []) (same_row-true t u h)
rows_below (t ∷ []) [] h = absurd (cc)
rows_below (t ∷ []) (u ∷ v ∷ us) h = absurd (cc)
rows_below (t ∷ v ∷ ts) us h = absurd (cc)

sort_below : (y : Sort) {x : Sort} {l : Leaf} → HasLeaf x l → below_sort x y ≡ true → HasLeaf y l
sort_below (of_shape s) {x = x} i h = let a = and_true (is_plain x) _ h in is.shape_leaf (plain_leaf i a.0) (good_leaf i s a.1)
sort_below (a_node u) (is.node_leaf {t = t} {ls = ls} g) h =
    let e = same_row-true t u h in
    subst (λ v. HasLeaf (a_node v) (m.node (m.row t ls))) e (is.node_leaf g)
sort_below (a_node u) _ h = absurd (cc)
sort_below (a_scope kinds.Component) (is.scope_leaf {k = kinds.Component} g) h = is.scope_leaf g
sort_below (a_scope kinds.Component) _ h = absurd (cc)
sort_below (a_scope kinds.ComponentType) (is.scope_leaf {k = kinds.ComponentType} g) h = is.scope_leaf g
sort_below (a_scope kinds.ComponentType) _ h = absurd (cc)
sort_below (a_scope kinds.InstanceType) (is.scope_leaf {k = kinds.InstanceType} g) h = is.scope_leaf g
sort_below (a_scope kinds.InstanceType) _ h = absurd (cc)
sort_below (a_scope kinds.ModuleType) (is.scope_leaf g) h = absurd (cc)
sort_below (a_scope kinds.ModuleType) _ h = absurd (cc)
sort_below _ _ h = absurd (cc)

leaves_below : (ys : List Segment) {xs : List Segment} {ls : List Leaf} → HasLeaves xs ls → below_leaves ys xs ≡ true → HasLeaves ys ls
leaves_below (all_of t ∷ []) {xs = xs} {ls = ls} j h =
    let a = and_true (are_plain xs) _ h in
    is.row_leaves ls [] (sym (append-nil ls)) (plain_leaves j a.0) (good_shapes j (leaves_of t) a.1) is.no_leaves
leaves_below (all_of t ∷ z ∷ zs) j h = absurd (cc)
leaves_below [] is.no_leaves h = is.no_leaves
leaves_below [] _ h = absurd (cc)
leaves_below (texts ∷ []) is.no_leaves h = is.no_texts is.no_leaves
leaves_below (texts ∷ []) (is.one_leaf (is.text_leaf u) is.no_leaves) h = is.more_texts u (is.no_texts is.no_leaves)
leaves_below (texts ∷ []) (is.no_texts is.no_leaves) h = is.no_texts is.no_leaves
leaves_below (texts ∷ []) (is.more_texts {ss = []} u j) h = is.more_texts u j
leaves_below (texts ∷ []) _ h = absurd (cc)
leaves_below (texts ∷ z ∷ zs) j h = absurd (cc)
leaves_below (strings ∷ []) is.no_leaves h = is.no_strings is.no_leaves
leaves_below (strings ∷ []) (is.one_leaf (is.text_leaf u) is.no_leaves) h = is.more_strings (is.no_strings is.no_leaves)
leaves_below (strings ∷ []) (is.one_leaf is.payload_leaf is.no_leaves) h = is.more_strings (is.no_strings is.no_leaves)
leaves_below (strings ∷ []) (is.no_strings is.no_leaves) h = is.no_strings is.no_leaves
leaves_below (strings ∷ []) (is.more_strings {ss = []} j) h = is.more_strings j
leaves_below (strings ∷ []) _ h = absurd (cc)
leaves_below (strings ∷ z ∷ zs) j h = absurd (cc)
leaves_below (one y ∷ ys) (is.one_leaf {x = x} i j) h = let a = and_true (below_sort x y) _ h in is.one_leaf (sort_below y i a.0) (leaves_below ys j a.1)
leaves_below (one y ∷ ys) _ h = absurd (cc)
leaves_below (outer u ∷ ys) j h = absurd (cc)

at_true : (b : Bool) (f : ScopeKind → Bool) (k : ScopeKind) → holds_at b f k ≡ true → b ≡ true → f k ≡ true
at_true true f k h e = h
at_true false f k h e = absurd (cc)

defs_below : (f g : ScopeKind → Bool) → below_defs f g ≡ true → (k : ScopeKind) → g k ≡ true → f k ≡ true
defs_below f g h kinds.Component e = at_true (g kinds.Component) f kinds.Component (and_true (holds_at (g kinds.Component) f kinds.Component) _ h).0 e
defs_below f g h kinds.ComponentType e =
    let a = and_true (holds_at (g kinds.Component) f kinds.Component) _ h in
    at_true (g kinds.ComponentType) f kinds.ComponentType (and_true (holds_at (g kinds.ComponentType) f kinds.ComponentType) _ a.1).0 e
defs_below f g h kinds.InstanceType e =
    let a = and_true (holds_at (g kinds.Component) f kinds.Component) _ h in
    let b = and_true (holds_at (g kinds.ComponentType) f kinds.ComponentType) _ a.1 in
    at_true (g kinds.InstanceType) f kinds.InstanceType (and_true (holds_at (g kinds.InstanceType) f kinds.InstanceType) _ b.1).0 e
defs_below f g h kinds.ModuleType e =
    let a = and_true (holds_at (g kinds.Component) f kinds.Component) _ h in
    let b = and_true (holds_at (g kinds.ComponentType) f kinds.ComponentType) _ a.1 in
    at_true (g kinds.ModuleType) f kinds.ModuleType (and_true (holds_at (g kinds.InstanceType) f kinds.InstanceType) _ b.1).1 e

count_below : (b c : Bool) (l m n k e : ℕ) → (implies b c && nat_le m (n + cond (c && not b) k 0)) ≡ true → k ≤ e → l ≤ m + cond b e 0 → l ≤ n + cond c e 0
count_below true true l m n k e h i j = omega (arith, j, leb-true m (n + 0) h)
count_below true false l m n k e h i j = absurd (cc)
count_below false true l m n k e h i j = omega (arith, i, j, leb-true m (n + k) h)
count_below false false l m n k e h i j = omega (arith, j, leb-true m (n + 0) h)

free_or : (b c d : Bool) → (b || (not c && d)) ≡ true → b ≡ false → (c ≡ false) × (d ≡ true)
free_or true c d h e = absurd (cc)
free_or false c d h e = let a = and_true (not c) d h in (not_true c a.0, a.1)

pub below_has : (x y : Parts) (a : Made) → below x y ≡ true → HasParts x a → HasParts y a
below_has x y a h p =
    let b1 = and_true (below_rows x.rows y.rows) _ h in
    let b2 = and_true (below_leaves y.leaves x.leaves) _ b1.1 in
    let b3 = and_true (are_rows x.nodes y.nodes) _ b2.1 in
    let b4 = and_true (are_rows x.numbered y.numbered) _ b3.1 in
    let b5 = and_true (nat_le y.least x.least) _ b4.1 in
    let b6 = and_true (y.free || (not x.free && below_count x y x.ids y.ids)) _ b5.1 in
    let b7 = and_true (below_count x y x.labels y.labels) _ b6.1 in
    let b8 = and_true (implies y.results x.results) _ b7.1 in
    let b9 = and_true (implies x.exports y.exports) _ b8.1 in
    let b10 = and_true (implies x.some y.some) _ b9.1 in
    let n : x.least ≤ entries a = omega (arith, p.least) in
    record {
      rows = p.rows ∙ rows_below x.rows y.rows b1.0;
      leaves = leaves_below y.leaves p.leaves b2.0;
      nodes = nodes-among x.nodes x.numbered y.nodes y.numbered b3.0 b4.0 a.nodes p.nodes;
      least = omega (arith, p.least, leb-true y.least x.least b5.0);
      ids = λ f. let g = free_or y.free x.free (below_count x y x.ids y.ids) b6.0 f in count_below x.each y.each (length a.ids) x.ids y.ids x.least (entries a) g.1 n (p.ids g.0);
      texts = p.texts;
      labels = count_below x.each y.each (length a.labels) x.labels y.labels x.least (entries a) b7.0 n p.labels;
      results = λ e. p.results (is_implied y.results x.results b8.0 e);
      exports = λ e. p.exports (not_implied x.exports y.exports b9.0 e);
      names = p.names;
      none = λ e. p.none (not_implied x.some y.some b10.0 e);
      defs = λ k e. p.defs k (defs_below x.defs y.defs b10.1 k e);
    }

pub one_has : (ys : List Parts) (x : Parts) (a : Made) → is_one_of ys x ≡ true → HasParts x a → (p : Parts → Bool) → list_all p ys ≡ true → Has p a
one_has [] x a h q p e = absurd (cc)
one_has (y ∷ ys) x a h q p e =
    let b = and_true (p y) _ e in
    elim (or_true (below x y) _ h) [
      | inl i ↦ (y, b.0, below_has x y a i q)
      | inr i ↦ one_has ys x a i q p b.1
    ]

-- ---- many

rows-behind : (t : Row) (ts us : List Row) → are_rows ts us ≡ true → are_rows ts (t ∷ us) ≡ true
rows-behind t [] us h = refl
rows-behind t (u ∷ ts) us h = let a = and_true (is_row u us) _ h in make_true (is_row u (t ∷ us)) _ (second_true (same_row u t) _ a.0) (rows-behind t ts us a.1)

rows-refl : (ts : List Row) → are_rows ts ts ≡ true
rows-refl [] = refl
rows-refl (t ∷ ts) = make_true (is_row t (t ∷ ts)) _ (first_true (same_row t t) _ (same_row-refl t)) (rows-behind t ts ts (rows-refl ts))

-- the leaves of a `many`
abbrev many_leaves : Bool → Bool → List Segment
many_leaves b c = cond b (texts ∷ []) (cond c (strings ∷ []) [])

texts-refl : (b c : Bool) → below_leaves (many_leaves b c) (many_leaves b c) ≡ true
texts-refl true c = refl
texts-refl false true = refl
texts-refl false false = refl

implies-refl : (b : Bool) → implies b b ≡ true
implies-refl true = refl
implies-refl false = refl

no_text : (b c : Bool) → HasLeaves (many_leaves b c) []
no_text true c = is.no_texts is.no_leaves
no_text false true = is.no_strings is.no_leaves
no_text false false = is.no_leaves

abbrev are_texts : List Segment → Bool
are_texts (texts ∷ []) = true
are_texts _ = false

more-texts : {xs : List Segment} {ls ms : List Leaf} → HasLeaves xs ls → are_texts xs ≡ true → HasLeaves (texts ∷ []) ms → HasLeaves (texts ∷ []) (ls ++ ms)
more-texts (is.no_texts is.no_leaves) h j = j
more-texts (is.more_texts u i) h j = is.more_texts u (more-texts i h j)
more-texts _ h j = absurd (cc)

abbrev are_strings : List Segment → Bool
are_strings (strings ∷ []) = true
are_strings _ = false

more-strings : {xs : List Segment} {ls ms : List Leaf} → HasLeaves xs ls → are_strings xs ≡ true → HasLeaves (strings ∷ []) ms → HasLeaves (strings ∷ []) (ls ++ ms)
more-strings (is.no_strings is.no_leaves) h j = j
more-strings (is.more_strings i) h j = is.more_strings (more-strings i h j)
more-strings _ h j = absurd (cc)

both-texts : (b c : Bool) {ls ms : List Leaf} → HasLeaves (many_leaves b c) ls → HasLeaves (many_leaves b c) ms → HasLeaves (many_leaves b c) (ls ++ ms)
both-texts true c i j = more-texts i refl j
both-texts false true i j = more-strings i refl j
both-texts false false i j = leaves-append i j

count-refl : (e : Bool) → (implies e e && nat_le 0 (0 + cond (e && not e) 0 0)) ≡ true
count-refl true = refl
count-refl false = refl

free-refl : (b c : Bool) → c ≡ true → (b || (not b && c)) ≡ true
free-refl true c h = refl
free-refl false c h = h

at-refl : (f : ScopeKind → Bool) (k : ScopeKind) (b : Bool) → f k ≡ b → holds_at b f k ≡ true
at-refl f k true h = h
at-refl f k false h = refl

same_bound : (b : Bool) (l m n e f g : ℕ) → l ≡ m + n → g ≡ e + f → m ≤ 0 + cond b e 0 → n ≤ 0 + cond b f 0 → l ≤ 0 + cond b g 0
same_bound true l m n e f g p q h k = omega (arith, p, q, h, k)
same_bound false l m n e f g p q h k = omega (arith, p, q, h, k)

module _ (f : ScopeKind → Bool) (some : Bool) (r : Rule) where
  pub none_repeated : HasParts (repeated f some r) empty
  none_repeated = leaves_alone (repeated f some r) refl refl (no_text (leaves_texts r) (leaves_strings r))

  pub repeated-refl : below (repeated f some r) (repeated f some r) ≡ true
  repeated-refl =
      make_true _ _ (texts-refl (leaves_texts r) (leaves_strings r))
      (make_true _ _ (rows-refl (entries_in r))
      (make_true _ _ (rows-refl (numbered_in r))
      (make_true _ _ (free-refl (repeated f some r).free _ (count-refl (repeated f some r).each))
      (make_true _ _ (count-refl (repeated f some r).each)
      (make_true _ _ (implies-refl (leaves_exports r))
      (make_true _ _ (implies-refl some)
      (make_true _ _ (at-refl f kinds.Component (f kinds.Component) refl) (make_true _ _ (at-refl f kinds.ComponentType (f kinds.ComponentType) refl)
      (make_true _ _ (at-refl f kinds.InstanceType (f kinds.InstanceType) refl) (at-refl f kinds.ModuleType (f kinds.ModuleType) refl))))))))))

  pub more_repeated : (a b : Made) → HasParts (repeated f some r) a → HasParts (repeated f some r) b → HasParts (repeated f some r) (join a b)
  more_repeated a b p q = record {
    rows = rw (p.rows, q.rows) refl;
    leaves = both-texts (leaves_texts r) (leaves_strings r) p.leaves q.leaves;
    nodes = nodes-both (entries_in r) (numbered_in r) a.nodes b.nodes p.nodes q.nodes;
    least = omega arith;
    ids = λ e. same_bound (repeated f some r).each (length (a.ids ++ b.ids)) (length a.ids) (length b.ids) (entries a) (entries b) (entries (join a b)) (length-append a.ids b.ids) (entries-join a b) (p.ids e) (q.ids e);
    texts = ids-append a.ids b.ids p.texts q.texts;
    labels = same_bound (repeated f some r).each (length (a.labels ++ b.labels)) (length a.labels) (length b.labels) (entries a) (entries b) (entries (join a b)) (length-append a.labels b.labels) (entries-join a b) p.labels q.labels;
    results = λ e. absurd (cc);
    exports = λ e. let c = p.exports e in let d = q.exports e in rw (c, d) refl;
    names = names-append a.exports b.exports p.names q.names;
    none = λ e. let c = p.none e in let d = q.none e in rw (c, d) refl;
    defs = λ k h. defs-append k a.defs b.defs (p.defs k h) (q.defs k h);
  }
