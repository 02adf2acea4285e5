-- The leaves of a row, as they stand and as those of a definition.
use Rattle.std.proofs.Common.{◌≡◌, ℕ, true, List, [], ◌∷◌, ◌++◌, map, refl, sym, ◌∙◌, append-nil, subst, Some, None, Option, map-id}
use Rattle.comp_model.specs.Core as core
use Rattle.comp_model.specs.Core.{Id, Text}
use Rattle.comp_model.specs.Model as m
use Rattle.comp_model.specs.declared.row.ScopeKind.TheVariants as kinds
use Rattle.comp_model.specs.Model.{Leaf, Leaves, no_leaf, ◌▸◌, Names, Defs}
use Rattle.comp_model.specs.declared.row.ScopeKind.{ScopeKind}
use Rattle.comp_model.specs.declared.row.Row.{Row}
use Rattle.comp_model.specs.Rows as w
use Rattle.comp_model.specs.Rows.{Shape, leaves_of, has_scope}
use Rattle.comp_model.specs.NamesFit.{LeafNamed, LeavesNamed, Nameless}
use Rattle.comp_model.specs.ItemNames.{first_or_none}
use Rattle.comp_model.proofs.Tests.{same_row-true}
use Rattle.comp_expanded.specs.OfText.{TextIds, TextIdOf}
use Rattle.text_rules.specs.Made.{leaves_from, owned}
use Rattle.text_rules.specs.Sorts.{Sort, Segment}
use Rattle.text_rules.specs.Good.{GoodLeaf, GoodLeaves, GoodDefs, Plain}
use Rattle.text_rules.specs.HasSorts as is
use Rattle.text_rules.specs.HasSorts.{HasLeaf, HasLeaves, ArePlain}
use Rattle.text_rules.specs.LeafTests.{fits_sort, fits_leaves, fits_row, is_plain, are_plain}
use Rattle.text_rules.proofs.Leaves.{good_leaf}
use Rattle.wast_grammar.proofs.Moves.{and_true}

-- ---- plain leaves

pub plain_leaf : {x : Sort} {l : Leaf} → HasLeaf x l → is_plain x ≡ true → Plain l
plain_leaf (is.scope_leaf g) h = absurd (cc)
plain_leaf (is.module_leaf g) h = absurd (cc)
plain_leaf is.results_leaf h = absurd (cc)
plain_leaf (is.shape_leaf p g) h = p
plain_leaf _ h = tt

pub owned_plain : (i : Option Id) (t : Option Text) (l : Leaf) → Plain l → owned i t l ≡ l
owned_plain i t (m.scope s) h = absurd h
owned_plain i t (m.core_source c) h = absurd h
owned_plain i t _ h = refl

named_plain : (ns : Names) (l : Leaf) → Plain l → LeafNamed ns l
named_plain ns (m.scope s) h = absurd h
named_plain ns (m.core_source c) h = absurd h
named_plain ns (m.result_ids c) h = absurd h
named_plain ns _ h = tt

nameless_plain : (l : Leaf) (ls : Leaves) → Plain l → Nameless ls → Nameless (l ▸ ls)
nameless_plain (m.scope s) ls h g = absurd h
nameless_plain _ ls h g = g

nameless_leaf : {x : Sort} {l : Leaf} → HasLeaf x l → (ls : Leaves) → Nameless ls → Nameless (l ▸ ls)
nameless_leaf (is.scope_leaf g) ls h = (refl, refl, h)
nameless_leaf (is.shape_leaf {l = l} p g) ls h = nameless_plain l ls p h
nameless_leaf _ ls h = h

are_nameless : (ls : List Leaf) → ArePlain ls → Nameless (leaves_from ls)
are_nameless [] h = tt
are_nameless (l ∷ ls) h = nameless_plain l (leaves_from ls) h.0 (are_nameless ls h.1)

nameless-append : (ls ms : List Leaf) → ArePlain ls → Nameless (leaves_from ms) → Nameless (leaves_from (ls ++ ms))
nameless-append [] ms h g = g
nameless-append (l ∷ ls) ms h g = nameless_plain l (leaves_from (ls ++ ms)) h.0 (nameless-append ls ms h.1 g)

pub nameless : {xs : List Segment} {ls : List Leaf} → HasLeaves xs ls → Nameless (leaves_from ls)
nameless is.no_leaves = tt
nameless (is.one_leaf {ls = ls} i j) = nameless_leaf i (leaves_from ls) (nameless j)
nameless (is.no_texts j) = nameless j
nameless (is.more_texts u j) = nameless j
nameless (is.no_strings j) = nameless j
nameless (is.more_strings j) = nameless j
nameless (is.outer_name a b c j) = nameless j
nameless (is.outer_numeral a b c j) = nameless j
nameless (is.row_leaves ls ms e p g j) = subst (λ xs. Nameless (leaves_from xs)) (sym e) (nameless-append ls ms p (nameless j))

pub plain_leaves : {xs : List Segment} {ls : List Leaf} → HasLeaves xs ls → are_plain xs ≡ true → ArePlain ls
plain_leaves is.no_leaves h = tt
plain_leaves (is.one_leaf {x = x} i j) h = let a = and_true (is_plain x) _ h in (plain_leaf i a.0, plain_leaves j a.1)
plain_leaves (is.no_texts j) h = absurd (cc)
plain_leaves (is.more_texts u j) h = absurd (cc)
plain_leaves (is.no_strings j) h = absurd (cc)
plain_leaves (is.more_strings j) h = absurd (cc)
plain_leaves (is.outer_name a b c j) h = (tt, (tt, (tt, plain_leaves j h)))
plain_leaves (is.outer_numeral a b c j) h = (tt, (tt, (tt, plain_leaves j h)))
plain_leaves (is.row_leaves ls ms e p g j) h = absurd (cc)

-- ---- leaves under a map, each with a property

abbrev pub Each : (Leaf → Type 0) → Leaves → Type 0
Each n no_leaf = Unit {0}
Each n (l ▸ ls) = n l × Each n ls

pub add_leaf : {s : Shape} {ss : List Shape} {l : Leaf} {ls : Leaves} → GoodLeaf s l → GoodLeaves ss ls → GoodLeaves (s ∷ ss) (l ▸ ls)
add_leaf a b = record { shaped = (a.shaped, b.shaped); written = (a.written, b.written); short = (a.short, b.short); named = (a.named, b.named); utf8 = (a.utf8, b.utf8); of_text = (a.of_text, b.of_text) }

module _ (f : Leaf → Leaf) (n : Leaf → Type 0) (fixes : (l : Leaf) → Plain l → f l ≡ l) (plain : (l : Leaf) → Plain l → n l)
    (each : (x : Sort) (l : Leaf) → HasLeaf x l → (s : Shape) → fits_sort x s ≡ true → GoodLeaf s (f l) × n (f l)) where
  map-plain : (ls : List Leaf) → ArePlain ls → map f ls ≡ ls
  map-plain [] h = refl
  map-plain (l ∷ ls) h = rw (fixes l h.0, map-plain ls h.1) refl

  each-plain : (ls : List Leaf) → ArePlain ls → Each n (leaves_from ls)
  each-plain [] h = tt
  each-plain (l ∷ ls) h = (plain l h.0, each-plain ls h.1)

  fixed : (l : Leaf) (s : Shape) → Plain l → GoodLeaf s l → GoodLeaf s (f l) × n (f l)
  fixed l s p g = subst (λ x. GoodLeaf s x × n x) (sym (fixes l p)) (g, plain l p)

  good_leaves : {xs : List Segment} {ls : List Leaf} → HasLeaves xs ls → (ss : List Shape) → fits_leaves xs ss ≡ true → GoodLeaves ss (leaves_from (map f ls)) × Each n (leaves_from (map f ls))
  good_leaves is.no_leaves [] h = (record { shaped = tt; written = tt; short = tt; named = tt; utf8 = tt; of_text = tt }, tt)
  good_leaves is.no_leaves (s ∷ ss) h = absurd (cc)
  good_leaves (is.one_leaf i j) [] h = absurd (cc)
  good_leaves (is.one_leaf {x = x} {l = l} i j) (s ∷ ss) h =
      let a = and_true (fits_sort x s) _ h in
      let b = each x l i s a.0 in
      let c = good_leaves j ss a.1 in
      (add_leaf b.0 c.0, (b.1, c.1))
  good_leaves (is.no_texts j) ss h = absurd (cc)
  good_leaves (is.more_texts u j) ss h = absurd (cc)
  good_leaves (is.no_strings j) ss h = absurd (cc)
  good_leaves (is.more_strings j) ss h = absurd (cc)
  good_leaves (is.outer_name {k = k} {p = p} {x = x} a b c j) (w.a_place ∷ w.a_placed_ref ∷ w.a_kind ∷ ss) h =
      let d = good_leaves j ss h in
      let u = fixed (m.place p) w.a_place tt (record { shaped = refl; written = tt; short = a; named = tt; utf8 = tt; of_text = b }) in
      let v = fixed (m.ref k (m.name (core.at_place p) x)) w.a_placed_ref tt (record { shaped = (refl, refl); written = tt; short = tt; named = tt; utf8 = tt; of_text = (b, c) }) in
      let z = fixed (m.kind k) w.a_kind tt (record { shaped = refl; written = tt; short = tt; named = tt; utf8 = tt; of_text = tt }) in
      (add_leaf u.0 (add_leaf v.0 (add_leaf z.0 d.0)), (u.1, (v.1, (z.1, d.1))))
  good_leaves (is.outer_numeral {k = k} {p = p} {o = o} {n = i} a b c j) (w.a_place ∷ w.a_placed_ref ∷ w.a_kind ∷ ss) h =
      let d = good_leaves j ss h in
      let u = fixed (m.place p) w.a_place tt (record { shaped = refl; written = tt; short = a; named = tt; utf8 = tt; of_text = b }) in
      let v = fixed (m.ref k (m.numeral o i)) w.a_placed_ref tt (record { shaped = (refl, tt); written = tt; short = c; named = tt; utf8 = tt; of_text = tt }) in
      let z = fixed (m.kind k) w.a_kind tt (record { shaped = refl; written = tt; short = tt; named = tt; utf8 = tt; of_text = tt }) in
      (add_leaf u.0 (add_leaf v.0 (add_leaf z.0 d.0)), (u.1, (v.1, (z.1, d.1))))
  good_leaves (is.outer_name a b c j) _ h = absurd (cc)
  good_leaves (is.outer_numeral a b c j) _ h = absurd (cc)
  good_leaves (is.row_leaves ls ms e p g j) ss h = absurd (cc)

  pub good_row : (t : Row) {xs : List Segment} {ls : List Leaf} → HasLeaves xs ls → fits_row t xs ≡ true → GoodLeaves (leaves_of t) (leaves_from (map f ls)) × Each n (leaves_from (map f ls))
  good_row t (is.row_leaves {t = u} {ns = ns} ls [] e p g is.no_leaves) h =
      let q : ns ≡ ls = e ∙ append-nil ls in
      let d : GoodLeaves (leaves_of t) (leaves_from ls) = subst (λ x. GoodLeaves (leaves_of x) (leaves_from ls)) (same_row-true u t h) g in
      subst (λ xs. GoodLeaves (leaves_of t) (leaves_from (map f xs)) × Each n (leaves_from (map f xs))) (sym q)
      (subst (λ xs. GoodLeaves (leaves_of t) (leaves_from xs) × Each n (leaves_from xs)) (sym (map-plain ls p)) (d, each-plain ls p))
  good_row t (is.row_leaves ls ms e p g (is.one_leaf i j)) h = absurd (cc)
  good_row t (is.row_leaves ls ms e p g (is.no_texts j)) h = absurd (cc)
  good_row t (is.row_leaves ls ms e p g (is.more_texts u j)) h = absurd (cc)
  good_row t (is.row_leaves ls ms e p g (is.no_strings j)) h = absurd (cc)
  good_row t (is.row_leaves ls ms e p g (is.more_strings j)) h = absurd (cc)
  good_row t (is.row_leaves ls ms e p g (is.outer_name a b c j)) h = absurd (cc)
  good_row t (is.row_leaves ls ms e p g (is.outer_numeral a b c j)) h = absurd (cc)
  good_row t (is.row_leaves ls ms e p g (is.row_leaves ls' ms' e' p' g' j)) h = absurd (cc)
  good_row t is.no_leaves h = good_leaves is.no_leaves (leaves_of t) h
  good_row t (is.one_leaf i j) h = good_leaves (is.one_leaf i j) (leaves_of t) h
  good_row t (is.no_texts j) h = good_leaves (is.no_texts j) (leaves_of t) h
  good_row t (is.more_texts u j) h = good_leaves (is.more_texts u j) (leaves_of t) h
  good_row t (is.no_strings j) h = good_leaves (is.no_strings j) (leaves_of t) h
  good_row t (is.more_strings j) h = good_leaves (is.more_strings j) (leaves_of t) h
  good_row t (is.outer_name a b c j) h = good_leaves (is.outer_name a b c j) (leaves_of t) h
  good_row t (is.outer_numeral a b c j) h = good_leaves (is.outer_numeral a b c j) (leaves_of t) h

-- as they stand
pub good_shapes : {xs : List Segment} {ls : List Leaf} → HasLeaves xs ls → (ss : List Shape) → fits_leaves xs ss ≡ true → GoodLeaves ss (leaves_from ls)
good_shapes {ls = ls} i ss h = subst (λ x. GoodLeaves ss (leaves_from x)) (map-id ls) (good_leaves (λ l. l) (λ l. Unit {0}) (λ l p. refl) (λ l p. tt) (λ x l j s e. (good_leaf j s e, tt)) i ss h).0

pub good_node : (t : Row) {xs : List Segment} {ls : List Leaf} → HasLeaves xs ls → fits_row t xs ≡ true → GoodLeaves (leaves_of t) (leaves_from ls)
good_node t {ls = ls} i h = subst (λ x. GoodLeaves (leaves_of t) (leaves_from x)) (map-id ls) (good_row (λ l. l) (λ l. Unit {0}) (λ l p. refl) (λ l p. tt) (λ x l j s e. (good_leaf j s e, tt)) t i h).0

-- ---- as those of a definition

-- the first id of ids of the text is one
pub first_of_text : (xs : List (Option Id)) → TextIds xs → TextIdOf (first_or_none xs)
first_of_text [] h = tt
first_of_text (None ∷ xs) h = tt
first_of_text (Some x ∷ xs) h = h.0

module _ (ids : List (Option Id)) (labels : List (Option Text)) (exports : List Text) (o : ℕ) (of_text : TextIds ids) where
  abbrev its : Names
  its = record { ids = ids; labels = labels; exports = exports; offset = o }

  owned_scope : (k : ScopeKind) (ds : Defs) → GoodDefs k ds → (s : Shape) → has_scope s k ≡ true
      → GoodLeaf s (owned (first_or_none ids) (first_or_none labels) (m.scope (m.scope_of k None None ds))) × LeafNamed its (owned (first_or_none ids) (first_or_none labels) (m.scope (m.scope_of k None None ds)))
  owned_scope kinds.Component ds g s h = (record { shaped = (h, g.shaped); written = g.written; short = g.short; named = g.named; utf8 = g.utf8; of_text = (first_of_text ids of_text, g.of_text) }, (refl, refl))
  owned_scope kinds.ComponentType ds g s h = (record { shaped = (h, g.shaped); written = g.written; short = g.short; named = g.named; utf8 = g.utf8; of_text = (first_of_text ids of_text, g.of_text) }, (refl, refl))
  owned_scope kinds.InstanceType ds g s h = (record { shaped = (h, g.shaped); written = g.written; short = g.short; named = g.named; utf8 = g.utf8; of_text = (first_of_text ids of_text, g.of_text) }, (refl, refl))
  owned_scope kinds.ModuleType ds g s h = (record { shaped = (h, g.shaped); written = g.written; short = g.short; named = g.named; utf8 = g.utf8; of_text = (first_of_text ids of_text, g.of_text) }, (refl, refl))

  plain_case : {x : Sort} {l : Leaf} → HasLeaf x l → is_plain x ≡ true → (s : Shape) → fits_sort x s ≡ true
      → GoodLeaf s (owned (first_or_none ids) (first_or_none labels) l) × LeafNamed its (owned (first_or_none ids) (first_or_none labels) l)
  plain_case {l = l} i p s h =
      let q = plain_leaf i p in
      subst (λ x. GoodLeaf s x × LeafNamed its x) (sym (owned_plain (first_or_none ids) (first_or_none labels) l q)) (good_leaf i s h, named_plain its l q)

  owned_leaf : {x : Sort} {l : Leaf} → HasLeaf x l → (s : Shape) → fits_sort x s ≡ true
      → GoodLeaf s (owned (first_or_none ids) (first_or_none labels) l) × LeafNamed its (owned (first_or_none ids) (first_or_none labels) l)
  owned_leaf (is.scope_leaf {k = k} {ds = ds} g) s h = owned_scope k ds g s h
  owned_leaf (is.module_leaf i) s h = (record { shaped = h; written = tt; short = i; named = tt; utf8 = tt; of_text = tt }, (refl, refl))
  owned_leaf is.results_leaf s h = absurd (cc)
  owned_leaf i s h = plain_case i refl s h

  each-named : (ls : Leaves) → Each (LeafNamed its) ls → LeavesNamed its ls
  each-named no_leaf h = tt
  each-named (l ▸ ls) h = (h.0, each-named ls h.1)

  pub owned_row : (t : Row) {xs : List Segment} {ls : List Leaf} → HasLeaves xs ls → fits_row t xs ≡ true
      → GoodLeaves (leaves_of t) (leaves_from (map (owned (first_or_none ids) (first_or_none labels)) ls)) × LeavesNamed its (leaves_from (map (owned (first_or_none ids) (first_or_none labels)) ls))
  owned_row t {ls = ls} i h =
      let g = good_row (owned (first_or_none ids) (first_or_none labels)) (LeafNamed its) (owned_plain (first_or_none ids) (first_or_none labels)) (named_plain its) (λ x l j s e. owned_leaf j s e) t i h in
      (g.0, each-named (leaves_from (map (owned (first_or_none ids) (first_or_none labels)) ls)) g.1)
