-- A row ends itself too, and no two rows of one family begin alike: proved once for every table that passes a test.
use Rattle.std.proofs.Common.{◌≡◌, ℕ, zero, suc, ◌<◌, ◌≤◌, List, [], ◌∷◌, ◌++◌, length, refl, sym, ◌∙◌, ap, subst, arith, Bool, true, false, not, ◌&&◌, ◌||◌, ◌⊎◌, inl, inr, Option, Some, None, append_assoc, if◌then◌else◌, lit≤}
use Rattle.std.specs.Prelude.{◌==◌, nat_le}
use Rattle.std.proofs.lemmas.Bool.{le-leb, eq-eqb, eqb-true, cases_lt}
use Rattle.comp_model.specs.declared.Space.{Space}
use Rattle.comp_model.specs.Core as c
use Rattle.comp_model.specs.declared.row.Row.{Row}
use Rattle.comp_model.specs.RowNumbers.{row_number, all_rows, row_in, row_in-number, same_row}
use Rattle.comp_model.specs.Model as m
use Rattle.comp_model.specs.Model.{Leaf, Leaves, no_leaf, ◌▸◌, Node, row}
use Rattle.comp_model.specs.Leb.{uleb}
use Rattle.comp_wire.specs.Table as table
use Rattle.comp_wire.specs.Table.{Family, Field, Piece, byte, leaf, limits, outer, Line, lines}
use Rattle.comp_model.specs.Payloads.{sort_bytes}
use Rattle.comp_wire.specs.Spelled.{spell_leaf, spell_leaves, spelled_at, outer_bytes, assemble, spell_line, spell_node, find, fits_leaves, fits_at, FitsLeaf, FitsOuter, FitsPieces, FitsLine, FitsNode, IsPrimitive, async_byte_of}
use Rattle.comp_wire.proofs.Numbers.{cons_is}
use Rattle.comp_wire.proofs.Groups.{and_both}
use Rattle.comp_wire.proofs.Fields.{closed, closed_family, sound, Follow, LeafLaw, sort_ends, same_reference, limits_end, outer_end}

-- The tests of a table.
abbrev pub is_last : List Piece → Bool
is_last [] = true
is_last (p ∷ ps) = false

abbrev pub good : Bool → List Piece → Bool
good c [] = true
good c (byte b ∷ ps) = good c ps
good c (limits i ∷ ps) = good c ps
good c (outer i ∷ ps) = good c ps
good c (leaf i f ∷ ps) = sound f && ((closed f || (not c && is_last ps)) && good c ps)

abbrev pub has : ℕ → List Piece → Bool
has i [] = false
has i (byte b ∷ ps) = has i ps
has i (leaf j f ∷ ps) = (i == j) || has i ps
has i (limits j ∷ ps) = (i == j) || ((i == suc j) || has i ps)
has i (outer j ∷ ps) = (i == j) || ((i == suc j) || ((i == suc (suc j)) || has i ps))

abbrev pub covers : ℕ → List Piece → Bool
covers zero ps = true
covers (suc i) ps = has i ps && covers i ps

abbrev pub primitive_test : ℕ → Bool
primitive_test b = (b == 0x64) || (nat_le 0x73 b && nat_le b 0x7f)

abbrev pub async_test : ℕ → Bool
async_test b = (b == 0x40) || (b == 0x43)

abbrev pub begins_with : ℕ → Field → Bool
begins_with b table.primitive_byte = primitive_test b
begins_with b table.async_byte = async_test b
begins_with b f = true

-- whether no leaves of the two fields begin alike
abbrev pub fields_apart : Field → Field → Bool
fields_apart table.primitive_byte table.async_byte = true
fields_apart f g = false

-- whether both are read alike: sorts are
abbrev pub is_sort : Field → Bool
is_sort table.sort = true
is_sort table.core_sort = true
is_sort f = false

-- whether a byte other than that of an outer alias comes next
abbrev pub no_outer : List Piece → Bool
no_outer (byte b ∷ ps) = not (b == 0x02)
no_outer ps = false

-- whether no bytes begin with both
abbrev pub apart : List Piece → List Piece → Bool
apart (byte b ∷ ps) (byte c ∷ qs) = if b == c then apart ps qs else true
apart (byte b ∷ ps) (leaf j f ∷ qs) = not (begins_with b f)
apart (leaf i f ∷ ps) (byte b ∷ qs) = not (begins_with b f)
apart (leaf i f ∷ ps) (outer j ∷ qs) = is_sort f && no_outer ps
apart (leaf i f ∷ ps) (leaf j g ∷ qs) = fields_apart f g || (is_sort f && (is_sort g && apart ps qs))
apart ps qs = false

abbrev pub each_good : Bool → List Line → Bool
each_good c [] = true
each_good c (l ∷ ls) = (good c l.pieces && covers l.leaves l.pieces) && each_good c ls

abbrev pub apart_from : Line → List Line → Bool
apart_from l [] = true
apart_from l (k ∷ ks) = apart l.pieces k.pieces && apart_from l ks

abbrev pub all_apart : List Line → Bool
all_apart [] = true
all_apart (l ∷ ls) = apart_from l ls && all_apart ls

abbrev pub table_test : Family → Bool
table_test f = each_good (closed_family f) (lines f) && all_apart (lines f)

-- the table passes: by computation
pub table_passes : (f : Family) → table_test f ≡ true
table_passes table.types = refl
table_passes _ = refl

or_both : (a b : Bool) → (a || b) ≡ true → (a ≡ true) ⊎ (b ≡ true)
or_both true b e = inl refl
or_both false b e = inr e

or_right : (a b : Bool) → b ≡ true → (a || b) ≡ true
or_right true b e = refl
or_right false b e = e

clash : {A : Type 0} (b : Bool) → b ≡ true → not b ≡ true → A
clash true e f = cc
clash false e f = cc

is_primitive : (n : ℕ) → IsPrimitive n → primitive_test n ≡ true
is_primitive n (inl e) = rw e
is_primitive n (inr e) = or_right (n == 0x64) _ (rw (le-leb 0x73 n e.0, le-leb n 0x7f e.1))

is_async : (n : ℕ) → n < 2 → async_test (async_byte_of n) ≡ true
is_async zero h = refl
is_async (suc zero) h = refl
is_async (suc (suc n)) h = absurd (omega arith)

begins_law : (b : ℕ) (f : Field) (x : Leaf) (a bs : List ℕ) → not (begins_with b f) ≡ true → FitsLeaf x f → b ∷ bs ≡ spell_leaf x f ++ a → ⊥
begins_law b table.primitive_byte (m.number n) a bs t p e = let r = cons_is _ _ _ _ e in clash _ (is_primitive n p) (subst (λ k. not (primitive_test k) ≡ true) r.0 t)
begins_law b table.primitive_byte x a bs t p e = p
begins_law b table.async_byte (m.number n) a bs t p e = let r = cons_is _ _ _ _ e in clash _ (is_async n p) (subst (λ k. not (async_test k) ≡ true) r.0 t)
begins_law b table.async_byte x a bs t p e = p
begins_law b f x a bs t p e = cc

small_async : (k : ℕ) → k < 2 → async_byte_of k ≤ 0x43
small_async zero h = lit≤ tt
small_async (suc zero) h = lit≤ tt
small_async (suc (suc k)) h = absurd (omega arith)

large_primitive : (n : ℕ) → IsPrimitive n → 0x64 ≤ n
large_primitive n (inl e) = omega arith
large_primitive n (inr e) = omega arith

fields_law : (f g : Field) (x y : Leaf) (a b : List ℕ) → fields_apart f g ≡ true → FitsLeaf x f → FitsLeaf y g → spell_leaf x f ++ a ≡ spell_leaf y g ++ b → ⊥
fields_law table.primitive_byte table.async_byte (m.number n) (m.number k) a b t p q e =
    let r = cons_is _ _ _ _ e in let low = small_async k q in let high = large_primitive n p in omega arith
fields_law table.primitive_byte table.async_byte (m.number n) y a b t p q e = q
fields_law table.primitive_byte table.async_byte x y a b t p q e = p
fields_law f g x y a b t p q e = cc

-- The leaves of a row, by place.
abbrev pub leaf_at : ℕ → Leaves → Option Leaf
leaf_at i no_leaf = None
leaf_at zero (l ▸ ls) = Some l
leaf_at (suc i) (l ▸ ls) = leaf_at i ls

abbrev pub LeavesLaw : Leaves → Type 0
LeavesLaw no_leaf = Unit {0}
LeavesLaw (l ▸ ls) = LeafLaw l × LeavesLaw ls

law_here : (l : Leaf) → LeafLaw l → (f : Field) (j : ℕ) (ys : Leaves) (a b : List ℕ) → sound f ≡ true → FitsLeaf l f → fits_at j f (fits_leaves ys) → Follow (closed f) a b
    → spell_leaf l f ++ a ≡ spelled_at j f (spell_leaves ys) ++ b → (◌≡◌ {A = Option Leaf} (Some l) (leaf_at j ys)) × (a ≡ b)
law_here l law f j no_leaf a b ok p q o e = absurd q
law_here l law f zero (y ▸ ys) a b ok p q o e = let r = law f y a b ok p q o e in (ap Some r.0, r.1)
law_here l law f (suc j) (y ▸ ys) a b ok p q o e = law_here l law f j ys a b ok p q o e

law_at : (xs : Leaves) → LeavesLaw xs → (i : ℕ) (f : Field) (j : ℕ) (ys : Leaves) (a b : List ℕ) → sound f ≡ true → fits_at i f (fits_leaves xs) → fits_at j f (fits_leaves ys) → Follow (closed f) a b
    → spelled_at i f (spell_leaves xs) ++ a ≡ spelled_at j f (spell_leaves ys) ++ b → (leaf_at i xs ≡ leaf_at j ys) × (a ≡ b)
law_at no_leaf laws i f j ys a b ok p q o e = absurd p
law_at (x ▸ xs) laws zero f j ys a b ok p q o e = law_here x laws.0 f j ys a b ok p q o e
law_at (x ▸ xs) laws (suc i) f j ys a b ok p q o e = law_at xs laws.1 i f j ys a b ok p q o e

-- behind a piece of a good row comes anything, or the piece is the last and nothing comes
follows : (c : Bool) (f : Field) (ps : List Piece) (gs hs : List (Field → List ℕ)) (a b : List ℕ) → Follow c a b → (closed f || (not c && is_last ps)) ≡ true → Follow (closed f) (assemble ps gs ++ a) (assemble ps hs ++ b)
follows c f ps gs hs a b o t = elim (or_both (closed f) _ t) [ inl e ↦ inl e | inr e ↦ last c ps o e ]
  where
    last : (c : Bool) (ps : List Piece) → Follow c a b → (not c && is_last ps) ≡ true → Follow (closed f) (assemble ps gs ++ a) (assemble ps hs ++ b)
    last true ps o e = cc
    last false [] (inl h) e = cc
    last false [] (inr h) e = inr h
    last false (p ∷ ps) o e = cc

same_places : List Piece → Leaves → Leaves → Type 0
same_places ps xs ys = (i : ℕ) → has i ps ≡ true → leaf_at i xs ≡ leaf_at i ys

one_more_place : (j : ℕ) (f : Field) (ps : List Piece) (xs ys : Leaves) → leaf_at j xs ≡ leaf_at j ys → same_places ps xs ys → same_places (leaf j f ∷ ps) xs ys
unfolding same_places
one_more_place j f ps xs ys here others i e =
    elim (or_both (i == j) (has i ps) e) [ inl h ↦ let k : i ≡ j = eqb-true i j h in subst (λ n. leaf_at n xs ≡ leaf_at n ys) (sym k) here | inr h ↦ others i h ]

pub number_at : (xs : Leaves) (i : ℕ) → fits_at i table.unsigned (fits_leaves xs) → (n : ℕ) × (leaf_at i xs ≡ Some (m.number n)) × (spelled_at i table.unsigned (spell_leaves xs) ≡ uleb n)
number_at no_leaf i p = absurd p
number_at (m.number n ▸ xs) zero p = (n, refl, refl)
number_at (x ▸ xs) zero p = absurd p
number_at (x ▸ xs) (suc i) p = number_at xs i p

pub maximum_at : (xs : Leaves) (i : ℕ) → fits_at i table.maximum (fits_leaves xs) → (x : Leaf) × (leaf_at i xs ≡ Some x) × FitsLeaf x table.maximum × (spelled_at i table.presence (spell_leaves xs) ≡ spell_leaf x table.presence) × (spelled_at i table.maximum (spell_leaves xs) ≡ spell_leaf x table.maximum)
maximum_at no_leaf i p = absurd p
maximum_at (x ▸ xs) zero p = (x, refl, p, refl, refl)
maximum_at (x ▸ xs) (suc i) p = maximum_at xs i p

limits_at : (xs ys : Leaves) (i : ℕ) (a b : List ℕ) → fits_at i table.unsigned (fits_leaves xs) → fits_at (suc i) table.maximum (fits_leaves xs) → fits_at i table.unsigned (fits_leaves ys) → fits_at (suc i) table.maximum (fits_leaves ys)
    → spelled_at (suc i) table.presence (spell_leaves xs) ++ (spelled_at i table.unsigned (spell_leaves xs) ++ (spelled_at (suc i) table.maximum (spell_leaves xs) ++ a))
    ≡ spelled_at (suc i) table.presence (spell_leaves ys) ++ (spelled_at i table.unsigned (spell_leaves ys) ++ (spelled_at (suc i) table.maximum (spell_leaves ys) ++ b))
    → (leaf_at i xs ≡ leaf_at i ys) × (leaf_at (suc i) xs ≡ leaf_at (suc i) ys) × (a ≡ b)
limits_at xs ys i a b p p2 q q2 e =
    let n = number_at xs i p in let k = number_at ys i q in let x = maximum_at xs (suc i) p2 in let y = maximum_at ys (suc i) q2 in
    let r = limits_end x.0 y.0 n.0 k.0 a b x.2 y.2 (rw (n.2, x.3, x.4, k.2, y.3, y.4) at e) in
    (n.1 ∙ ap (λ z. Some (m.number z)) r.1 ∙ sym k.1, x.1 ∙ ap Some r.0 ∙ sym y.1, r.2)

two_more_places : (j : ℕ) (ps : List Piece) (xs ys : Leaves) → leaf_at j xs ≡ leaf_at j ys → leaf_at (suc j) xs ≡ leaf_at (suc j) ys → same_places ps xs ys → same_places (limits j ∷ ps) xs ys
unfolding same_places
two_more_places j ps xs ys here next others i e =
    elim (or_both (i == j) _ e) [
      | inl h ↦ subst (λ n. leaf_at n xs ≡ leaf_at n ys) (sym (eqb-true i j h)) here
      | inr h ↦ elim (or_both (i == suc j) (has i ps) h) [ inl g ↦ subst (λ n. leaf_at n xs ≡ leaf_at n ys) (sym (eqb-true i (suc j) g)) next | inr g ↦ others i g ]
    ]

-- the three leaves of an outer alias
pub place_at : (xs : Leaves) (i : ℕ) → fits_at i table.outward (fits_leaves xs) → (n : ℕ) × (leaf_at i xs ≡ Some (m.place (c.counted 0 n))) × (spelled_at i table.outward (spell_leaves xs) ≡ uleb n)
place_at no_leaf i p = absurd p
place_at (m.place (c.counted o n) ▸ xs) zero p = (n, ap (λ z. Some (m.place (c.counted z n))) p.0, refl)
place_at (x ▸ xs) zero p = absurd p
place_at (x ▸ xs) (suc i) p = place_at xs i p

pub index_at : (xs : Leaves) (i : ℕ) (s : Space) → fits_at i (table.index_in s) (fits_leaves xs) → (n : ℕ) × (leaf_at i xs ≡ Some (m.ref s (m.index n))) × (spelled_at i table.any_index (spell_leaves xs) ≡ uleb n)
index_at no_leaf i s p = absurd p
index_at (m.ref u (m.index n) ▸ xs) zero s p = (n, ap (λ z. Some (m.ref z (m.index n))) p.0, refl)
index_at (x ▸ xs) zero s p = absurd p
index_at (x ▸ xs) (suc i) s p = index_at xs i s p

pub kind_at : (xs : Leaves) (i : ℕ) (s : Space) → fits_at i (table.kind_is s) (fits_leaves xs) → (leaf_at i xs ≡ Some (m.kind s)) × (spelled_at i table.sort (spell_leaves xs) ≡ sort_bytes s)
kind_at no_leaf i s p = absurd p
kind_at (m.kind u ▸ xs) zero s p = (ap (λ z. Some (m.kind z)) p, ap sort_bytes p)
kind_at (x ▸ xs) zero s p = absurd p
kind_at (x ▸ xs) (suc i) s p = kind_at xs i s p

outer_spelled : (xs : Leaves) (i : ℕ) (s : Space) (n k : ℕ) (a : List ℕ) → spelled_at i table.outward (spell_leaves xs) ≡ uleb n → spelled_at (suc i) table.any_index (spell_leaves xs) ≡ uleb k → spelled_at (suc (suc i)) table.sort (spell_leaves xs) ≡ sort_bytes s
    → outer_bytes i (spell_leaves xs) ++ a ≡ sort_bytes s ++ 0x02 ∷ (uleb n ++ (uleb k ++ a))
outer_spelled xs i s n k a e f g = rw (e, f, g) (append_assoc (sort_bytes s) (0x02 ∷ (uleb n ++ uleb k)) a ∙ ap (λ z. sort_bytes s ++ 0x02 ∷ z) (append_assoc (uleb n) (uleb k) a))

abbrev SameThree : ℕ → Leaves → Leaves → List ℕ → List ℕ → Type 0
SameThree i xs ys a b = (leaf_at i xs ≡ leaf_at i ys) × (leaf_at (suc i) xs ≡ leaf_at (suc i) ys) × (leaf_at (suc (suc i)) xs ≡ leaf_at (suc (suc i)) ys) × (a ≡ b)

outer_at : (xs ys : Leaves) (i : ℕ) (a b : List ℕ) → FitsOuter i (fits_leaves xs) → FitsOuter i (fits_leaves ys) → outer_bytes i (spell_leaves xs) ++ a ≡ outer_bytes i (spell_leaves ys) ++ b → SameThree i xs ys a b
outer_at xs ys i a b (s, p1, p2, p3) (u, q1, q2, q3) e =
    let n = place_at xs i p1 in let k = place_at ys i q1 in
    let x = index_at xs (suc i) s p2 in let y = index_at ys (suc i) u q2 in
    let v = kind_at xs (suc (suc i)) s p3 in let w = kind_at ys (suc (suc i)) u q3 in
    let r = outer_end s u n.0 k.0 x.0 y.0 a b (sym (outer_spelled xs i s n.0 x.0 a n.2 x.2 v.1) ∙ e ∙ outer_spelled ys i u k.0 y.0 b k.2 y.2 w.1) in
    (n.1 ∙ ap (λ z. Some (m.place (c.counted 0 z))) r.1 ∙ sym k.1, x.1 ∙ ap Some (same_reference s u x.0 y.0 r.0 r.2) ∙ sym y.1, v.0 ∙ ap (λ z. Some (m.kind z)) r.0 ∙ sym w.0, r.3)

three_more_places : (j : ℕ) (ps : List Piece) (xs ys : Leaves) (a b : List ℕ) → SameThree j xs ys a b → same_places ps xs ys → same_places (outer j ∷ ps) xs ys
unfolding same_places
three_more_places j ps xs ys a b here others i e =
    elim (or_both (i == j) _ e) [
      | inl h ↦ subst (λ n. leaf_at n xs ≡ leaf_at n ys) (sym (eqb-true i j h)) here.0
      | inr h ↦ elim (or_both (i == suc j) _ h) [
        | inl g ↦ subst (λ n. leaf_at n xs ≡ leaf_at n ys) (sym (eqb-true i (suc j) g)) here.1
        | inr g ↦ elim (or_both (i == suc (suc j)) (has i ps) g) [ inl f ↦ subst (λ n. leaf_at n xs ≡ leaf_at n ys) (sym (eqb-true i (suc (suc j)) f)) here.2 | inr f ↦ others i f ]
      ]
    ]

pieces_law : (c : Bool) (ps : List Piece) (xs ys : Leaves) (a b : List ℕ) → LeavesLaw xs → good c ps ≡ true → FitsPieces ps (fits_leaves xs) → FitsPieces ps (fits_leaves ys) → Follow c a b
    → assemble ps (spell_leaves xs) ++ a ≡ assemble ps (spell_leaves ys) ++ b → same_places ps xs ys × (a ≡ b)
unfolding same_places
pieces_law c [] xs ys a b laws t p q o e = (λ i h. cc, e)
pieces_law c (byte k ∷ ps) xs ys a b laws t p q o e = pieces_law c ps xs ys a b laws t p q o (cons_is _ _ _ _ e).1
pieces_law c (limits i ∷ ps) xs ys a b laws t p q o e =
    let first = limits_at xs ys i _ _ p.0 p.1 q.0 q.1 (simp append_assoc at e) in
    let others = pieces_law c ps xs ys a b laws t p.2 q.2 o first.2 in
    (two_more_places i ps xs ys first.0 first.1 others.0, others.1)
pieces_law c (outer i ∷ ps) xs ys a b laws t p q o e =
    let first = outer_at xs ys i _ _ p.0 q.0 (sym (append_assoc (outer_bytes i (spell_leaves xs)) (assemble ps (spell_leaves xs)) a) ∙ e ∙ append_assoc (outer_bytes i (spell_leaves ys)) (assemble ps (spell_leaves ys)) b) in
    let others = pieces_law c ps xs ys a b laws t p.1 q.1 o first.3 in
    (three_more_places i ps xs ys _ _ first others.0, others.1)
pieces_law c (leaf i f ∷ ps) xs ys a b laws t p q o e =
    let tests = and_both (sound f) _ t in
    let later = and_both _ (good c ps) tests.1 in
    let first = law_at xs laws i f i ys _ _ tests.0 p.0 q.0 (follows c f ps (spell_leaves xs) (spell_leaves ys) a b o later.0) (simp append_assoc at e) in
    let others = pieces_law c ps xs ys a b laws later.1 p.1 q.1 o first.1 in
    (one_more_place i f ps xs ys first.0 others.0, others.1)

begins_at : (k : ℕ) (f : Field) (ys : Leaves) (j : ℕ) (a bs : List ℕ) → not (begins_with k f) ≡ true → fits_at j f (fits_leaves ys) → k ∷ bs ≡ spelled_at j f (spell_leaves ys) ++ a → ⊥
begins_at k f no_leaf j a bs t q e = q
begins_at k f (y ▸ ys) zero a bs t q e = begins_law k f y a bs t q e
begins_at k f (y ▸ ys) (suc j) a bs t q e = begins_at k f ys j a bs t q e

fields_here : (f g : Field) (x : Leaf) (ys : Leaves) (j : ℕ) (a b : List ℕ) → fields_apart f g ≡ true → FitsLeaf x f → fits_at j g (fits_leaves ys) → spell_leaf x f ++ a ≡ spelled_at j g (spell_leaves ys) ++ b → ⊥
fields_here f g x no_leaf j a b t p q e = q
fields_here f g x (y ▸ ys) zero a b t p q e = fields_law f g x y a b t p q e
fields_here f g x (y ▸ ys) (suc j) a b t p q e = fields_here f g x ys j a b t p q e

fields_at : (f g : Field) (xs : Leaves) (i : ℕ) (ys : Leaves) (j : ℕ) (a b : List ℕ) → fields_apart f g ≡ true → fits_at i f (fits_leaves xs) → fits_at j g (fits_leaves ys) → spelled_at i f (spell_leaves xs) ++ a ≡ spelled_at j g (spell_leaves ys) ++ b → ⊥
fields_at f g no_leaf i ys j a b t p q e = p
fields_at f g (x ▸ xs) zero ys j a b t p q e = fields_here f g x ys j a b t p q e
fields_at f g (x ▸ xs) (suc i) ys j a b t p q e = fields_at f g xs i ys j a b t p q e

-- the kind that a sort spells
sort_here : (f : Field) → is_sort f ≡ true → (x : Leaf) → FitsLeaf x f → (s : Space) × (spell_leaf x f ≡ sort_bytes s)
sort_here table.sort k (m.kind s) p = (s, refl)
sort_here table.sort k x p = absurd p
sort_here table.core_sort k (m.kind s) p = (s, refl)
sort_here table.core_sort k x p = absurd p
sort_here f k x p = cc

sort_spelled : (f : Field) → is_sort f ≡ true → (xs : Leaves) (i : ℕ) → fits_at i f (fits_leaves xs) → (s : Space) × (spelled_at i f (spell_leaves xs) ≡ sort_bytes s)
sort_spelled f k no_leaf i p = absurd p
sort_spelled f k (x ▸ xs) zero p = sort_here f k x p
sort_spelled f k (x ▸ xs) (suc i) p = sort_spelled f k xs i p

past_sort : (f g : Field) → is_sort f ≡ true → is_sort g ≡ true → (xs : Leaves) (i : ℕ) (ys : Leaves) (j : ℕ) (a b : List ℕ) → fits_at i f (fits_leaves xs) → fits_at j g (fits_leaves ys)
    → spelled_at i f (spell_leaves xs) ++ a ≡ spelled_at j g (spell_leaves ys) ++ b → a ≡ b
past_sort f g k l xs i ys j a b p q e =
    let x = sort_spelled f k xs i p in let y = sort_spelled g l ys j q in
    (sort_ends x.0 y.0 a b (sym (ap (λ z. z ++ a) x.1) ∙ e ∙ ap (λ z. z ++ b) y.1)).1

not_outer : (ps : List Piece) (gs : List (Field → List ℕ)) (a b : List ℕ) → no_outer ps ≡ true → assemble ps gs ++ a ≡ 0x02 ∷ b → ⊥
not_outer [] gs a b t e = cc
not_outer (byte k ∷ ps) gs a b t e = let heads = cons_is _ _ _ _ e in clash (k == 0x02) (eq-eqb k 0x02 heads.0) t
not_outer (leaf i f ∷ ps) gs a b t e = cc
not_outer (limits i ∷ ps) gs a b t e = cc
not_outer (outer i ∷ ps) gs a b t e = cc

apart_law : (ps qs : List Piece) (xs ys : Leaves) (a b : List ℕ) → FitsPieces ps (fits_leaves xs) → FitsPieces qs (fits_leaves ys) → apart ps qs ≡ true
    → assemble ps (spell_leaves xs) ++ a ≡ assemble qs (spell_leaves ys) ++ b → ⊥
apart_law [] qs xs ys a b p q t e = cc
apart_law (limits i ∷ ps) qs xs ys a b p q t e = cc
apart_law (outer i ∷ ps) qs xs ys a b p q t e = cc
apart_law (byte k ∷ ps) [] xs ys a b p q t e = cc
apart_law (byte k ∷ ps) (limits j ∷ qs) xs ys a b p q t e = cc
apart_law (byte k ∷ ps) (outer j ∷ qs) xs ys a b p q t e = cc
apart_law (byte k ∷ ps) (byte l ∷ qs) xs ys a b p q t e =
    let heads = cons_is _ _ _ _ e in
    let u : (if k == l then apart ps qs else true) ≡ true = t in
    let v : apart ps qs ≡ true = rw (eq-eqb k l heads.0) at u in
    apart_law ps qs xs ys a b p q v heads.1
apart_law (byte k ∷ ps) (leaf j f ∷ qs) xs ys a b p q t e = begins_at k f ys j _ _ t q.0 (simp append_assoc at e)
apart_law (leaf i f ∷ ps) [] xs ys a b p q t e = cc
apart_law (leaf i f ∷ ps) (limits j ∷ qs) xs ys a b p q t e = cc
apart_law (leaf i f ∷ ps) (outer j ∷ qs) xs ys a b p q t e =
    let tests = and_both (is_sort f) _ t in
    let kind = kind_at ys (suc (suc j)) q.0.0 q.0.3 in
    let x = sort_spelled f tests.0 xs i p.0 in
    let more = spelled_at j table.outward (spell_leaves ys) ++ spelled_at (suc j) table.any_index (spell_leaves ys) in
    let right = ap (λ z. ((z ++ 0x02 ∷ more) ++ assemble qs (spell_leaves ys)) ++ b) kind.1 in
    let left = ap (λ z. (z ++ assemble ps (spell_leaves xs)) ++ a) x.1 in
    let whole : sort_bytes x.0 ++ (assemble ps (spell_leaves xs) ++ a) ≡ sort_bytes q.0.0 ++ 0x02 ∷ ((more ++ assemble qs (spell_leaves ys)) ++ b) =
    sym (append_assoc (sort_bytes x.0) (assemble ps (spell_leaves xs)) a) ∙ sym left ∙ e ∙ right
    ∙ append_assoc (sort_bytes q.0.0 ++ 0x02 ∷ more) (assemble qs (spell_leaves ys)) b
    ∙ append_assoc (sort_bytes q.0.0) (0x02 ∷ more) (assemble qs (spell_leaves ys) ++ b)
    ∙ ap (λ z. sort_bytes q.0.0 ++ 0x02 ∷ z) (sym (append_assoc more (assemble qs (spell_leaves ys)) b)) in
    not_outer ps (spell_leaves xs) a _ tests.1 (sort_ends x.0 q.0.0 _ _ whole).1
apart_law (leaf i f ∷ ps) (byte l ∷ qs) xs ys a b p q t e = begins_at l f xs i _ _ t p.0 (sym (simp append_assoc at e))
apart_law (leaf i f ∷ ps) (leaf j g ∷ qs) xs ys a b p q t e =
    elim (or_both (fields_apart f g) _ t) [
      | inl h ↦ fields_at f g xs i ys j _ _ h p.0 q.0 (simp append_assoc at e)
      | inr h ↦
          let tests = and_both (is_sort f) _ h in
          let later = and_both (is_sort g) _ tests.1 in
          apart_law ps qs xs ys a b p.1 q.1 later.1 (past_sort f g tests.0 later.0 xs i ys j _ _ p.0 q.0 (simp append_assoc at e))
    ]

-- Leaves that are alike at each place are alike.
pub same_leaves : (xs ys : Leaves) → length (fits_leaves xs) ≡ length (fits_leaves ys) → ((i : ℕ) → i < length (fits_leaves xs) → leaf_at i xs ≡ leaf_at i ys) → xs ≡ ys
same_leaves no_leaf no_leaf l h = refl
same_leaves no_leaf (y ▸ ys) l h = absurd (omega arith)
same_leaves (x ▸ xs) no_leaf l h = absurd (omega arith)
same_leaves (x ▸ xs) (y ▸ ys) l h =
    let first : ◌≡◌ {A = Option Leaf} (Some x) (Some y) = h 0 (omega arith) in
    let others = same_leaves xs ys (omega arith) (λ i k. h (suc i) (omega arith)) in
    cc

pub covered : (n : ℕ) (ps : List Piece) → covers n ps ≡ true → (i : ℕ) → i < n → has i ps ≡ true
covered zero ps t i k = absurd (omega arith)
covered (suc n) ps t i k =
    let tests = and_both (has n ps) _ t in
    elim (cases_lt i n) [ inl h ↦ covered n ps tests.1 i h | inr h ↦ let e : i ≡ n = omega arith in subst (λ l. has l ps ≡ true) (sym e) tests.0 ]

-- The line of a row is one of the lines, and those of two rows are apart.
tag_is : (s t : Row) → same_row s t ≡ true → s ≡ t
tag_is s t e = sym (row_in-number s) ∙ ap (row_in all_rows) (eqb-true (row_number s) (row_number t) e) ∙ row_in-number t

find_cases : (t : Row) (k : Line) (ks : List Line) (l : Line) → find t (k ∷ ks) ≡ Some l → ((t ≡ k.tag) × (k ≡ l)) ⊎ (find t ks ≡ Some l)
find_cases t k ks l e = go (same_row t k.tag) refl e
  where
    go : (b : Bool) → same_row t k.tag ≡ b → (if b then Some k else find t ks) ≡ Some l → ((t ≡ k.tag) × (k ≡ l)) ⊎ (find t ks ≡ Some l)
    go true h e = inl (tag_is t k.tag h, cc)
    go false h e = inr e

good_found : (c : Bool) (ls : List Line) (t : Row) (l : Line) → each_good c ls ≡ true → find t ls ≡ Some l → (good c l.pieces ≡ true) × (covers l.leaves l.pieces ≡ true)
good_found c [] t l test e = cc
good_found c (k ∷ ks) t l test e =
    let tests = and_both _ (each_good c ks) test in
    elim (find_cases t k ks l e) [
      | inl h ↦ subst (λ x. (good c x.pieces ≡ true) × (covers x.leaves x.pieces ≡ true)) h.1 (and_both _ _ tests.0)
      | inr h ↦ good_found c ks t l tests.1 h
    ]

apart_found : (l : Line) (ls : List Line) (t : Row) (k : Line) → apart_from l ls ≡ true → find t ls ≡ Some k → apart l.pieces k.pieces ≡ true
apart_found l [] t k test e = cc
apart_found l (j ∷ js) t k test e =
    let tests = and_both _ (apart_from l js) test in
    elim (find_cases t j js k e) [ inl h ↦ subst (λ x. apart l.pieces x.pieces ≡ true) h.1 tests.0 | inr h ↦ apart_found l js t k tests.1 h ]

apart_lines : (ls : List Line) (s t : Row) (l k : Line) → all_apart ls ≡ true → find s ls ≡ Some l → find t ls ≡ Some k → (s ≡ t) ⊎ ((apart l.pieces k.pieces ≡ true) ⊎ (apart k.pieces l.pieces ≡ true))
apart_lines [] s t l k test e f = cc
apart_lines (j ∷ js) s t l k test e f =
    let tests = and_both _ (all_apart js) test in
    elim (find_cases s j js l e) [
      | inl g ↦ elim (find_cases t j js k f) [ inl h ↦ inl (g.0 ∙ sym h.0) | inr h ↦ inr (inl (subst (λ x. apart x.pieces k.pieces ≡ true) g.1 (apart_found j js t k tests.0 h))) ]
      | inr g ↦ elim (find_cases t j js k f) [ inl h ↦ inr (inr (subst (λ x. apart x.pieces l.pieces ≡ true) h.1 (apart_found j js s l tests.0 g))) | inr h ↦ apart_lines js s t l k tests.1 g h ]
    ]

abbrev pub NodeLaw : Node → Type 0
NodeLaw n = (f : Family) (y : Node) (a b : List ℕ) → FitsNode n f → FitsNode y f → Follow (closed_family f) a b → spell_node n f ++ a ≡ spell_node y f ++ b → (n ≡ y) × (a ≡ b)

one_line : (c : Bool) (l : Line) (s : Row) (xs ys : Leaves) (a b : List ℕ) → LeavesLaw xs → (good c l.pieces ≡ true) × (covers l.leaves l.pieces ≡ true) → FitsLine (Some l) (fits_leaves xs) → FitsLine (Some l) (fits_leaves ys) → Follow c a b
    → assemble l.pieces (spell_leaves xs) ++ a ≡ assemble l.pieces (spell_leaves ys) ++ b → (row s xs ≡ row s ys) × (a ≡ b)
unfolding same_places
one_line c l s xs ys a b laws tests p q o e =
    let r = pieces_law c l.pieces xs ys a b laws tests.0 p.1 q.1 o e in
    (ap (row s) (same_leaves xs ys (p.0 ∙ sym q.0) (λ i k. r.0 i (covered l.leaves l.pieces tests.1 i (omega (arith, p.0))))), r.1)

pub row_law : (s : Row) (xs : Leaves) → LeavesLaw xs → NodeLaw (row s xs)
row_law s xs laws f (row t ys) a b p q o e = go (find s (lines f)) refl (find t (lines f)) refl p q e
  where
    tests : (each_good (closed_family f) (lines f) ≡ true) × (all_apart (lines f) ≡ true)
    tests = and_both _ _ (table_passes f)

    go : (l : Option Line) → find s (lines f) ≡ l → (k : Option Line) → find t (lines f) ≡ k → FitsLine l (fits_leaves xs) → FitsLine k (fits_leaves ys)
        → spell_line l (spell_leaves xs) ++ a ≡ spell_line k (spell_leaves ys) ++ b → (row s xs ≡ row t ys) × (a ≡ b)
    go None d k g p q e = absurd p
    go (Some l) d None g p q e = absurd q
    go (Some l) d (Some k) g p q e =
        elim (apart_lines (lines f) s t l k tests.1 d g) [
          | inl h ↦
              let u : ◌≡◌ {A = Option Line} (Some l) (Some k) = sym d ∙ ap (λ x. find x (lines f)) h ∙ g in
              let v : l ≡ k = cc in
              let ok = good_found (closed_family f) (lines f) s l tests.0 d in
              let r = one_line (closed_family f) l s xs ys a b laws ok p (subst (λ x. FitsLine (Some x) (fits_leaves ys)) (sym v) q) o (subst (λ x. spell_line (Some l) (spell_leaves xs) ++ a ≡ spell_line (Some x) (spell_leaves ys) ++ b) (sym v) e) in
              (r.0 ∙ ap (λ x. row x ys) h, r.1)
          | inr h ↦ elim h [
            | inl w ↦ absurd (apart_law l.pieces k.pieces xs ys a b p.1 q.1 w e)
            | inr w ↦ absurd (apart_law k.pieces l.pieces ys xs b a q.1 p.1 w (sym e))
          ]
        ]
