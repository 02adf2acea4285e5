-- The leaves of pieces by their places.
use Rattle.std.proofs.Common.{◌≡◌, ℕ, zero, suc, List, [], ◌∷◌, ◌++◌, refl, sym, ◌∙◌, ap, subst, Bool, true, false, ◌||◌, inl, Some, append_assoc, append-nil}
use Rattle.std.specs.Prelude.{◌==◌}
use Rattle.std.proofs.lemmas.Bool.{eq-eqb}
use Rattle.comp_model.specs.declared.Space.{Space}
use Rattle.comp_model.specs.Core as c
use Rattle.comp_model.specs.Leb.{uleb}
use Rattle.comp_model.specs.Payloads.{sort_bytes}
use Rattle.comp_model.specs.Model as m
use Rattle.comp_model.specs.Model.{Leaf, Leaves, no_leaf, ◌▸◌}
use Rattle.comp_wire.specs.Table as t
use Rattle.comp_wire.specs.Table.{Family, Field, Piece, byte, leaf, limits, outer}
use Rattle.comp_wire.specs.Spelled.{spell_leaf, spell_leaves, spelled_at, assemble, fits_leaves, fits_at, FitsLeaf, FitsPieces}
use Rattle.comp_wire.proofs.Numbers.{cons_is}
use Rattle.comp_wire.proofs.Groups.{and_both}
use Rattle.comp_wire.proofs.Fields.{closed, closed_family, sound, limits_end, outer_end}
use Rattle.comp_wire.proofs.Rows.{has, leaf_at}
use Rattle.wire_read.specs.Nodes.{is_closed, is_readable}
use Rattle.wire_read.specs.Pieces.{is_readable_piece}
use Rattle.comp_wire.proofs.OneComponent.{leaf_law}

pub same_closed : (f : Family) → closed_family f ≡ is_closed f
same_closed t.components = refl
same_closed _ = refl

pub readable_sound : (f : Field) → is_readable f ≡ true → (sound f ≡ true) × (closed f ≡ true)
readable_sound (t.optional f) e = readable_sound f e
readable_sound (t.result f) e = readable_sound f e
readable_sound (t.one g) e = (same_closed g ∙ e, refl)
readable_sound (t.each g) e = (same_closed g ∙ e, refl)
readable_sound (t.type_scope k) e = (refl, refl)
readable_sound t.any_index e = cc
readable_sound t.presence e = cc
readable_sound t.maximum e = cc
readable_sound t.whole_component e = cc
readable_sound t.whole_module e = cc
readable_sound t.rest e = cc
readable_sound f e = (refl, refl)

-- the leaf at a place
abbrev pub AtPlace : Leaves → ℕ → Field → Type 0
AtPlace xs i f = (x : Leaf) × (leaf_at i xs ≡ Some x) × FitsLeaf x f × ((g : Field) → spelled_at i g (spell_leaves xs) ≡ spell_leaf x g)

pub at_place : (xs : Leaves) (i : ℕ) (f : Field) → fits_at i f (fits_leaves xs) → AtPlace xs i f
at_place no_leaf i f p = absurd p
at_place (x ▸ xs) zero f p = (x, refl, p, λ g. refl)
at_place (x ▸ xs) (suc i) f p = at_place xs i f p

-- what it fits and how it is spelled hangs on it alone
pub fits_there : (xs ys : Leaves) (i : ℕ) (f : Field) → leaf_at i xs ≡ leaf_at i ys → fits_at i f (fits_leaves xs) → fits_at i f (fits_leaves ys)
fits_there xs ys i f e p = let x = at_place xs i f p in there ys i (sym (sym x.1 ∙ e)) x.2
  where
    there : (ys : Leaves) (i : ℕ) {x : Leaf} → leaf_at i ys ≡ Some x → FitsLeaf x f → fits_at i f (fits_leaves ys)
    there no_leaf i e p = cc
    there (y ▸ ys) zero {x} e p = let same : x ≡ y = cc in subst (λ z. FitsLeaf z f) same p
    there (y ▸ ys) (suc i) e p = there ys i e p

spelled_by : (ys : Leaves) (i : ℕ) (x : Leaf) (g : Field) → leaf_at i ys ≡ Some x → spelled_at i g (spell_leaves ys) ≡ spell_leaf x g
spelled_by no_leaf i x g e = cc
spelled_by (y ▸ ys) zero x g e = let same : y ≡ x = cc in ap (λ z. spell_leaf z g) same
spelled_by (y ▸ ys) (suc i) x g e = spelled_by ys i x g e

pub spelled_there : (xs ys : Leaves) (i : ℕ) (f g : Field) → leaf_at i xs ≡ leaf_at i ys → fits_at i f (fits_leaves xs) → spelled_at i g (spell_leaves xs) ≡ spelled_at i g (spell_leaves ys)
spelled_there xs ys i f g e p = let x = at_place xs i f p in x.3 g ∙ sym (spelled_by ys i x.0 g (sym e ∙ x.1))

-- pieces hang on the leaves at their places alone
abbrev pub SamePlaces : List Piece → Leaves → Leaves → Type 0
SamePlaces ps xs ys = (j : ℕ) → has j ps ≡ true → leaf_at j xs ≡ leaf_at j ys

here : (i : ℕ) (b : Bool) → ((i == i) || b) ≡ true
here i b = ap (λ c. c || b) (eq-eqb i i refl)

or_later : (a b : Bool) → b ≡ true → (a || b) ≡ true
or_later true b e = refl
or_later false b e = e

pub carried : (ps : List Piece) (xs ys : Leaves) → SamePlaces ps xs ys → FitsPieces ps (fits_leaves xs) → FitsPieces ps (fits_leaves ys) × (assemble ps (spell_leaves xs) ≡ assemble ps (spell_leaves ys))
carried [] xs ys s p = (tt, refl)
carried (byte b ∷ ps) xs ys s p = let r = carried ps xs ys s p in (r.0, ap (λ z. b ∷ z) r.1)
carried (leaf i f ∷ ps) xs ys s p =
    let e = s i (here i (has i ps)) in
    let r = carried ps xs ys (λ j h. s j (or_later (j == i) (has j ps) h)) p.1 in
    ((fits_there xs ys i f e p.0, r.0), ap (λ z. z ++ assemble ps (spell_leaves xs)) (spelled_there xs ys i f f e p.0) ∙ ap (λ z. spelled_at i f (spell_leaves ys) ++ z) r.1)
carried (limits i ∷ ps) xs ys s p =
    let e = s i (here i _) in
    let e2 = s (suc i) (or_later (suc i == i) _ (here (suc i) (has (suc i) ps))) in
    let r = carried ps xs ys (λ j h. s j (or_later (j == i) _ (or_later (j == suc i) (has j ps) h))) p.2 in
    let a = spelled_there xs ys (suc i) t.maximum t.presence e2 p.1 in
    let b = spelled_there xs ys i t.unsigned t.unsigned e p.0 in
    let d = spelled_there xs ys (suc i) t.maximum t.maximum e2 p.1 in
    ((fits_there xs ys i t.unsigned e p.0, fits_there xs ys (suc i) t.maximum e2 p.1, r.0), rw (a, b, d, r.1) refl)
carried (outer i ∷ ps) xs ys s p =
    let e = s i (here i _) in
    let e2 = s (suc i) (or_later (suc i == i) _ (here (suc i) _)) in
    let e3 = s (suc (suc i)) (or_later (suc (suc i) == i) _ (or_later (suc (suc i) == suc i) _ (here (suc (suc i)) (has (suc (suc i)) ps)))) in
    let r = carried ps xs ys (λ j h. s j (or_later (j == i) _ (or_later (j == suc i) _ (or_later (j == suc (suc i)) (has j ps) h)))) p.1 in
    let u = p.0.0 in
    let a = spelled_there xs ys (suc (suc i)) (t.kind_is u) t.sort e3 p.0.3 in
    let b = spelled_there xs ys i t.outward t.outward e p.0.1 in
    let d = spelled_there xs ys (suc i) (t.index_in u) t.any_index e2 p.0.2 in
    (((u, fits_there xs ys i t.outward e p.0.1, fits_there xs ys (suc i) (t.index_in u) e2 p.0.2, fits_there xs ys (suc (suc i)) (t.kind_is u) e3 p.0.3), r.0), rw (a, b, d, r.1) refl)

-- what stands behind a piece is told by the bytes
places_behind : (p n x r s : List ℕ) → ((p ++ (n ++ x)) ++ []) ++ r ≡ s → p ++ (n ++ (x ++ r)) ≡ s
places_behind p n x r s e =
    ap (λ z. p ++ z) (sym (append_assoc n x r)) ∙ sym (append_assoc p (n ++ x) r) ∙ ap (λ z. z ++ r) (sym (append-nil (p ++ (n ++ x)))) ∙ e

number_there : (x : Leaf) → FitsLeaf x t.unsigned → (n : ℕ) × (spell_leaf x t.unsigned ≡ uleb n)
number_there (m.number n) p = (n, refl)
number_there x p = absurd p

outward_there : (x : Leaf) → FitsLeaf x t.outward → (n : ℕ) × (spell_leaf x t.outward ≡ uleb n)
outward_there (m.place (c.counted o n)) p = (n, refl)
outward_there (m.place (c.named o y)) p = absurd p
outward_there x p = absurd p

index_there : (u : Space) (x : Leaf) → FitsLeaf x (t.index_in u) → (n : ℕ) × (spell_leaf x t.any_index ≡ uleb n)
index_there u (m.ref s (m.index n)) p = (n, refl)
index_there u (m.ref s y) p = absurd p
index_there u x p = absurd p

kind_there : (u : Space) (x : Leaf) → FitsLeaf x (t.kind_is u) → spell_leaf x t.sort ≡ sort_bytes u
kind_there u (m.kind s) p = ap sort_bytes p
kind_there u x p = absurd p

three : (p n x r s : List ℕ) (p' n' x' : List ℕ) → p ≡ p' → n ≡ n' → x ≡ x' → p ++ (n ++ (x ++ r)) ≡ s → p' ++ (n' ++ (x' ++ r)) ≡ s
three p n x r s p' n' x' a b d e = rw (a, b, d) at e

three_outer : (p n x r s : List ℕ) (p' n' x' : List ℕ) → p ≡ p' → n ≡ n' → x ≡ x' → ((p ++ 0x02 ∷ (n ++ x)) ++ []) ++ r ≡ s → p' ++ 0x02 ∷ (n' ++ (x' ++ r)) ≡ s
three_outer p n x r s p' n' x' a b d e =
    let f : p ++ 0x02 ∷ (n ++ (x ++ r)) ≡ s =
    ap (λ z. p ++ 0x02 ∷ z) (sym (append_assoc n x r)) ∙ sym (append_assoc p (0x02 ∷ (n ++ x)) r) ∙ ap (λ z. z ++ r) (sym (append-nil (p ++ 0x02 ∷ (n ++ x)))) ∙ e in
    rw (a, b, d) at f

pub piece_ends : (p : Piece) (xs ys : Leaves) (a b : List ℕ) → is_readable_piece p ≡ true → FitsPieces (p ∷ []) (fits_leaves xs) → FitsPieces (p ∷ []) (fits_leaves ys) → assemble (p ∷ []) (spell_leaves xs) ++ a ≡ assemble (p ∷ []) (spell_leaves ys) ++ b → a ≡ b
piece_ends (byte k) xs ys a b ok p q e = (cons_is _ _ _ _ e).1
piece_ends (leaf i f) xs ys a b ok p q e =
    let x = at_place xs i f p.0 in
    let y = at_place ys i f q.0 in
    let read = readable_sound f (and_both _ _ ok).0 in
    let left = ap (λ z. z ++ a) (append-nil (spelled_at i f (spell_leaves xs)) ∙ x.3 f) in
    let right = ap (λ z. z ++ b) (append-nil (spelled_at i f (spell_leaves ys)) ∙ y.3 f) in
    (leaf_law x.0 f y.0 a b read.0 x.2 y.2 (inl read.1) (sym left ∙ e ∙ right)).1
piece_ends (limits i) xs ys a b ok p q e =
    let x = at_place xs i t.unsigned p.0 in let x2 = at_place xs (suc i) t.maximum p.1 in
    let y = at_place ys i t.unsigned q.0 in let y2 = at_place ys (suc i) t.maximum q.1 in
    let n = number_there x.0 x.2 in let k = number_there y.0 y.2 in
    let f = three _ _ _ a _ _ _ _ (x2.3 t.presence) (x.3 t.unsigned ∙ n.1) (x2.3 t.maximum) (places_behind (spelled_at (suc i) t.presence (spell_leaves xs)) (spelled_at i t.unsigned (spell_leaves xs)) (spelled_at (suc i) t.maximum (spell_leaves xs)) a (assemble (limits i ∷ []) (spell_leaves ys) ++ b) e) in
    let g = three _ _ _ b _ _ _ _ (y2.3 t.presence) (y.3 t.unsigned ∙ k.1) (y2.3 t.maximum) (places_behind (spelled_at (suc i) t.presence (spell_leaves ys)) (spelled_at i t.unsigned (spell_leaves ys)) (spelled_at (suc i) t.maximum (spell_leaves ys)) b (assemble (limits i ∷ []) (spell_leaves ys) ++ b) refl) in
    (limits_end x2.0 y2.0 n.0 k.0 a b x2.2 y2.2 (f ∙ sym g)).2
piece_ends (outer i) xs ys a b ok p q e =
    let s = p.0.0 in let u = q.0.0 in
    let x = at_place xs i t.outward p.0.1 in let x2 = at_place xs (suc i) (t.index_in s) p.0.2 in let x3 = at_place xs (suc (suc i)) (t.kind_is s) p.0.3 in
    let y = at_place ys i t.outward q.0.1 in let y2 = at_place ys (suc i) (t.index_in u) q.0.2 in let y3 = at_place ys (suc (suc i)) (t.kind_is u) q.0.3 in
    let n = outward_there x.0 x.2 in let k = outward_there y.0 y.2 in
    let v = index_there s x2.0 x2.2 in let w = index_there u y2.0 y2.2 in
    let f = three_outer _ _ _ a _ _ _ _ (x3.3 t.sort ∙ kind_there s x3.0 x3.2) (x.3 t.outward ∙ n.1) (x2.3 t.any_index ∙ v.1) e in
    let g = three_outer _ _ _ b _ _ _ _ (y3.3 t.sort ∙ kind_there u y3.0 y3.2) (y.3 t.outward ∙ k.1) (y2.3 t.any_index ∙ w.1) refl in
    (outer_end s u n.0 k.0 v.0 w.0 a b (f ∙ sym g)).3
