-- Pieces one behind the other.
use Rattle.std.proofs.Common.{◌≡◌, ℕ, zero, suc, List, [], ◌∷◌, ◌++◌, refl, sym, ◌∙◌, ap, subst, arith, Bool, true, false, not, ◌&&◌, ◌||◌, ◌⊎◌, inl, inr, Some, append_assoc, append-nil}
use Rattle.std.specs.Prelude.{◌==◌, nat_lt}
use Rattle.std.proofs.lemmas.Bool.{eqb-true, ltb-true}
use Rattle.comp_model.specs.Model.{Leaf, Leaves, no_leaf, ◌▸◌}
use Rattle.comp_wire.specs.Table.{Field, Piece, byte, leaf, limits, outer}
use Rattle.comp_wire.specs.Spelled.{spell_leaf, spell_leaves, assemble, FitsLeaf, FitsPieces}
use Rattle.comp_wire.proofs.Groups.{and_both}
use Rattle.comp_wire.proofs.Rows.{has, leaf_at}
use Rattle.wire_tree.specs.Model.{leaf_of}
use Rattle.wire_tree.specs.declared.tree.Leaf as l
use Rattle.wire_read.specs.Place.{Place, rest, Takes}
use Rattle.wire_read.specs.Within.{WithinLeaf, WithinLeaves}
use Rattle.wire_read.specs.Stops.{Allows}
use Rattle.wire_read.specs.Nodes.{is_readable}
use Rattle.wire_read.specs.Slots.{slot_leaves, put}
use Rattle.wire_read.specs.Pieces.{PiecesRead, PiecesRefused, is_readable_piece, is_apart, are_readable, counted_by}
use Rattle.wire_read.specs.declared.stop.Stop.{Stop}
use Rattle.wire_read.specs.declared.stop.Stop.TheVariants as stop
use Rattle.wire_read.specs.declared.slots.Slots.{Slots}
use Rattle.wire_read.proofs.Places.{takes_two, takes_none}
use Rattle.wire_read.proofs.PieceLaws.{carried, at_place, piece_ends}
use Rattle.wire_read.proofs.NodeParts.{LeafRefused}

pub no_pieces : (left : ℕ) (s : Slots) (p : Place) → PiecesRead [] left s p p s
no_pieces left s p = record { fits = tt; near = λ h. h; taken = takes_none p; stays = λ j h. refl; count = refl }

or_false : (a b : Bool) → (a || b) ≡ false → (a ≡ false) × (b ≡ false)
or_false true b e = cc
or_false false b e = (refl, e)

not_is : (b : Bool) → not b ≡ true → b ≡ false
not_is true e = cc
not_is false e = refl

false_true : {A : Type 0} (b : Bool) → b ≡ true → b ≡ false → A
false_true b e f = let g : true ≡ false = sym e ∙ f in cc

or_true : (a b : Bool) → (a || b) ≡ true → (a ≡ true) ⊎ (b ≡ true)
or_true true b e = inl refl
or_true false b e = inr e

-- the places of a piece are none of those of others
apart_places : (p : Piece) (ps : List Piece) → is_apart p ps ≡ true → (j : ℕ) → has j (p ∷ []) ≡ true → has j ps ≡ false
apart_places (byte b) ps e j h = cc
apart_places (leaf i f) ps e j h = elim (or_true (j == i) false h) [ inl k ↦ at_is j i ps k (not_is _ e) | inr k ↦ cc ]
  where
    at_is : (j i : ℕ) (ps : List Piece) → (j == i) ≡ true → has i ps ≡ false → has j ps ≡ false
    at_is j i ps k e = subst (λ n. has n ps ≡ false) (sym (eqb-true j i k)) e
apart_places (limits i) ps e j h = go (or_true (j == i) _ h)
  where
    both : (not (has i ps) ≡ true) × (not (has (suc i) ps) ≡ true)
    both = and_both _ _ e

    at_is : (j i : ℕ) → (j == i) ≡ true → has i ps ≡ false → has j ps ≡ false
    at_is j i k e = subst (λ n. has n ps ≡ false) (sym (eqb-true j i k)) e

    go : ((j == i) ≡ true) ⊎ (((j == suc i) || false) ≡ true) → has j ps ≡ false
    go (inl k) = at_is j i k (not_is _ both.0)
    go (inr k) = elim (or_true (j == suc i) false k) [ inl w ↦ at_is j (suc i) w (not_is _ both.1) | inr w ↦ cc ]
apart_places (outer i) ps e j h = go (or_true (j == i) _ h)
  where
    first : (not (has i ps) ≡ true) × ((not (has (suc i) ps) && not (has (suc (suc i)) ps)) ≡ true)
    first = and_both _ _ e

    both : (not (has (suc i) ps) ≡ true) × (not (has (suc (suc i)) ps) ≡ true)
    both = and_both _ _ first.1

    at_is : (j i : ℕ) → (j == i) ≡ true → has i ps ≡ false → has j ps ≡ false
    at_is j i k e = subst (λ n. has n ps ≡ false) (sym (eqb-true j i k)) e

    go : ((j == i) ≡ true) ⊎ (((j == suc i) || ((j == suc (suc i)) || false)) ≡ true) → has j ps ≡ false
    go (inl k) = at_is j i k (not_is _ first.0)
    go (inr k) = elim (or_true (j == suc i) _ k) [
      | inl w ↦ at_is j (suc i) w (not_is _ both.0)
      | inr w ↦ elim (or_true (j == suc (suc i)) false w) [ inl v ↦ at_is j (suc (suc i)) v (not_is _ both.1) | inr v ↦ cc ]
    ]

-- the places of a piece and others
has_cons : (p : Piece) (ps : List Piece) (j : ℕ) → has j (p ∷ ps) ≡ false → (has j (p ∷ []) ≡ false) × (has j ps ≡ false)
has_cons (byte b) ps j e = (refl, e)
has_cons (leaf i f) ps j e = let r = or_false (j == i) (has j ps) e in (ap (λ b. b || false) r.0, r.1)
has_cons (limits i) ps j e =
    let r = or_false (j == i) _ e in
    let s = or_false (j == suc i) (has j ps) r.1 in
    (ap (λ b. b || ((j == suc i) || false)) r.0 ∙ ap (λ b. b || false) s.0, s.1)
has_cons (outer i) ps j e =
    let r = or_false (j == i) _ e in
    let s = or_false (j == suc i) _ r.1 in
    let q = or_false (j == suc (suc i)) (has j ps) s.1 in
    (ap (λ b. b || ((j == suc i) || ((j == suc (suc i)) || false))) r.0 ∙ ap (λ b. b || ((j == suc (suc i)) || false)) s.0 ∙ ap (λ b. b || false) q.0, q.1)

-- the bytes of a piece in front of those of others, and what they fit
assemble_cons : (p : Piece) (ps : List Piece) (gs : List (Field → List ℕ)) → assemble (p ∷ ps) gs ≡ assemble (p ∷ []) gs ++ assemble ps gs
assemble_cons (byte b) ps gs = refl
assemble_cons (leaf i f) ps gs = ap (λ z. z ++ assemble ps gs) (sym (append-nil _))
assemble_cons (limits i) ps gs = ap (λ z. z ++ assemble ps gs) (sym (append-nil _))
assemble_cons (outer i) ps gs = ap (λ z. z ++ assemble ps gs) (sym (append-nil _))

fits_cons : (p : Piece) (ps : List Piece) (gs : List (Field → Type 0)) → FitsPieces (p ∷ ps) gs → FitsPieces (p ∷ []) gs × FitsPieces ps gs
fits_cons (byte b) ps gs h = (tt, h)
fits_cons (leaf i f) ps gs h = ((h.0, tt), h.1)
fits_cons (limits i) ps gs h = ((h.0, h.1, tt), h.2)
fits_cons (outer i) ps gs h = ((h.0, tt), h.1)

fits_both : (p : Piece) (ps : List Piece) (gs : List (Field → Type 0)) → FitsPieces (p ∷ []) gs → FitsPieces ps gs → FitsPieces (p ∷ ps) gs
fits_both (byte b) ps gs h k = k
fits_both (leaf i f) ps gs h k = (h.0, k)
fits_both (limits i) ps gs h k = (h.0, h.1, k)
fits_both (outer i) ps gs h k = (h.0, k)

counted_cons : (p : Piece) (ps : List Piece) (n : ℕ) → counted_by (p ∷ ps) n ≡ counted_by ps (counted_by (p ∷ []) n)
counted_cons (byte b) ps n = refl
counted_cons (leaf i f) ps n = refl
counted_cons (limits i) ps n = refl
counted_cons (outer i) ps n = refl

readable_cons : (p : Piece) (ps : List Piece) → are_readable (p ∷ ps) ≡ true → (is_readable_piece p ≡ true) × (is_apart p ps ≡ true) × (are_readable ps ≡ true)
readable_cons p ps e = let a = and_both _ _ e in let b = and_both _ _ a.1 in (a.0, b.0, b.1)

alone_apart : (p : Piece) → is_apart p [] ≡ true
alone_apart (byte b) = refl
alone_apart (leaf i f) = refl
alone_apart (limits i) = refl
alone_apart (outer i) = refl

pub readable_first : (p : Piece) (ps : List Piece) → are_readable (p ∷ ps) ≡ true → are_readable (p ∷ []) ≡ true
readable_first p ps e = rw ((readable_cons p ps e).0, alone_apart p) refl

pub readable_later : (p : Piece) (ps : List Piece) → are_readable (p ∷ ps) ≡ true → are_readable ps ≡ true
readable_later p ps e = (readable_cons p ps e).2

pub pieces_read : (p : Piece) (ps : List Piece) (left : ℕ) (s q v : Slots) (old mid new : Place) → are_readable (p ∷ ps) ≡ true → PiecesRead (p ∷ []) left s old mid q → PiecesRead ps left q mid new v → PiecesRead (p ∷ ps) left s old new v
pieces_read p ps left s q v old mid new ok a b =
    let apart = (readable_cons p ps ok).1 in
    let kept = carried (p ∷ []) (slot_leaves q) (slot_leaves v) (λ j h. sym (b.stays j (apart_places p ps apart j h))) a.fits in
    let first = subst (λ z. Takes old mid z) kept.1 a.taken in
    record {
      fits = fits_both p ps _ kept.0 b.fits;
      near = λ h. b.near (a.near h);
      taken = subst (λ z. Takes old new z) (sym (assemble_cons p ps (spell_leaves (slot_leaves v)))) (takes_two old mid new _ _ first b.taken);
      stays = λ j h. let r = has_cons p ps j h in b.stays j r.1 ∙ a.stays j r.0;
      count = b.count ∙ ap (counted_by ps) a.count ∙ sym (counted_cons p ps s.count);
    }

split : (p : Piece) (ps : List Piece) (xs : Leaves) (r bytes : List ℕ) → assemble (p ∷ ps) (spell_leaves xs) ++ r ≡ bytes → assemble (p ∷ []) (spell_leaves xs) ++ (assemble ps (spell_leaves xs) ++ r) ≡ bytes
split p ps xs r bytes e = sym (append_assoc (assemble (p ∷ []) (spell_leaves xs)) (assemble ps (spell_leaves xs)) r) ∙ ap (λ z. z ++ r) (sym (assemble_cons p ps (spell_leaves xs))) ∙ e

pub first_refused : (p : Piece) (ps : List Piece) (left : ℕ) (bytes : List ℕ) (e : Stop) → PiecesRefused (p ∷ []) left bytes e → PiecesRefused (p ∷ ps) left bytes e
first_refused p ps left bytes e u xs r h a q = u xs (assemble ps (spell_leaves xs) ++ r) (fits_cons p ps _ h).0 a (split p ps xs r bytes q)

pub later_refused : (p : Piece) (ps : List Piece) (left : ℕ) (s v : Slots) (old mid : Place) (e : Stop) → are_readable (p ∷ ps) ≡ true → PiecesRead (p ∷ []) left s old mid v → PiecesRefused ps left (rest mid) e → PiecesRefused (p ∷ ps) left (rest old) e
later_refused p ps left s v old mid e ok k u xs r h a q =
    let both = fits_cons p ps _ h in
    let ends = piece_ends p xs (slot_leaves v) (assemble ps (spell_leaves xs) ++ r) (rest mid) (readable_cons p ps ok).0 both.0 k.fits (split p ps xs r (rest old) q ∙ k.taken.taken) in
    u xs r both.1 a ends

-- a byte
pub byte_read : (b left : ℕ) (s : Slots) (old new : Place) → Takes old new (b ∷ []) → PiecesRead (byte b ∷ []) left s old new s
byte_read b left s old new k = record { fits = tt; near = λ h. h; taken = k; stays = λ j h. refl; count = refl }

pub byte_refused : (b left : ℕ) (bytes : List ℕ) (e : Stop) → ((ys : List ℕ) → b ∷ ys ≡ bytes → ⊥) → PiecesRefused (byte b ∷ []) left bytes e
byte_refused b left bytes e u xs r h a q = u r q

-- a leaf
leaf_stays : (s : Slots) (i : ℕ) (f : Field) (x : l.Leaf) (j : ℕ) → has j (leaf i f ∷ []) ≡ false → leaf_at j (slot_leaves (put s i x)) ≡ leaf_at j (slot_leaves s)
leaf_stays s zero f x zero e = cc
leaf_stays s zero f x (suc zero) e = refl
leaf_stays s zero f x (suc (suc zero)) e = refl
leaf_stays s zero f x (suc (suc (suc j))) e = refl
leaf_stays s (suc zero) f x zero e = refl
leaf_stays s (suc zero) f x (suc zero) e = cc
leaf_stays s (suc zero) f x (suc (suc zero)) e = refl
leaf_stays s (suc zero) f x (suc (suc (suc j))) e = refl
leaf_stays s (suc (suc zero)) f x zero e = refl
leaf_stays s (suc (suc zero)) f x (suc zero) e = refl
leaf_stays s (suc (suc zero)) f x (suc (suc zero)) e = cc
leaf_stays s (suc (suc zero)) f x (suc (suc (suc j))) e = refl
leaf_stays s (suc (suc (suc i))) f x j e = refl

pub leaf_read : (i : ℕ) (f : Field) (left : ℕ) (s : Slots) (x : l.Leaf) (old new : Place) → nat_lt i 3 ≡ true → FitsLeaf (leaf_of x) f → WithinLeaf (leaf_of x) left → Takes old new (spell_leaf (leaf_of x) f) → PiecesRead (leaf i f ∷ []) left s old new (put s i x)
leaf_read zero f left s x old new k h w q = record { fits = (h, tt); near = λ v. (w, v.1); taken = subst (Takes old new) (sym (append-nil _)) q; stays = leaf_stays s 0 f x; count = refl }
leaf_read (suc zero) f left s x old new k h w q = record { fits = (h, tt); near = λ v. (v.0, (w, v.1.1)); taken = subst (Takes old new) (sym (append-nil _)) q; stays = leaf_stays s 1 f x; count = refl }
leaf_read (suc (suc zero)) f left s x old new k h w q = record { fits = (h, tt); near = λ v. (v.0, (v.1.0, (w, tt))); taken = subst (Takes old new) (sym (append-nil _)) q; stays = leaf_stays s 2 f x; count = refl }
leaf_read (suc (suc (suc i))) f left s x old new k h w q = absurd (omega (arith, ltb-true (suc (suc (suc i))) 3 k))

within_at : (xs : Leaves) (i n : ℕ) (x : Leaf) → leaf_at i xs ≡ Some x → WithinLeaves xs n → WithinLeaf x n
within_at no_leaf i n x e h = cc
within_at (y ▸ ys) zero n x e h = let same : y ≡ x = cc in subst (λ z. WithinLeaf z n) same h.0
within_at (y ▸ ys) (suc i) n x e h = within_at ys i n x e h.1

allowed : (e : Stop) (P Q : Type 0) → (P → Q) → Allows e P → Allows e Q
allowed stop.Memory P Q f a = a
allowed stop.Misread P Q f a = a
allowed (stop.Deep at) P Q f a = f a

pub leaf_refused : (i : ℕ) (f : Field) (left : ℕ) (bytes : List ℕ) (e : Stop) → LeafRefused f left bytes e → PiecesRefused (leaf i f ∷ []) left bytes e
leaf_refused i f left bytes e u xs r h a q =
    let x = at_place xs i f h.0 in
    u x.0 r x.2 (allowed e _ _ (within_at xs i left x.0 x.1) a) (ap (λ z. z ++ r) (sym (x.3 f)) ∙ ap (λ z. z ++ r) (sym (append-nil _)) ∙ q)

pub leaf_readable : (i : ℕ) (f : Field) → are_readable (leaf i f ∷ []) ≡ true → (is_readable f ≡ true) × (nat_lt i 3 ≡ true)
leaf_readable i f e = and_both _ _ (and_both _ _ e).0
