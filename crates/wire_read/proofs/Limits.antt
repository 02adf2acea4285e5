-- Limits, and references outward: pieces of several leaves.
use Rattle.std.proofs.Common.{◌≡◌, ℕ, zero, suc, ◌+◌, List, [], ◌∷◌, ◌++◌, refl, sym, ◌∙◌, ap, subst, arith, true, false, ◌&&◌, ◌⊎◌, inl, inr, append_assoc, append-nil}
use Rattle.std.specs.Prelude.{nat_lt}
use Rattle.comp_model.specs.declared.Space.{Space}
use Rattle.comp_model.specs.Core as c
use Rattle.comp_model.specs.Leb.{uleb}
use Rattle.comp_model.specs.Payloads.{sort_bytes}
use Rattle.comp_model.specs.Model as m
use Rattle.comp_model.specs.Model.{Leaf, Leaves}
use Rattle.comp_wire.specs.Table as t
use Rattle.comp_wire.specs.Table.{limits, outer}
use Rattle.comp_wire.specs.Sections.{Word}
use Rattle.comp_wire.specs.Spelled.{spell_leaf, spell_leaves, spelled_at, assemble, fits_leaves, FitsLeaf, FitsPieces}
use Rattle.std.proofs.lemmas.Bool.{ltb-true}
use Rattle.comp_wire.proofs.Groups.{and_both}
use Rattle.comp_wire.proofs.Numbers.{cons_is, uleb_ends}
use Rattle.comp_wire.proofs.Fields.{sort_ends}
use Rattle.comp_wire.proofs.Rows.{has, leaf_at}
use Rattle.wire_tree.specs.Model.{leaf_of}
use Rattle.wire_tree.specs.declared.tree.Leaf as l
use Rattle.wire_read.specs.Place.{Place, rest, Takes}
use Rattle.wire_read.specs.Reading.{Unread, Read}
use Rattle.wire_read.specs.Within.{WithinLeaf}
use Rattle.wire_read.specs.Slots.{slot_leaves, put}
use Rattle.wire_read.specs.Pieces.{PiecesRead, PiecesRefused}
use Rattle.wire_read.specs.declared.stop.Stop.TheVariants as stop
use Rattle.wire_read.specs.declared.slots.Slots.{Slots}
use Rattle.wire_read.proofs.Places.{takes_two}
use Rattle.wire_read.proofs.PieceLaws.{at_place}

number_there : (x : Leaf) → FitsLeaf x t.unsigned → (n : ℕ) × Word n × (spell_leaf x t.unsigned ≡ uleb n)
number_there (m.number n) p = (n, p, refl)
number_there x p = absurd p

-- the bytes of a maximum, with the flag in front of the minimum
abbrev Maximum : Leaf → Type 0
Maximum x = (spell_leaf x t.presence ≡ 0x00 ∷ []) × (spell_leaf x t.maximum ≡ []) ⊎ ((n : ℕ) × Word n × (spell_leaf x t.presence ≡ 0x01 ∷ []) × (spell_leaf x t.maximum ≡ uleb n))

maximum_there : (x : Leaf) → FitsLeaf x t.maximum → Maximum x
maximum_there m.absent p = inl (refl, refl)
maximum_there (m.present (m.number n)) p = inr (n, p, refl, refl)
maximum_there (m.present x) p = absurd p
maximum_there x p = absurd p

abbrev LimitsSeen : List ℕ → List ℕ → Type 0
LimitsSeen bytes r = (k : ℕ) × Word k × ((0x00 ∷ (uleb k ++ r) ≡ bytes) ⊎ ((n : ℕ) × Word n × (0x01 ∷ (uleb k ++ (uleb n ++ r)) ≡ bytes)))

in_parts : (p n x r bytes : List ℕ) → ((p ++ (n ++ x)) ++ []) ++ r ≡ bytes → p ++ (n ++ (x ++ r)) ≡ bytes
in_parts p n x r bytes e =
    ap (λ z. p ++ z) (sym (append_assoc n x r)) ∙ sym (append_assoc p (n ++ x) r) ∙ ap (λ z. z ++ r) (sym (append-nil (p ++ (n ++ x)))) ∙ e

short_limits : (p n x r bytes : List ℕ) (k : ℕ) → p ≡ 0x00 ∷ [] → n ≡ uleb k → x ≡ [] → p ++ (n ++ (x ++ r)) ≡ bytes → 0x00 ∷ (uleb k ++ r) ≡ bytes
short_limits p n x r bytes k a b d e = rw (a, b, d) at e

long_limits : (p n x r bytes : List ℕ) (k i : ℕ) → p ≡ 0x01 ∷ [] → n ≡ uleb k → x ≡ uleb i → p ++ (n ++ (x ++ r)) ≡ bytes → 0x01 ∷ (uleb k ++ (uleb i ++ r)) ≡ bytes
long_limits p n x r bytes k i a b d e = rw (a, b, d) at e

limits_seen : (xs : Leaves) (i : ℕ) (r bytes : List ℕ) → FitsPieces (limits i ∷ []) (fits_leaves xs) → assemble (limits i ∷ []) (spell_leaves xs) ++ r ≡ bytes → LimitsSeen bytes r
limits_seen xs i r bytes p e =
    let x = at_place xs i t.unsigned p.0 in
    let y = at_place xs (suc i) t.maximum p.1 in
    let n = number_there x.0 x.2 in
    let least = x.3 t.unsigned ∙ n.2 in
    let f = in_parts (spelled_at (suc i) t.presence (spell_leaves xs)) (spelled_at i t.unsigned (spell_leaves xs)) (spelled_at (suc i) t.maximum (spell_leaves xs)) r bytes e in
    elim (maximum_there y.0 y.2) [
      | inl h ↦ (n.0, n.1, inl (short_limits _ _ _ r bytes n.0 (y.3 t.presence ∙ h.0) least (y.3 t.maximum ∙ h.1) f))
      | inr h ↦ (n.0, n.1, inr (h.0, h.1, long_limits _ _ _ r bytes n.0 h.0 (y.3 t.presence ∙ h.2) least (y.3 t.maximum ∙ h.3) f))
    ]

-- a second number is missing
pub no_maximum : (left i flag n : ℕ) (old mid mid2 : Place) → Takes old mid (flag ∷ []) → (flag ≡ 0x00 → ⊥) → Read Word uleb mid mid2 n → Unread (λ (x : Leaf). FitsLeaf x t.unsigned) (λ x. spell_leaf x t.unsigned) (rest mid2) → PiecesRefused (limits i ∷ []) left (rest old) stop.Misread
no_maximum left i flag n old mid mid2 k z q u xs r p a e =
    let s = limits_seen xs i r (rest old) p e in
    elim s.2 [
      | inl h ↦ z (sym (cons_is _ _ _ _ (h ∙ k.taken)).0)
      | inr h ↦
          let heads = cons_is _ _ _ _ (h.2 ∙ k.taken) in
          let same = uleb_ends s.0 n (uleb h.0 ++ r) (rest mid2) (heads.1 ∙ q.1.taken) in
          u (m.number h.0) r h.1 same.1
    ]

stays_at_0 : (s : Slots) (n : ℕ) (x : l.Leaf) (j : ℕ) → has j (limits 0 ∷ []) ≡ false → leaf_at j (slot_leaves (put (put s 0 (l.Number n)) 1 x)) ≡ leaf_at j (slot_leaves s)
stays_at_0 s n x zero e = cc
stays_at_0 s n x (suc zero) e = cc
stays_at_0 s n x (suc (suc zero)) e = refl
stays_at_0 s n x (suc (suc (suc j))) e = refl

stays_at_1 : (s : Slots) (n : ℕ) (x : l.Leaf) (j : ℕ) → has j (limits 1 ∷ []) ≡ false → leaf_at j (slot_leaves (put (put s 1 (l.Number n)) 2 x)) ≡ leaf_at j (slot_leaves s)
stays_at_1 s n x zero e = refl
stays_at_1 s n x (suc zero) e = cc
stays_at_1 s n x (suc (suc zero)) e = cc
stays_at_1 s n x (suc (suc (suc j))) e = refl

pub limits_read : (left i n : ℕ) (x : l.Leaf) (s : Slots) (old new : Place) → (nat_lt i 2 && true) ≡ true → FitsLeaf (leaf_of x) t.maximum → WithinLeaf (leaf_of x) left → Word n
    → Takes old new (spell_leaf (leaf_of x) t.presence ++ (uleb n ++ spell_leaf (leaf_of x) t.maximum)) → PiecesRead (limits i ∷ []) left s old new (put (put s i (l.Number n)) (i + 1) x)
limits_read left zero n x s old new k h w r q = record {
  fits = (r, h, tt);
  near = λ v. (tt, (w, v.1.1));
  taken = subst (Takes old new) (sym (append-nil _)) q;
  stays = stays_at_0 s n x;
  count = refl;
}
limits_read left (suc zero) n x s old new k h w r q = record {
  fits = (r, h, tt);
  near = λ v. (v.0, (tt, (w, tt)));
  taken = subst (Takes old new) (sym (append-nil _)) q;
  stays = stays_at_1 s n x;
  count = refl;
}
limits_read left (suc (suc i)) n x s old new k h w r q = absurd (omega (arith, ltb-true (suc (suc i)) 2 (and_both (nat_lt (suc (suc i)) 2) true k).0))

-- references outward
outward_there : (x : Leaf) → FitsLeaf x t.outward → (n : ℕ) × Word n × (spell_leaf x t.outward ≡ uleb n)
outward_there (m.place (c.counted o n)) p = (n, p.1, refl)
outward_there (m.place (c.named o y)) p = absurd p
outward_there x p = absurd p

index_there : (u : Space) (x : Leaf) → FitsLeaf x (t.index_in u) → (n : ℕ) × Word n × (spell_leaf x t.any_index ≡ uleb n)
index_there u (m.ref s (m.index n)) p = (n, p.1, refl)
index_there u (m.ref s y) p = absurd p
index_there u x p = absurd p

kind_there : (u : Space) (x : Leaf) → FitsLeaf x (t.kind_is u) → spell_leaf x t.sort ≡ sort_bytes u
kind_there u (m.kind s) p = ap sort_bytes p
kind_there u x p = absurd p

outer_in_parts : (p n x r bytes : List ℕ) → ((p ++ 0x02 ∷ (n ++ x)) ++ []) ++ r ≡ bytes → p ++ 0x02 ∷ (n ++ (x ++ r)) ≡ bytes
outer_in_parts p n x r bytes e =
    ap (λ z. p ++ 0x02 ∷ z) (sym (append_assoc n x r)) ∙ sym (append_assoc p (0x02 ∷ (n ++ x)) r) ∙ ap (λ z. z ++ r) (sym (append-nil (p ++ 0x02 ∷ (n ++ x)))) ∙ e

outer_by : (p n x r bytes : List ℕ) (u : Space) (k i : ℕ) → p ≡ sort_bytes u → n ≡ uleb k → x ≡ uleb i → p ++ 0x02 ∷ (n ++ (x ++ r)) ≡ bytes → sort_bytes u ++ 0x02 ∷ (uleb k ++ (uleb i ++ r)) ≡ bytes
outer_by p n x r bytes u k i a b d e = rw (a, b, d) at e

abbrev OuterSeen : List ℕ → List ℕ → Type 0
OuterSeen bytes r = (u : Space) × (k : ℕ) × (i : ℕ) × Word k × Word i × (sort_bytes u ++ 0x02 ∷ (uleb k ++ (uleb i ++ r)) ≡ bytes)

outer_seen : (xs : Leaves) (at : ℕ) (r bytes : List ℕ) → FitsPieces (outer at ∷ []) (fits_leaves xs) → assemble (outer at ∷ []) (spell_leaves xs) ++ r ≡ bytes → OuterSeen bytes r
outer_seen xs at r bytes p e =
    let u = p.0.0 in
    let x = at_place xs at t.outward p.0.1 in
    let y = at_place xs (suc at) (t.index_in u) p.0.2 in
    let z = at_place xs (suc (suc at)) (t.kind_is u) p.0.3 in
    let n = outward_there x.0 x.2 in
    let i = index_there u y.0 y.2 in
    (u, n.0, i.0, n.1, i.1, outer_by _ _ _ r bytes u n.0 i.0 (z.3 t.sort ∙ kind_there u z.0 z.2) (x.3 t.outward ∙ n.2) (y.3 t.any_index ∙ i.2) (outer_in_parts _ _ _ r bytes e))

pub no_outer_byte : (left at : ℕ) (s : Space) (old mid : Place) → Takes old mid (sort_bytes s) → ((ys : List ℕ) → 0x02 ∷ ys ≡ rest mid → ⊥) → PiecesRefused (outer at ∷ []) left (rest old) stop.Misread
no_outer_byte left at s old mid q n xs r p a e =
    let o = outer_seen xs at r (rest old) p e in
    n _ (sort_ends o.0 s _ _ (o.5 ∙ q.taken)).1

pub no_outer_count : (left at : ℕ) (s : Space) (old mid mid2 : Place) → Takes old mid (sort_bytes s) → Takes mid mid2 (0x02 ∷ []) → Unread Word uleb (rest mid2) → PiecesRefused (outer at ∷ []) left (rest old) stop.Misread
no_outer_count left at s old mid mid2 q w u xs r p a e =
    let o = outer_seen xs at r (rest old) p e in
    let behind = (sort_ends o.0 s _ _ (o.5 ∙ q.taken)).1 in
    u o.1 (uleb o.2 ++ r) o.3 (cons_is _ _ _ _ (behind ∙ w.taken)).1

pub no_outer_index : (left at n : ℕ) (s : Space) (old mid mid2 mid3 : Place) → Takes old mid (sort_bytes s) → Takes mid mid2 (0x02 ∷ []) → Read Word uleb mid2 mid3 n → Unread Word uleb (rest mid3) → PiecesRefused (outer at ∷ []) left (rest old) stop.Misread
no_outer_index left at n s old mid mid2 mid3 q w v u xs r p a e =
    let o = outer_seen xs at r (rest old) p e in
    let behind = (sort_ends o.0 s _ _ (o.5 ∙ q.taken)).1 in
    let numbers = (cons_is _ _ _ _ (behind ∙ w.taken)).1 in
    u o.2 r o.4 (uleb_ends o.1 n _ _ (numbers ∙ v.1.taken)).1

outer_stays : (s : Slots) (x y z : l.Leaf) (j : ℕ) → has j (outer 0 ∷ []) ≡ false → leaf_at j (slot_leaves (put (put (put s 0 x) 1 y) 2 z)) ≡ leaf_at j (slot_leaves s)
outer_stays s x y z zero e = cc
outer_stays s x y z (suc zero) e = cc
outer_stays s x y z (suc (suc zero)) e = cc
outer_stays s x y z (suc (suc (suc j))) e = refl

pub outer_read : (left at n k : ℕ) (u : Space) (s : Slots) (old mid mid2 mid3 new : Place) → (nat_lt at 1 && true) ≡ true → Takes old mid (sort_bytes u) → Takes mid mid2 (0x02 ∷ []) → Read Word uleb mid2 mid3 n → Read Word uleb mid3 new k
    → PiecesRead (outer at ∷ []) left s old new (put (put (put s 0 (l.Outward n)) 1 (l.Index u k)) 2 (l.Kind u))
outer_read left zero n k u s old mid mid2 mid3 new h a b q v =
    let both = takes_two mid2 mid3 new (uleb n) (uleb k) q.1 v.1 in
    let three = takes_two mid mid2 new (0x02 ∷ []) (uleb n ++ uleb k) b both in
    let all = takes_two old mid new (sort_bytes u) (0x02 ∷ (uleb n ++ uleb k)) a three in
    record {
      fits = ((u, (refl, q.0), (refl, v.0), refl), tt);
      near = λ w. (tt, (tt, (tt, tt)));
      taken = subst (Takes old new) (sym (append-nil _)) all;
      stays = outer_stays s (l.Outward n) (l.Index u k) (l.Kind u);
      count = refl;
    }
outer_read left (suc at) n k u s old mid mid2 mid3 new h a b q v = absurd (omega (arith, ltb-true (suc at) 1 (and_both (nat_lt (suc at) 1) true h).0))

-- the flag, and the numbers behind it
pub no_flag : (old mid new : Place) (flag n : ℕ) → Takes old mid (flag ∷ []) → flag ≡ 0x00 → Takes mid new (uleb n) → Takes old new (0x00 ∷ (uleb n ++ []))
no_flag old mid new flag n a e b = subst (λ z. Takes old new (0x00 ∷ z)) (sym (append-nil (uleb n))) (takes_two old mid new (0x00 ∷ []) (uleb n) (subst (λ z. Takes old mid (z ∷ [])) e a) b)

pub with_flag : (old mid mid2 new : Place) (flag n : ℕ) (most : List ℕ) → Takes old mid (flag ∷ []) → flag ≡ 0x01 → Takes mid mid2 (uleb n) → Takes mid2 new most → Takes old new (0x01 ∷ (uleb n ++ most))
with_flag old mid mid2 new flag n most a e b d = takes_two old mid new (0x01 ∷ []) (uleb n ++ most) (subst (λ z. Takes old mid (z ∷ [])) e a) (takes_two mid mid2 new (uleb n) most b d)

pub limits_read_most : (left i n : ℕ) (most : Leaf) (x : l.Leaf) (s : Slots) (old new : Place) → (nat_lt i 2 && true) ≡ true → leaf_of x ≡ m.present most → FitsLeaf most t.unsigned → Word n → Takes old new (0x01 ∷ (uleb n ++ spell_leaf most t.unsigned))
    → PiecesRead (limits i ∷ []) left s old new (put (put s i (l.Number n)) (i + 1) x)
limits_read_most left i n (m.number k) x s old new h e w r q =
    limits_read left i n x s old new h (subst (λ y. FitsLeaf y t.maximum) (sym e) w) (subst (λ y. WithinLeaf y left) (sym e) tt) r
    (subst (λ y. Takes old new (spell_leaf y t.presence ++ (uleb n ++ spell_leaf y t.maximum))) (sym e) q)
limits_read_most left i n most x s old new h e w r q = absurd w
