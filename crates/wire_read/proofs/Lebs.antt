-- Numbers in LEB128 at the front of bytes, by the first of them.
use Rattle.std.proofs.Common.{◌≡◌, ℕ, ◌+◌, ◌-◌, ◌*◌, ◌/◌, ◌%◌, ◌<◌, ◌≤◌, List, [], ◌∷◌, ◌++◌, sym, ◌∙◌, ap, subst, arith, ◌⊎◌, inl, inr}
use Rattle.std.proofs.lemmas.Bool.{cases_lt}
use Rattle.comp_model.specs.Leb.{leb, plain}
use Rattle.comp_wire.proofs.Numbers.{cons_is, leb-small, leb-large, leb_ends}
use Rattle.wire_read.specs.Place.{Place, rest, Takes}
use Rattle.wire_read.specs.Reading.{Unread, Read, UpTo}
use Rattle.wire_read.proofs.Places.{takes_two}

module _ (limit : ℕ) (least : 64 ≤ limit) (within : limit ≤ 128) where
  small : (n : ℕ) → n < limit → leb plain limit n ≡ n ∷ []
  small n h = leb-small plain limit (omega (arith, least)) within n h

  large : (n : ℕ) → limit ≤ n → leb plain limit n ≡ (128 + n % 128) ∷ leb plain limit (n / 128)
  large n h = leb-large plain limit (omega (arith, least)) within n h

  abbrev Begins : ℕ → ℕ → List ℕ → List ℕ → Type 0
  Begins n b r s = ((n < limit) × (n ≡ b) × (r ≡ s)) ⊎ ((limit ≤ n) × (128 + n % 128 ≡ b) × (leb plain limit (n / 128) ++ r ≡ s))

  begins : (n b : ℕ) (r s : List ℕ) → leb plain limit n ++ r ≡ b ∷ s → Begins n b r s
  begins n b r s e = elim (cases_lt n limit) [
    | inl h ↦ let heads = cons_is _ _ _ _ (rw (small n h) at e) in inl (h, heads.0, heads.1)
    | inr h ↦ let heads = cons_is _ _ _ _ (rw (large n h) at e) in inr (h, heads.0, heads.1)
  ]

  pub at_end : (most : ℕ) (bytes : List ℕ) → bytes ≡ [] → Unread (UpTo most) (leb plain limit) bytes
  at_end most bytes e n r h f = elim (cases_lt n limit) [
    | inl l ↦ let g : n ∷ r ≡ [] = rw (small n l, e) at f in cc
    | inr l ↦ let g : (128 + n % 128) ∷ (leb plain limit (n / 128) ++ r) ≡ [] = rw (large n l, e) at f in cc
  ]

  pub last_byte : (most b : ℕ) (old new : Place) → b < limit → b ≤ most → Takes old new (b ∷ []) → Read (UpTo most) (leb plain limit) old new b
  last_byte most b old new h l t = (l, subst (λ xs. Takes old new xs) (sym (small b h)) t)

  pub too_large : (most b : ℕ) (old new : Place) → b < limit → most < b → Takes old new (b ∷ []) → Unread (UpTo most) (leb plain limit) (rest old)
  too_large most b old new h l t n r k e = elim (begins n b r (rest new) (e ∙ t.taken)) [
    | inl p ↦ omega (arith, p.1, k, l)
    | inr p ↦ omega (arith, p.1, h, within)
  ]

  pub no_more : (most b : ℕ) (old new : Place) → limit ≤ b → (b < 128) ⊎ (most < limit) → Takes old new (b ∷ []) → Unread (UpTo most) (leb plain limit) (rest old)
  no_more most b old new h l t n r k e = elim (begins n b r (rest new) (e ∙ t.taken)) [
    | inl p ↦ omega (arith, p.0, p.1, h)
    | inr p ↦ elim l [ inl q ↦ omega (arith, p.1, q) | inr q ↦ omega (arith, p.0, k, q) ]
  ]

  pub none_behind : (most b : ℕ) (old new : Place) → limit ≤ b → Takes old new (b ∷ []) → Unread (UpTo (most / 128)) (leb plain limit) (rest new) → Unread (UpTo most) (leb plain limit) (rest old)
  none_behind most b old new h t u n r k e = elim (begins n b r (rest new) (e ∙ t.taken)) [
    | inl p ↦ omega (arith, p.0, p.1, h)
    | inr p ↦ u (n / 128) r (omega (arith, k)) p.2
  ]

  -- the number of a byte and of those behind it
  same_number : (n b high : ℕ) → 128 + n % 128 ≡ b → n / 128 ≡ high → n ≡ b - 128 + 128 * high
  same_number n b high e f = omega (arith, e, f)

  pub not_shortest : (most b high : ℕ) (old mid new : Place) → limit ≤ b → Takes old mid (b ∷ []) → Read (UpTo (most / 128)) (leb plain limit) mid new high
      → ((b - 128 + 128 * high) < limit) ⊎ (most < (b - 128 + 128 * high)) → Unread (UpTo most) (leb plain limit) (rest old)
  not_shortest most b high old mid new h t q l n r k e = elim (begins n b r (rest mid) (e ∙ t.taken)) [
    | inl p ↦ omega (arith, p.0, p.1, h)
    | inr p ↦
        let same = leb_ends limit (omega (arith, least)) within (n / 128) high r (rest new) (p.2 ∙ q.1.taken) in
        let value = same_number n b high p.1 same.0 in
        elim l [ inl w ↦ omega (arith, value, w, p.0) | inr w ↦ omega (arith, value, w, k) ]
  ]

  parts : (b high : ℕ) → 128 ≤ b → b < 256 → (128 + (b - 128 + 128 * high) % 128 ≡ b) × ((b - 128 + 128 * high) / 128 ≡ high)
  parts b high h l = (omega (arith, h, l), omega (arith, h, l))

  pub number_behind : (most b high : ℕ) (old mid new : Place) → 128 ≤ b → b < 256 → Takes old mid (b ∷ []) → Read (UpTo (most / 128)) (leb plain limit) mid new high
      → limit ≤ (b - 128 + 128 * high) → (b - 128 + 128 * high) ≤ most → Read (UpTo most) (leb plain limit) old new (b - 128 + 128 * high)
  number_behind most b high old mid new h l t q big small =
      let p = parts b high h l in
      let bytes : leb plain limit (b - 128 + 128 * high) ≡ b ∷ leb plain limit high = large _ big ∙ ap (λ x. x ∷ leb plain limit ((b - 128 + 128 * high) / 128)) p.0 ∙ ap (λ x. b ∷ leb plain limit x) p.1 in
      (small, subst (λ xs. Takes old new xs) (sym bytes) (takes_two old mid new (b ∷ []) (leb plain limit high) t q.1))
