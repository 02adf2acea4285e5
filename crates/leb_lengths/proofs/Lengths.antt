-- How long numbers are, and lengths that stay at the largest number of 64 bits.
use Rattle.std.proofs.Common.{◌≡◌, ℕ, zero, suc, ◌+◌, ◌-◌, ◌/◌, ◌%◌, ◌<◌, ◌≤◌, ◌^◌, [], ◌∷◌, length, inl, inr, refl, ap, sym, ◌∙◌, arith, Bool, true, false, if◌then◌else◌}
use Rattle.std.specs.Prelude.{nat_lt, ℤ, pos, negsuc, min}
use Rattle.std.proofs.lemmas.Bool.{cases_lt, lt-ltb, le-ltb}
use Rattle.comp_model.specs.Leb.{leb_within, leb, plain, turned, uleb, signed_leb, magnitude}
use Rattle.comp_wire.specs.Fits.{is_word}
use Rattle.comp_wire.proofs.Numbers.{leb-small, leb-large}

-- what is left behind so many groups of seven bits
abbrev behind : ℕ → ℕ → ℕ
behind zero n = n
behind (suc k) n = behind k (n / 128)

module _ (limit : ℕ) (least : 64 ≤ limit) (most : limit ≤ 128) where
  pub one-byte : (n : ℕ) → n < limit → length (leb plain limit n) ≡ 1
  one-byte n h = ap length (leb-small plain limit (omega (arith, least)) most n h)

  pub more-bytes : (n : ℕ) → limit ≤ n → length (leb plain limit n) ≡ 1 + length (leb plain limit (n / 128))
  more-bytes n h = let e = ap length (leb-large plain limit (omega (arith, least)) most n h) in omega (arith, e)

  pub some-byte : (n : ℕ) → 1 ≤ length (leb plain limit n)
  some-byte n = elim (cases_lt n limit) [ inl p ↦ omega (arith, one-byte n p) | inr p ↦ omega (arith, more-bytes n p) ]

  few : (k n : ℕ) → behind k n < limit → length (leb plain limit n) ≤ suc k
  few zero n h = omega (arith, one-byte n h)
  few (suc k) n h = elim (cases_lt n limit) [ inl p ↦ omega (arith, one-byte n p) | inr p ↦ omega (arith, more-bytes n p, few k (n / 128) h) ]

  -- a number of 64 bits has at most ten
  pub ten-bytes : (n : ℕ) → n < 2 ^ 64 → length (leb plain limit n) ≤ 10
  ten-bytes n h = few 9 n (omega (arith, least, h))

-- turned bits are as long
turned-within : (limit k n : ℕ) → length (leb_within turned limit k n) ≡ length (leb_within plain limit k n)
turned-within limit zero n = refl
turned-within limit (suc k) n = go (nat_lt n limit) (turned-within limit k (n / 128))
  where
    go : (b : Bool) → length (leb_within turned limit k (n / 128)) ≡ length (leb_within plain limit k (n / 128))
        → length (if b then turned n ∷ [] else (128 + turned (n % 128)) ∷ leb_within turned limit k (n / 128)) ≡ length (if b then plain n ∷ [] else (128 + plain (n % 128)) ∷ leb_within plain limit k (n / 128))
    go true e = refl
    go false e = ap suc e

turned-long : (limit n : ℕ) → length (leb turned limit n) ≡ length (leb plain limit n)
unfolding leb
turned-long limit n = turned-within limit n n

pub signed_long : (n : ℤ) → length (signed_leb n) ≡ length (leb plain 64 (magnitude n))
signed_long (pos n) = refl
signed_long (negsuc n) = turned-long 64 n

-- ---- lengths that are capped

abbrev capped : ℕ → ℕ
capped n = min n (2 ^ 64 - 1)

-- a length is a word exactly where it is one capped
pub word-capped : (n : ℕ) → is_word (capped n) ≡ is_word n
word-capped n = elim (cases_lt n (2 ^ 32)) [
  | inl p ↦ lt-ltb (capped n) (2 ^ 32) (omega (arith, p)) ∙ sym (lt-ltb n (2 ^ 32) p)
  | inr p ↦ le-ltb (capped n) (2 ^ 32) (omega (arith, p)) ∙ sym (le-ltb n (2 ^ 32) p)
]

-- what is framed is capped where its length is
pub framed-capped : (n : ℕ) → capped (length (uleb (capped n)) + capped n) ≡ capped (length (uleb n) + n)
framed-capped n = elim (cases_lt n (2 ^ 64)) [
  | inl p ↦ let e : capped n ≡ n = omega (arith, p) in ap (λ k. capped (length (uleb k) + k)) e
  | inr p ↦ omega (arith, p)
]

-- the length of a part behind some bytes
pub word-behind : (n long size sum : ℕ) → size ≡ capped long → sum ≡ capped (size + n) → is_word sum ≡ is_word (n + long)
word-behind n long size sum h e =
    let whole : sum ≡ capped (n + long) = omega (arith, h, e) in
    ap is_word whole ∙ word-capped (n + long)
