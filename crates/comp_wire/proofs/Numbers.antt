-- LEB128 in steps; it ends itself; the loops that write it.
use Rattle.std.proofs.Common.{◌≡◌, ℕ, zero, suc, ◌+◌, ◌/◌, ◌%◌, ◌<◌, ◌≤◌, ◌^◌, List, [], ◌∷◌, ◌++◌, take, length, length-take, append_assoc, refl, ap, arith, cond, Bool, true, false, inl, inr, ◌⊎◌, le_refl, lit<, lit≤}
use Rattle.std.proofs.lemmas.List.{take-append-le}
use Rattle.std.proofs.lemmas.Bool.{lt-ltb, le-ltb, ltb-false, cases_lt}
use Rattle.comp_model.specs.Leb.{leb_within, leb, plain, uleb, sleb}

pub same_else : {A : Type 0} (b : Bool) (z x y : A) → (b ≡ false → x ≡ y) → cond b z x ≡ cond b z y
same_else true z x y h = refl
same_else false z x y h = h refl

pub cons_is : {A : Type 0} (x y : A) (xs ys : List A) → x ∷ xs ≡ y ∷ ys → (x ≡ y) × (xs ≡ ys)
cons_is x y xs ys e = let i : x ≡ y = cc in let j : xs ≡ ys = cc in (i, j)

module _ (digit : ℕ → ℕ) (limit : ℕ) (some : 0 < limit) (within : limit ≤ 128) where
  enough : (k l n : ℕ) → n ≤ k → n ≤ l → leb_within digit limit k n ≡ leb_within digit limit l n
  enough zero zero n h i = refl
  enough zero (suc l) n h i = let e : n ≡ 0 = omega arith in rw (e, lt-ltb 0 limit some)
  enough (suc k) zero n h i = let e : n ≡ 0 = omega arith in rw (e, lt-ltb 0 limit some)
  enough (suc k) (suc l) n h i =
      same_else _ _ _ _ (λ e. let big = ltb-false n limit e in ap (λ t. (128 + digit (n % 128)) ∷ t) (enough k l (n / 128) (omega arith) (omega arith)))

  pub leb-small : (n : ℕ) → n < limit → leb digit limit n ≡ digit n ∷ []
  unfolding leb
  leb-small zero h = refl
  leb-small (suc k) h = rw (lt-ltb (suc k) limit h)

  pub leb-large : (n : ℕ) → limit ≤ n → leb digit limit n ≡ (128 + digit (n % 128)) ∷ leb digit limit (n / 128)
  unfolding leb
  leb-large zero h = absurd (omega arith)
  leb-large (suc k) h = rw (le-ltb (suc k) limit h) (ap (λ t. (128 + digit (suc k % 128)) ∷ t) (enough k (suc k / 128) (suc k / 128) (omega arith) (le_refl _)))

  -- a turn of the loop, and its end
  pub one_byte_more : (old out new : List ℕ) (rest value : ℕ) → limit ≤ rest → out ++ leb digit limit rest ≡ old ++ leb digit limit value → new ≡ out ++ (128 + digit (rest % 128)) ∷ [] → new ++ leb digit limit (rest / 128) ≡ old ++ leb digit limit value
  one_byte_more old out new rest value big so e = rw (e, append_assoc, ← leb-large rest big) so

  pub last_byte : (old out new : List ℕ) (rest value : ℕ) → rest < limit → out ++ leb digit limit rest ≡ old ++ leb digit limit value → new ≡ out ++ digit rest ∷ [] → new ≡ old ++ leb digit limit value
  last_byte old out new rest value small so e = rw (e, ← leb-small rest small) so

module _ (limit : ℕ) (some : 0 < limit) (within : limit ≤ 128) where
  plain-small : (n : ℕ) → n < limit → leb plain limit n ≡ n ∷ []
  plain-small = leb-small plain limit some within

  plain-large : (n : ℕ) → limit ≤ n → leb plain limit n ≡ (128 + n % 128) ∷ leb plain limit (n / 128)
  plain-large = leb-large plain limit some within

  Ends : ℕ → Type 0
  Ends m = (n : ℕ) (a b : List ℕ) → leb plain limit m ++ a ≡ leb plain limit n ++ b → (m ≡ n) × (a ≡ b)

  step : (m : ℕ) → ((l : ℕ) → l < m → Ends l) → Ends m
  unfolding Ends
  step m ih n a b e =
      elim (cases_lt m limit) [
        | inl p ↦ elim (cases_lt n limit) [
          | inl q ↦ cons_is _ _ _ _ (rw (plain-small m p, plain-small n q) at e)
          | inr q ↦ let heads = cons_is _ _ _ _ (rw (plain-small m p, plain-large n q) at e) in absurd (omega (arith, heads.0))
        ]
        | inr p ↦ elim (cases_lt n limit) [
          | inl q ↦ let heads = cons_is _ _ _ _ (rw (plain-large m p, plain-small n q) at e) in absurd (omega (arith, heads.0))
          | inr q ↦
              let heads = cons_is _ _ _ _ (rw (plain-large m p, plain-large n q) at e) in
              let rest = ih (m / 128) (omega arith) (n / 128) a b heads.1 in
              (omega (arith, heads.0, rest.0), rest.1)
        ]
      ]

  within_turns : (k m : ℕ) → m ≤ k → Ends m
  within_turns zero m h = step m (λ l lt. absurd (omega arith))
  within_turns (suc k) m h = step m (λ l lt. within_turns k l (omega arith))

  pub leb_ends : (m n : ℕ) (a b : List ℕ) → leb plain limit m ++ a ≡ leb plain limit n ++ b → (m ≡ n) × (a ≡ b)
  unfolding Ends
  leb_ends m = within_turns m m (le_refl _)

  -- the first byte is below the limit, or has its top bit
  pub leb_begins : (m b : ℕ) (a bs : List ℕ) → leb plain limit m ++ a ≡ b ∷ bs → (b < limit) ⊎ (128 ≤ b)
  leb_begins m b a bs e =
      elim (cases_lt m limit) [
        | inl p ↦ let heads = cons_is _ _ _ _ (rw (plain-small m p) at e) in inl (omega (arith, heads.0))
        | inr p ↦ let heads = cons_is _ _ _ _ (rw (plain-large m p) at e) in inr (omega (arith, heads.0))
      ]

pub uleb-small : (n : ℕ) → n < 128 → uleb n ≡ n ∷ []
uleb-small = plain-small 128 (lit< tt) (lit≤ tt)

pub uleb-large : (n : ℕ) → 128 ≤ n → uleb n ≡ (128 + n % 128) ∷ uleb (n / 128)
uleb-large = plain-large 128 (lit< tt) (lit≤ tt)

pub uleb_ends : (m n : ℕ) (a b : List ℕ) → uleb m ++ a ≡ uleb n ++ b → (m ≡ n) × (a ≡ b)
uleb_ends = leb_ends 128 (lit< tt) (lit≤ tt)

pub sleb_ends : (m n : ℕ) (a b : List ℕ) → sleb m ++ a ≡ sleb n ++ b → (m ≡ n) × (a ≡ b)
sleb_ends = leb_ends 64 (lit< tt) (lit≤ tt)

pub sleb_begins : (m b : ℕ) (a bs : List ℕ) → sleb m ++ a ≡ b ∷ bs → (b < 64) ⊎ (128 ≤ b)
sleb_begins = leb_begins 64 (lit< tt) (lit≤ tt)

-- what stood before stands
pub front_stays : (old out new more : List ℕ) → take (length old) out ≡ old → new ≡ out ++ more → take (length old) new ≡ old
front_stays old out new more kept e =
    let fits : length old ≤ length out = omega (arith, length-take (length old) out, ap length kept) in
    rw (e, take-append-le) kept

-- how long the bytes of a number are
pub length_one : (n : ℕ) → n < 128 → length (uleb n) ≡ 1
length_one n h = rw (uleb-small n h) refl

pub length_more : (n l : ℕ) → 128 ≤ n → length (uleb (n / 128)) ≡ l → length (uleb n) ≡ suc l
length_more n l h e = rw (uleb-large n h) (ap suc e)

pub some_bytes : (n : ℕ) → 1 ≤ length (uleb n)
some_bytes n = elim (cases_lt n 128) [ inl h ↦ omega (arith, length_one n h) | inr h ↦ omega (arith, length_more n (length (uleb (n / 128))) h refl) ]

-- at most five bytes below 2 ^ 32
grows : (limit n l : ℕ) → length (leb plain limit (n / 128)) ≤ l → 0 < limit → limit ≤ 128 → length (leb plain limit n) ≤ suc l
grows limit n l h some within = elim (cases_lt n limit) [
  | inl p ↦ let e = ap length (plain-small limit some within n p) in omega (arith, e)
  | inr p ↦ let e = ap length (plain-large limit some within n p) in omega (arith, e, h)
]

five_bytes : (limit : ℕ) → 0 < limit → limit ≤ 128 → (n : ℕ) → n / 128 / 128 / 128 / 128 < limit → length (leb plain limit n) ≤ 5
five_bytes limit some within n h =
    let last : length (leb plain limit (n / 128 / 128 / 128 / 128)) ≤ 1 = let e = ap length (plain-small limit some within (n / 128 / 128 / 128 / 128) h) in omega (arith, e) in
    grows limit n 4 (grows limit (n / 128) 3 (grows limit (n / 128 / 128) 2 (grows limit (n / 128 / 128 / 128) 1 last some within) some within) some within) some within

pub uleb_short : (n : ℕ) → n < 2 ^ 32 → length (uleb n) ≤ 5
uleb_short n h = five_bytes 128 (lit< tt) (lit≤ tt) n (omega arith)

pub sleb_short : (n : ℕ) → n < 2 ^ 32 → length (sleb n) ≤ 5
sleb_short n h = five_bytes 64 (lit< tt) (lit≤ tt) n (omega arith)
