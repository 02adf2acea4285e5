-- The pieces of bytes, by the first byte that parts them.
use Rattle.std.proofs.Common.{◌≡◌, ℕ, zero, suc, ◌+◌, ◌-◌, ◌<◌, ◌≤◌, ◌==◌, Bool, true, false, List, [], ◌∷◌, length, length-drop, take, take_all, drop, get_or, refl, ap, subst, sym, ◌∙◌, arith, if◌then◌else◌, Option, Some, None}
use Rattle.memchr.specs.Find.{Nowhere, Passes, is_byte, IsFirstByte}
use Rattle.plan_lines.specs.Words.{Word, word, split, longer}

-- none
pub whole : (c : ℕ) (bs : List ℕ) (at : ℕ) → Nowhere (Passes (is_byte c) bs) 0 (length bs) → split c at bs ≡ word at bs ∷ []
whole c [] at h = refl
whole c (b ∷ bs) at h = go (b == c) (h 0 (omega arith) (omega arith)) (whole c bs (at + 1) (λ k l m. h (suc k) (omega arith) (omega (arith, m))))
  where
    go : (t : Bool) → (t ≡ true → ⊥) → split c (at + 1) bs ≡ word (at + 1) bs ∷ [] → (if t then word at [] ∷ split c (at + 1) bs else longer at b (split c (at + 1) bs)) ≡ word at (b ∷ bs) ∷ []
    go true n e = absurd (n refl)
    go false n e = ap (longer at b) e

-- one at this place
pub there : (c : ℕ) (bs : List ℕ) (at i n : ℕ) → n ≡ at + suc i → i < length bs → ((k : ℕ) → k < i → Passes (is_byte c) bs k → ⊥) → Passes (is_byte c) bs i
    → split c at bs ≡ word at (take i bs) ∷ split c n (drop (suc i) bs)
there c [] at i n e l before found = absurd (omega (arith, l))
there c (b ∷ bs) at zero n e l before found =
    let same : n ≡ at + 1 = omega (arith, e) in
    subst (λ m. (if b == c then word at [] ∷ split c (at + 1) bs else longer at b (split c (at + 1) bs)) ≡ word at [] ∷ split c m bs) (sym same)
    (ap (λ t. if t then word at [] ∷ split c (at + 1) bs else longer at b (split c (at + 1) bs)) found)
there c (b ∷ bs) at (suc i) n e l before found =
    go (b == c) (before 0 (omega arith)) (there c bs (at + 1) i n (omega (arith, e)) (omega (arith, l)) (λ k m. before (suc k) (omega (arith, m))) found)
  where
    go : (t : Bool) → (t ≡ true → ⊥) → split c (at + 1) bs ≡ word (at + 1) (take i bs) ∷ split c n (drop (suc i) bs)
        → (if t then word at [] ∷ split c (at + 1) bs else longer at b (split c (at + 1) bs)) ≡ word at (b ∷ take i bs) ∷ split c n (drop (suc i) bs)
    go true f q = absurd (f refl)
    go false f q = ap (longer at b) q

pub there_at : (c : ℕ) (bs : List ℕ) (at i n j : ℕ) → n ≡ at + i + 1 → j ≡ i + 1 → i < length bs → ((k : ℕ) → 0 ≤ k → k < i → Passes (is_byte c) bs k → ⊥) → Passes (is_byte c) bs i
    → split c at bs ≡ word at (take i bs) ∷ split c n (drop j bs)
there_at c bs at i n j e f l before found =
    let same : j ≡ suc i = omega (arith, f) in
    subst (λ m. split c at bs ≡ word at (take i bs) ∷ split c n (drop m bs)) (sym same) (there c bs at i n (omega (arith, e)) l (λ k m. before k (omega arith) m) found)

-- as a slice up to the end is written
pub there_behind : (c : ℕ) (bs : List ℕ) (at i n j : ℕ) → n ≡ at + i + 1 → j ≡ i + 1 → i < length bs → ((k : ℕ) → 0 ≤ k → k < i → Passes (is_byte c) bs k → ⊥) → Passes (is_byte c) bs i
    → split c at bs ≡ word at (take i bs) ∷ split c n (take (length bs - j) (drop j bs))
there_behind c bs at i n j e f l before found =
    there_at c bs at i n j e f l before found ∙ ap (λ x. word at (take i bs) ∷ split c n x) (sym (take_all (length bs - j) (drop j bs) (omega (arith, length-drop j bs))))
