-- Steps from place to place, each further on.
use Rattle.std.proofs.Common.{◌≡◌, ℕ, zero, suc, ◌+◌, ◌<◌, ◌≤◌, ◌⊎◌, sym, refl, ◌∙◌, subst, ⊎_elim, arith}
use Rattle.wast_tokens.specs.Along.{Along}
use Rattle.wast_tokens.specs.Along.Along.{done, more}

-- no step goes on from the place
abbrev pub IsLast : (ℕ → ℕ → Type 0) → ℕ → Type 0
IsLast S b = (c : ℕ) → S b c → ⊥

-- each step goes further on, and not past a limit
abbrev pub GoesOn : (ℕ → ℕ → Type 0) → ℕ → Type 0
GoesOn S limit = (a b : ℕ) → S a b → (a < b) × (b ≤ limit)

-- from a place at most one step goes on
abbrev pub IsOnly : (ℕ → ℕ → Type 0) → Type 0
IsOnly S = (a b c : ℕ) → S a b → S a c → b ≡ c

pub along_same : (S : ℕ → ℕ → Type 0) → IsOnly S → (a b c : ℕ) → Along S a b → Along S a c → IsLast S b → IsLast S c → b ≡ c
along_same S only a b c (done _ _ e) (done _ _ f) lb lc = sym e ∙ f
along_same S only a b c (done _ _ e) (more _ m _ s r) lb lc = absurd (lb m (subst (λ n. S n m) e s))
along_same S only a b c (more _ m _ s r) (done _ _ f) lb lc = absurd (lc m (subst (λ n. S n m) f s))
along_same S only a b c (more _ m _ s r) (more _ n _ t q) lb lc =
    along_same S only m b c r (subst (λ k. Along S k c) (sym (only a m n s t)) q) lb lc

pub along_more : (S : ℕ → ℕ → Type 0) (a b c : ℕ) → Along S a b → S b c → Along S a c
along_more S a b c (done _ _ e) s = more a c c (subst (λ n. S n c) (sym e) s) (done c c refl)
along_more S a b c (more _ m _ t r) s = more a m c t (along_more S m b c r s)

pub along_append : (S : ℕ → ℕ → Type 0) (a b c : ℕ) → Along S a b → Along S b c → Along S a c
along_append S a b c (done _ _ e) q = subst (λ n. Along S n c) (sym e) q
along_append S a b c (more _ m _ t r) q = more a m c t (along_append S m b c r q)

pub along_le : (S : ℕ → ℕ → Type 0) (limit : ℕ) → GoesOn S limit → (a b : ℕ) → Along S a b → a ≤ b
along_le S limit on a b (done _ _ e) = omega (arith, e)
along_le S limit on a b (more _ m _ s r) = let f = on a m s in let g : m ≤ b = along_le S limit on m b r in omega (arith, f.0)

pub along_within : (S : ℕ → ℕ → Type 0) (limit : ℕ) → GoesOn S limit → (a b : ℕ) → a ≤ limit → Along S a b → b ≤ limit
along_within S limit on a b le (done _ _ e) = omega (arith, e)
along_within S limit on a b le (more _ m _ s r) = along_within S limit on m b (on a m s).1 r

-- the steps from a place come to an end somewhere
pub along_end : (S : ℕ → ℕ → Type 0) (limit : ℕ) → GoesOn S limit → ((a : ℕ) → ((b : ℕ) × S a b) ⊎ IsLast S a) → (n a : ℕ) → limit ≤ a + n → (b : ℕ) × Along S a b × IsLast S b
along_end S limit on next zero a le =
    ⊎_elim (λ s. let f = on a s.0 s.1 in absurd (omega (arith, f.0, f.1))) (λ l. (a, done a a refl, l)) (next a)
along_end S limit on next (suc n) a le =
    ⊎_elim
    (λ s. let f = on a s.0 s.1 in let r = along_end S limit on next n s.0 (omega (arith, f.0)) in (r.0, more a s.0 r.0 s.1 r.1, r.2))
    (λ l. (a, done a a refl, l))
    (next a)
