-- How often a mark stands in a list of marks: at most once, and only where a condition holds.
use Rattle.std.proofs.Common.{◌≡◌, ◌≢◌, ℕ, zero, suc, ◌+◌, ◌≤◌, Bool, true, false, cond, List, [], ◌∷◌, ◌++◌, refl, sym, subst, arith}
use Rattle.comp_model.specs.Origins.{Origin, same_origin}
use Rattle.comp_model.proofs.Tests.{same_origin-true, same_origin-refl}
use Rattle.comp_scopes.specs.Outward.{Planned, plan_both}
use Rattle.comp_scopes.specs.Plan.{Mark}
use Rattle.comp_scopes.proofs.EachOf.{EachOf}

-- one or none
abbrev pub hit : Origin → Origin → ℕ
hit o p = cond (same_origin o p) 1 0

abbrev pub times : Origin → List Mark → ℕ
times o [] = 0
times o (m ∷ ms) = hit o m.origin + times o ms

pub times-app : (o : Origin) (xs ys : List Mark) → times o (xs ++ ys) ≡ times o xs + times o ys
times-app o [] ys = omega arith
times-app o (x ∷ xs) ys = let h : times o (xs ++ ys) ≡ times o xs + times o ys = times-app o xs ys in omega (arith, h)

abbrev pub total : Origin → Planned Mark → ℕ
total o p = times o p.inlined + (times o p.bundles + times o p.needed)

-- a number that is at most one, and one only where P holds
abbrev pub Once : ℕ → Type 0 → Type 0
Once n P = (n ≤ 1) × (1 ≤ n → P)

pub once-zero : (P : Type 0) → Once 0 P
once-zero P = (omega arith, λ h. absurd (omega (arith, h)))

pub once-weaken : (n : ℕ) (P Q : Type 0) → (P → Q) → Once n P → Once n Q
once-weaken n P Q f a = (a.0, λ h. f (a.1 h))

pub once-to : (n m : ℕ) (P : Type 0) → n ≡ m → Once n P → Once m P
once-to n m P e a = subst (λ x. Once x P) e a

-- two that exclude each other
pub once-sum : (a b : ℕ) (P Q R : Type 0) → (P → Q → ⊥) → (P → R) → (Q → R) → Once a P → Once b Q → Once (a + b) R
once-sum zero b P Q R n f g x y = (let h : b ≤ 1 = y.0 in omega (arith, h), λ h. g (y.1 (omega (arith, h))))
once-sum (suc a) zero P Q R n f g x y = (let h : suc a ≤ 1 = x.0 in omega (arith, h), λ h. f (x.1 (omega arith)))
once-sum (suc a) (suc b) P Q R n f g x y = absurd (n (x.1 (omega arith)) (y.1 (omega arith)))

pub hit-once : (o p : Origin) → Once (hit o p) (o ≡ p)
hit-once o p = go (same_origin o p) refl
  where
    go : (b : Bool) → same_origin o p ≡ b → Once (cond b 1 0) (o ≡ p)
    go true e = (omega arith, λ h. same_origin-true o p e)
    go false e = once-zero (o ≡ p)

pub one-once : (o : Origin) (m : Mark) → Once (times o (m ∷ [])) (o ≡ m.origin)
one-once o m = once-to (hit o m.origin) (times o (m ∷ [])) (o ≡ m.origin) (omega arith) (hit-once o m.origin)

pub total-both : (o : Origin) (a b : Planned Mark) → total o (plan_both a b) ≡ total o a + total o b
total-both o a b =
    let x : times o (a.inlined ++ b.inlined) ≡ times o a.inlined + times o b.inlined = times-app o a.inlined b.inlined in
    let y : times o (a.bundles ++ b.bundles) ≡ times o a.bundles + times o b.bundles = times-app o a.bundles b.bundles in
    let z : times o (a.needed ++ b.needed) ≡ times o a.needed + times o b.needed = times-app o a.needed b.needed in
    omega (arith, x, y, z)

-- ---- no two marks are equal

abbrev pub AllIn : (Origin → Type 0) → List Mark → Type 0
AllIn P ms = EachOf (λ (m : Mark). P m.origin) ms

abbrev pub Distinct : List Mark → Type 0
Distinct [] = Unit {0}
Distinct (m ∷ ms) = AllIn (λ o. m.origin ≢ o) ms × Distinct ms

hit-self : (o : Origin) → hit o o ≡ 1
hit-self o = rw (same_origin-refl o) refl

hit-apart : (o p : Origin) → hit o p ≡ 0 → o ≢ p
hit-apart o p h e = let q : hit o o ≡ 0 = subst (λ x. hit o x ≡ 0) (sym e) h in let r : hit o o ≡ 1 = hit-self o in omega (arith, q, r)

never-all : (o : Origin) (ms : List Mark) → times o ms ≡ 0 → AllIn (λ p. o ≢ p) ms
never-all o [] h = tt
never-all o (m ∷ ms) h = let a : hit o m.origin + times o ms ≡ 0 = h in (hit-apart o m.origin (omega (arith, a)), never-all o ms (omega (arith, a)))

pub once-distinct : (ms : List Mark) → ((o : Origin) → times o ms ≤ 1) → Distinct ms
once-distinct [] h = tt
once-distinct (m ∷ ms) h =
    let a : hit m.origin m.origin + times m.origin ms ≤ 1 = h m.origin in
    let b : hit m.origin m.origin ≡ 1 = hit-self m.origin in
    (never-all m.origin ms (omega (arith, a, b)), once-distinct ms (λ o. later o (h o)))
  where
    later : (o : Origin) → hit o m.origin + times o ms ≤ 1 → times o ms ≤ 1
    later o q = omega (arith, q)
