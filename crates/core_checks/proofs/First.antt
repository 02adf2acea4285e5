-- What is broken first among parts that stand one behind the other.
use Rattle.std.proofs.Common.{◌≡◌, Option, Some, None, List, [], ◌∷◌, ◌++◌, Result, refl, sym, ◌∙◌, ap, subst}
use Rattle.comp_model.specs.Core.{CoreRefusal}
use Rattle.wast_tokens.specs.declared.error.Error.{Error}
use Rattle.core_model.specs.Rule.{first_broken}
use Rattle.core_checks.specs.Refusals.{IsBroken, IsRefused, by_memory, by_rule, Tells}

-- what is left decides where nothing is broken in front of it
pub left-of-one : (r : Option CoreRefusal) (rs : List (Option CoreRefusal)) → r ≡ None → first_broken (r ∷ rs) ≡ first_broken rs
left-of-one r rs e = ap (λ q. first_broken (q ∷ rs)) e

pub left-of-list : (rs qs : List (Option CoreRefusal)) → first_broken rs ≡ None → first_broken (rs ++ qs) ≡ first_broken qs
left-of-list [] qs e = refl
left-of-list (None ∷ rs) qs e = left-of-list rs qs e
left-of-list (Some r ∷ rs) qs e = cc

pub alone : (r : Option CoreRefusal) → first_broken (r ∷ []) ≡ r
alone None = refl
alone (Some r) = refl

-- what is broken in front is broken first
pub broken-one : (r : Option CoreRefusal) (rs : List (Option CoreRefusal)) (e : Error) → IsBroken r e → IsBroken (first_broken (r ∷ rs)) e
broken-one None rs e h = cc
broken-one (Some r) rs e h = h

pub broken-list : (rs qs : List (Option CoreRefusal)) (e : Error) → IsBroken (first_broken rs) e → IsBroken (first_broken (rs ++ qs)) e
broken-list [] qs e h = cc
broken-list (None ∷ rs) qs e h = broken-list rs qs e h
broken-list (Some r ∷ rs) qs e h = h

pub refused-one : (r : Option CoreRefusal) (rs : List (Option CoreRefusal)) (e : Error) → IsRefused r e → IsRefused (first_broken (r ∷ rs)) e
refused-one r rs e (by_memory h) = by_memory h
refused-one r rs e (by_rule h) = by_rule (broken-one r rs e h)

pub refused-list : (rs qs : List (Option CoreRefusal)) (e : Error) → IsRefused (first_broken rs) e → IsRefused (first_broken (rs ++ qs)) e
refused-list rs qs e (by_memory h) = by_memory h
refused-list rs qs e (by_rule h) = by_rule (broken-list rs qs e h)

-- the same said of an equal
pub told-as : {T : Type 0} (r q : Option CoreRefusal) (result : Result T Error) → r ≡ q → Tells r result → Tells q result
told-as r q result e h = subst (λ x. Tells x result) e h

pub refused-as : (r q : Option CoreRefusal) (e : Error) → r ≡ q → IsRefused r e → IsRefused q e
refused-as r q e d h = subst (λ x. IsRefused x e) d h

pub broken-as : (r q : Option CoreRefusal) (e : Error) → r ≡ q → IsBroken r e → IsBroken q e
broken-as r q e d h = subst (λ x. IsBroken x e) d h

-- the last of three lists decides where nothing is broken in the others
pub left-of-three : (xs ys zs : List (Option CoreRefusal)) → first_broken xs ≡ None → first_broken ys ≡ None → first_broken zs ≡ first_broken (xs ++ (ys ++ zs))
left-of-three xs ys zs e d = sym (left-of-list ys zs d) ∙ sym (left-of-list xs (ys ++ zs) e)

pub refused-second : (xs ys zs : List (Option CoreRefusal)) (e : Error) → first_broken xs ≡ None → IsRefused (first_broken ys) e → IsRefused (first_broken (xs ++ (ys ++ zs))) e
refused-second xs ys zs e d h = refused-as _ _ e (sym (left-of-list xs (ys ++ zs) d)) (refused-list ys zs e h)
