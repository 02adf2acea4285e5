-- A test that holds so far and holds of what comes next.
use Rattle.std.proofs.Common.{◌≡◌, Bool, true, false, ◌&&◌, List, [], ◌∷◌, refl, ap}
use Rattle.comp_walks.specs.Shapes.{are_none}

pub left : (b c : Bool) → b && c ≡ true → b ≡ true
left true c h = refl
left false c h = h

pub right : (b c : Bool) → b && c ≡ true → c ≡ true
right true c h = h
right false c h = absurd (cc)

-- what is refused does not hold
pub refused : (b : Bool) → (b && false) && true ≡ true → ⊥
refused true h = cc
refused false h = cc

pub refused-here : (b : Bool) → b && false ≡ true → ⊥
refused-here true h = cc
refused-here false h = cc

pub none : {A : Type 0} (xs : List A) → are_none xs ≡ true → xs ≡ []
none [] h = refl
none (x ∷ xs) h = absurd (cc)

pub are-none : {A : Type 0} (xs : List A) → xs ≡ [] → are_none xs ≡ true
are-none xs h = ap are_none h
