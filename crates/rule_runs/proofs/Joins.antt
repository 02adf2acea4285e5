-- Loose parts behind each other.
use Rattle.std.proofs.Common.{◌≡◌, List, [], ◌∷◌, ◌++◌, refl, ap, sym, ◌∙◌, append_assoc, length, take, drop}
use Rattle.text_rules.specs.Made.{Made, empty, join, front, behind}
use Rattle.text_rules.specs.Rule.{Wraps}
use Rattle.text_rules.specs.Makes.{wrapped}

append_nil : {A : Type 0} (xs : List A) → xs ++ [] ≡ xs
append_nil [] = refl
append_nil (x ∷ xs) = ap (λ ys. x ∷ ys) (append_nil xs)

pub join_empty : (a : Made) → join a empty ≡ a
join_empty a = simp append_nil

pub join_join : (a b c : Made) → join (join a b) c ≡ join a (join b c)
join_join a b c = simp append_assoc

take_front : {A : Type 0} (xs ys : List A) → take (length xs) (xs ++ ys) ≡ xs
take_front [] ys = refl
take_front (x ∷ xs) ys = ap (λ zs. x ∷ zs) (take_front xs ys)

drop_front : {A : Type 0} (xs ys : List A) → drop (length xs) (xs ++ ys) ≡ ys
drop_front [] ys = refl
drop_front (x ∷ xs) ys = drop_front xs ys

pub front_join : (a b : Made) → front a (join a b) ≡ a
front_join a b = simp take_front

pub behind_join : (a b : Made) → behind a (join a b) ≡ b
behind_join a b = simp drop_front

wrapped_as : (w : Wraps) (a b c : Made) → front a c ≡ a → behind a c ≡ b → join a (wrapped w b) ≡ join (front a c) (wrapped w (behind a c))
wrapped_as w a b c e f = sym (ap (λ x. join x (wrapped w (behind a c))) e ∙ ap (λ y. join a (wrapped w y)) f)

-- what is made of parts stands where they stood
pub wrapped_behind : (w : Wraps) (a b : Made) → join a (wrapped w b) ≡ join (front a (join a b)) (wrapped w (behind a (join a b)))
wrapped_behind w a b = wrapped_as w a b (join a b) (front_join a b) (behind_join a b)
