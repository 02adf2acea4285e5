-- A list that is changed from the front, one element after the other.
use Rattle.std.proofs.Common.{◌≡◌, ℕ, zero, suc, ◌+◌, ◌<◌, ◌≤◌, List, [], ◌∷◌, length, map, get_or, set, refl, ◌∙◌, ap, add-one, arith}

-- what becomes of it where the elements from an index on are still to be changed
abbrev pub changed_from : {A B : Type 0} → (A → B) → (B → B) → ℕ → List A → List B
changed_from f h zero xs = map h (map f xs)
changed_from f h (suc i) [] = []
changed_from f h (suc i) (x ∷ xs) = f x ∷ changed_from f h i xs

turn : {A B : Type 0} (f : A → B) (h : B → B) (i : ℕ) (xs : List A) (d y : A) → i < length xs → f y ≡ h (f (get_or xs i d)) → changed_from f h (suc i) (set xs i y) ≡ changed_from f h i xs
turn f h i [] d y below e = absurd (omega (arith, below))
turn f h zero (x ∷ xs) d y below e = ap (λ z. z ∷ map h (map f xs)) e
turn f h (suc i) (x ∷ xs) d y below e = ap (λ zs. f x ∷ zs) (turn f h i xs d y (omega (arith, below)) e)

-- one more is changed
pub changed-turn : {A B : Type 0} (f : A → B) (h : B → B) (i : ℕ) (xs : List A) (d y : A) → i < length xs → f y ≡ h (f (get_or xs i d)) → changed_from f h (i + 1) (set xs i y) ≡ changed_from f h i xs
changed-turn f h i xs d y below e = ap (λ n. changed_from f h n (set xs i y)) (add-one i) ∙ turn f h i xs d y below e

-- at the end all are changed
pub changed-end : {A B : Type 0} (f : A → B) (h : B → B) (i : ℕ) (xs : List A) → length xs ≤ i → changed_from f h i xs ≡ map f xs
changed-end f h zero [] below = refl
changed-end f h zero (x ∷ xs) below = absurd (omega (arith, below))
changed-end f h (suc i) [] below = refl
changed-end f h (suc i) (x ∷ xs) below = ap (λ zs. f x ∷ zs) (changed-end f h i xs (omega (arith, below)))
