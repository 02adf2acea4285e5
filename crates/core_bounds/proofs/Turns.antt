-- The turns of a loop over a list, by what is left.
use Rattle.std.proofs.Common.{◌≡◌, ℕ, suc, ◌+◌, ◌<◌, ◌≤◌, List, [], ◌∷◌, length, map, drop, drop_of_length-le, get_or, add-one, sym, subst, ◌∙◌, ap}
use Rattle.std.proofs.Math.Seq.{drop-cons}

-- what is left at a turn
pub left : {A : Type 0} (xs : List A) (i : ℕ) (x : A) → i < length xs → x ≡ get_or xs i x → drop i xs ≡ x ∷ drop (i + 1) xs
left xs i x below e = drop-cons xs i x below ∙ ap (λ y. y ∷ drop (suc i) xs) (sym e) ∙ ap (λ n. x ∷ drop n xs) (sym (add-one i))

pub left-at : {A : Type 0} (xs : List A) (i : ℕ) (d : A) → i < length xs → drop i xs ≡ get_or xs i d ∷ drop (i + 1) xs
left-at xs i d below = drop-cons xs i d below ∙ ap (λ n. get_or xs i d ∷ drop n xs) (sym (add-one i))

-- what holds of all, where it holds of this one and of those behind it
pub held-turn : {A B : Type 0} (F : List B → Type 0) (g : A → B) (W : Type 0) (xs : List A) (i : ℕ) (x : A) → i < length xs → x ≡ get_or xs i x
    → (F (map g (drop (i + 1) xs)) → F (g x ∷ map g (drop (i + 1) xs))) → (F (map g (drop i xs)) → W) → F (map g (drop (i + 1) xs)) → W
held-turn F g W xs i x below is step so rest = so (subst (λ ys. F (map g ys)) (sym (left xs i x below is)) (step rest))

-- where the element is one in place
pub held-turn-at : {A B : Type 0} (F : List B → Type 0) (g : A → B) (W : Type 0) (xs : List A) (i : ℕ) (d : A) → i < length xs
    → (F (map g (drop (i + 1) xs)) → F (g (get_or xs i d) ∷ map g (drop (i + 1) xs))) → (F (map g (drop i xs)) → W) → F (map g (drop (i + 1) xs)) → W
held-turn-at F g W xs i d below step so rest = so (subst (λ ys. F (map g ys)) (sym (left-at xs i d below)) (step rest))

pub held-end : {A B : Type 0} (F : List B → Type 0) (g : A → B) (W : Type 0) (xs : List A) (i : ℕ) → length xs ≤ i → F [] → (F (map g (drop i xs)) → W) → W
held-end F g W xs i h none so = so (subst (λ ys. F (map g ys)) (sym (drop_of_length-le xs h)) none)
