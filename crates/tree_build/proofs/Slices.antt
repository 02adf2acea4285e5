-- Lists that are changed from the first item on.
use Rattle.std.proofs.Common.{◌≡◌, ℕ, zero, suc, ◌+◌, ◌<◌, ◌≤◌, List, [], ◌∷◌, ◌++◌, length, map, take, drop, refl, ap, sym, subst, ◌∙◌, arith, get_or, slice_set, add-one}

pub take_map : {A B : Type 0} (f : A → B) (n : ℕ) (xs : List A) → map f (take n xs) ≡ take n (map f xs)
take_map f zero xs = refl
take_map f (suc n) [] = refl
take_map f (suc n) (x ∷ xs) = ap (λ ys. f x ∷ ys) (take_map f n xs)

pub drop_map : {A B : Type 0} (f : A → B) (n : ℕ) (xs : List A) → map f (drop n xs) ≡ drop n (map f xs)
drop_map f zero xs = refl
drop_map f (suc n) [] = refl
drop_map f (suc n) (x ∷ xs) = drop_map f n xs

pub take_all : {A : Type 0} (n : ℕ) (xs : List A) → length xs ≤ n → take n xs ≡ xs
take_all zero [] h = refl
take_all zero (x ∷ xs) h = absurd (omega (arith, h))
take_all (suc n) [] h = refl
take_all (suc n) (x ∷ xs) h = ap (λ ys. x ∷ ys) (take_all n xs (omega (arith, h)))

pub none_mapped : {A B : Type 0} (f : A → B) (xs : List A) → map f xs ≡ [] → xs ≡ []
none_mapped f [] e = refl
none_mapped f (x ∷ xs) e = absurd (cc)

no_more : {A : Type 0} (n : ℕ) (xs : List A) → n < length xs → drop n xs ≡ [] → ⊥
no_more n [] h e = omega (arith, h)
no_more zero (x ∷ xs) h e = absurd (cc)
no_more (suc n) (x ∷ xs) h e = no_more n xs (omega (arith, h)) e

pub same_left : {A : Type 0} (n : ℕ) (xs ys : List A) (d : A) → n < length xs → drop n xs ≡ drop n ys → get_or xs n d ≡ get_or ys n d
same_left n [] ys d h e = absurd (omega (arith, h))
same_left zero (x ∷ xs) ys d h e = ap (λ zs. get_or zs 0 d) e
same_left (suc n) (x ∷ xs) [] d h e = absurd (no_more n xs (omega (arith, h)) e)
same_left (suc n) (x ∷ xs) (y ∷ ys) d h e = same_left n xs ys d (omega (arith, h)) e

drop_none : {A : Type 0} (n : ℕ) → ◌≡◌ {A = List A} [] (drop 1 (drop n []))
drop_none zero = refl
drop_none (suc n) = refl

drop_more : {A : Type 0} (n : ℕ) (xs : List A) → drop (suc n) xs ≡ drop 1 (drop n xs)
drop_more n [] = drop_none n
drop_more zero (x ∷ xs) = refl
drop_more (suc n) (x ∷ xs) = drop_more n xs

drop_set : {A : Type 0} (n : ℕ) (xs : List A) (y : A) → drop (suc n) (slice_set xs n y) ≡ drop (suc n) xs
drop_set n [] y = refl
drop_set zero (x ∷ xs) y = refl
drop_set (suc n) (x ∷ xs) y = drop_set n xs y

-- behind an item that was changed all is as it was
pub left_behind : {A : Type 0} (n : ℕ) (xs ys : List A) (y : A) → drop n xs ≡ drop n ys → drop (n + 1) (slice_set xs n y) ≡ drop (n + 1) ys
left_behind n xs ys y e =
    ap (λ k. drop k (slice_set xs n y)) (add-one n)
    ∙ (drop_set n xs y ∙ (drop_more n xs ∙ (ap (drop 1) e ∙ (sym (drop_more n ys) ∙ ap (λ k. drop k ys) (sym (add-one n))))))

take_set : {A B : Type 0} (f : A → B) (n : ℕ) (xs : List A) (y : A) → n < length xs → map f (take (suc n) (slice_set xs n y)) ≡ map f (take n xs) ++ (f y ∷ [])
take_set f n [] y h = absurd (omega (arith, h))
take_set f zero (x ∷ xs) y h = refl
take_set f (suc n) (x ∷ xs) y h = ap (λ zs. f x ∷ zs) (take_set f n xs y (omega (arith, h)))

take_next : {A B : Type 0} (f : A → B) (n : ℕ) (xs : List A) (d : A) → n < length xs → map f (take (suc n) xs) ≡ map f (take n xs) ++ (f (get_or xs n d) ∷ [])
take_next f n [] d h = absurd (omega (arith, h))
take_next f zero (x ∷ xs) d h = refl
take_next f (suc n) (x ∷ xs) d h = ap (λ zs. f x ∷ zs) (take_next f n xs d (omega (arith, h)))

-- and the items before it are done
pub one_done : {A B : Type 0} (f g : A → B) (n : ℕ) (xs ys : List A) (y d : A) → n < length xs → length xs ≡ length ys → map f (take n xs) ≡ map g (take n ys) → f y ≡ g (get_or ys n d)
    → map f (take (n + 1) (slice_set xs n y)) ≡ map g (take (n + 1) ys)
one_done f g n xs ys y d h l e z =
    ap (λ k. map f (take k (slice_set xs n y))) (add-one n)
    ∙ (take_set f n xs y h
    ∙ (ap (λ zs. zs ++ (f y ∷ [])) e
    ∙ (ap (λ w. map g (take n ys) ++ (w ∷ [])) z
    ∙ (sym (take_next g n ys d (subst (λ k. n < k) l h)) ∙ ap (λ k. map g (take k ys)) (sym (add-one n))))))

pub all_done : {A B : Type 0} (f g : A → B) (n : ℕ) (xs ys : List A) → length ys ≤ n → length xs ≡ length ys → map f (take n xs) ≡ map g (take n ys) → map f xs ≡ map g ys
all_done f g n xs ys h l e = ap (map f) (sym (take_all n xs (subst (λ k. k ≤ n) (sym l) h))) ∙ (e ∙ ap (map g) (take_all n ys h))

pub map_twice : {A B C : Type 0} (f : A → B) (g : B → C) (xs : List A) → map (λ x. g (f x)) xs ≡ map g (map f xs)
map_twice f g [] = refl
map_twice f g (x ∷ xs) = ap (λ ys. g (f x) ∷ ys) (map_twice f g xs)

-- an item in the place of one that is the same by f
pub same_set : {A B : Type 0} (f : A → B) (n : ℕ) (xs : List A) (x y : A) → n < length xs → x ≡ get_or xs n x → f y ≡ f x → map f (slice_set xs n y) ≡ map f xs
same_set f n [] x y h a e = absurd (omega (arith, h))
same_set f zero (z ∷ xs) x y h a e = ap (λ b. b ∷ map f xs) (e ∙ ap f a)
same_set f (suc n) (z ∷ xs) x y h a e = ap (λ bs. f z ∷ bs) (same_set f n xs x y (omega (arith, h)) a e)
