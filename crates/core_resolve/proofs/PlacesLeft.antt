-- Places that are taken from the front, one for each name.
use Rattle.std.proofs.Common.{◌≡◌, ℕ, suc, ◌+◌, ◌<◌, ◌≤◌, List, [], ◌∷◌, ◌++◌, length, map, flat_map, drop, get_or, set, Option, Some, sym, ◌∙◌, ap, add-one, arith, drop-cons}
use Rattle.std.proofs.lemmas.List.{drop-set-lt, drop_all}
use Rattle.core_model.proofs.Lists.{append-assoc}

-- the one in front
module _ (q : Option ℕ) (rest : List (Option ℕ)) where
  pub first-place : (places : List ℕ) (d : ℕ) → map Some places ≡ q ∷ rest → Some (get_or places 0 d) ≡ q
  first-place [] d e = cc
  first-place (p ∷ places) d e = cc

-- those of one part in front of those of the parts behind it, in a list that is changed from the front
module _ {A B : Type 0} (k : B → List (Option ℕ)) (f : A → B) (i : ℕ) (xs : List A) where
  pub next-places : (rest left : List (Option ℕ)) (d : A) → i < length xs → left ≡ flat_map k (map f (drop i xs)) ++ rest → left ≡ k (f (get_or xs i d)) ++ (flat_map k (map f (drop (i + 1) xs)) ++ rest)
  next-places rest left d below e =
      e ∙ ap (λ ys. flat_map k (map f ys) ++ rest) (drop-cons xs i d below) ∙ append-assoc (k (f (get_or xs i d))) (flat_map k (map f (drop (suc i) xs))) rest
      ∙ ap (λ n. k (f (get_or xs i d)) ++ (flat_map k (map f (drop n xs)) ++ rest)) (sym (add-one i))

  pub next-alone : (left : List (Option ℕ)) (d : A) → i < length xs → left ≡ flat_map k (map f (drop i xs)) → left ≡ k (f (get_or xs i d)) ++ flat_map k (map f (drop (i + 1) xs))
  next-alone left d below e =
      e ∙ ap (λ ys. flat_map k (map f ys)) (drop-cons xs i d below) ∙ ap (λ n. k (f (get_or xs i d)) ++ flat_map k (map f (drop n xs))) (sym (add-one i))

  pub later-places : (y : A) → flat_map k (map f (drop (i + 1) xs)) ≡ flat_map k (map f (drop (i + 1) (set xs i y)))
  later-places y =
      ap (λ n. flat_map k (map f (drop n xs))) (add-one i) ∙ ap (λ ys. flat_map k (map f ys)) (sym (drop-set-lt (suc i) xs i y (omega arith)))
      ∙ ap (λ n. flat_map k (map f (drop n (set xs i y)))) (sym (add-one i))

  pub none-left : (rest : List (Option ℕ)) → length xs ≤ i → flat_map k (map f (drop i xs)) ++ rest ≡ rest
  none-left rest end = ap (λ ys. flat_map k (map f ys) ++ rest) (drop_all i xs end)
