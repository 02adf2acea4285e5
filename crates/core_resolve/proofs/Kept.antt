-- Rules that are kept by a whole are kept by its parts.
use Rattle.std.proofs.Common.{◌≡◌, ℕ, zero, suc, ◌+◌, ◌<◌, ◌≤◌, ◌^◌, List, [], ◌∷◌, ◌++◌, length, map, flat_map, drop, get_or, set, Option, Some, None, refl, ◌∙◌, sym, ap, add-one, arith, drop-cons}
use Rattle.std.proofs.lemmas.List.{drop-set-lt}
use Rattle.comp_model.specs.Weight.{weight_of_all}
use Rattle.comp_model.specs.Core.{CoreRefusal}
use Rattle.comp_model.specs.CoreModules.{Field}
use Rattle.core_model.specs.Items.{each_behind}
use Rattle.core_model.specs.Rule.{first_broken, late_import, repeated_id, broken_parts, core_rule}

pub kept-front : (rs qs : List (Option CoreRefusal)) → first_broken (rs ++ qs) ≡ None → first_broken rs ≡ None
kept-front [] qs e = refl
kept-front (None ∷ rs) qs e = kept-front rs qs e
kept-front (Some r ∷ rs) qs e = cc

pub kept-behind : (rs qs : List (Option CoreRefusal)) → first_broken (rs ++ qs) ≡ None → first_broken qs ≡ None
kept-behind [] qs e = e
kept-behind (None ∷ rs) qs e = kept-behind rs qs e
kept-behind (Some r ∷ rs) qs e = cc

-- one rule alone
pub kept-one : (r : Option CoreRefusal) → first_broken (r ∷ []) ≡ None → r ≡ None
kept-one None e = refl
kept-one (Some r) e = e

-- ---- in a list that is changed from the front

module _ {A : Type 0} (k : Field → List (Option CoreRefusal)) (f : A → Field) (i : ℕ) (xs : List A) where
  pub kept-next : (d : A) → i < length xs → first_broken (flat_map k (map f (drop i xs))) ≡ None → first_broken (k (f (get_or xs i d))) ≡ None
  kept-next d below e = kept-front (k (f (get_or xs i d))) _ (ap (λ ys. first_broken (flat_map k (map f ys))) (sym (drop-cons xs i d below)) ∙ e)

  pub kept-later : (y : A) → first_broken (flat_map k (map f (drop i xs))) ≡ None → first_broken (flat_map k (map f (drop (i + 1) (set xs i y)))) ≡ None
  kept-later y e =
      ap (λ n. first_broken (flat_map k (map f (drop n (set xs i y))))) (add-one i) ∙ ap (λ ys. first_broken (flat_map k (map f ys))) (drop-set-lt (suc i) xs i y (omega arith))
      ∙ go (drop i xs) (drop (suc i) xs) (tails i xs) e
    where
      tails : (j : ℕ) (ys : List A) → drop (suc j) ys ≡ drop 1 (drop j ys)
      tails zero ys = refl
      tails (suc j) [] = refl
      tails (suc j) (y ∷ ys) = tails j ys

      go : (ys zs : List A) → zs ≡ drop 1 ys → first_broken (flat_map k (map f ys)) ≡ None → first_broken (flat_map k (map f zs)) ≡ None
      go [] zs t e = ap (λ us. first_broken (flat_map k (map f us))) t
      go (y ∷ ys) zs t e = ap (λ us. first_broken (flat_map k (map f us))) t ∙ kept-behind (k (f y)) _ e

module _ {A : Type 0} (w : Field → ℕ) (f : A → Field) (i : ℕ) (xs : List A) where
  pub light-next : (d : A) → i < length xs → weight_of_all w (map f (drop i xs)) < 2 ^ 31 → w (f (get_or xs i d)) < 2 ^ 31
  light-next d below e = let a = ap (λ ys. weight_of_all w (map f ys)) (drop-cons xs i d below) in omega (arith, a, e)

  pub light-later : (y : A) → weight_of_all w (map f (drop i xs)) < 2 ^ 31 → weight_of_all w (map f (drop (i + 1) (set xs i y))) < 2 ^ 31
  light-later y e =
      let a = ap (λ n. weight_of_all w (map f (drop n (set xs i y)))) (add-one i) in
      let b = ap (λ ys. weight_of_all w (map f ys)) (drop-set-lt (suc i) xs i y (omega arith)) in
      let d = tail i xs in
      omega (arith, a, b, d, e)
    where
      tail : (j : ℕ) (ys : List A) → weight_of_all w (map f (drop (suc j) ys)) ≤ weight_of_all w (map f (drop j ys))
      tail j [] = refl-zero j
        where
          refl-zero : (m : ℕ) → weight_of_all w (map f (drop (suc m) [])) ≤ weight_of_all w (map f (drop m []))
          refl-zero zero = omega arith
          refl-zero (suc m) = omega arith
      tail zero (y ∷ ys) = omega arith
      tail (suc j) (y ∷ ys) = tail j ys

-- ---- the parts of the fields
pub kept-parts : (fs : List Field) → core_rule fs ≡ None → first_broken (flat_map (broken_parts fs) fs) ≡ None
kept-parts fs e = kept-behind (each_behind repeated_id [] fs) _ (kept-behind (each_behind late_import [] fs) _ e)
