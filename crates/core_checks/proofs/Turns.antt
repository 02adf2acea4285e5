-- The turns of loops that look for what is broken first.
use Rattle.std.proofs.Common.{◌≡◌, ℕ, suc, ◌+◌, ◌<◌, Option, None, List, [], ◌∷◌, ◌++◌, length, map, flat_map, take, drop, get_or, add-one, sym, ◌∙◌, ap, arith}
use Rattle.std.proofs.lemmas.List.{take_more, length-take, length-map}
use Rattle.std.proofs.Math.Seq.{drop-cons}
use Rattle.comp_model.specs.Core.{CoreRefusal}
use Rattle.wast_tokens.specs.declared.error.Error.{Error}
use Rattle.core_model.specs.Items.{each_behind}
use Rattle.core_model.specs.Rule.{first_broken}
use Rattle.core_model.proofs.Lists.{map-append}
use Rattle.core_checks.specs.Refusals.{IsRefused}
use Rattle.core_checks.proofs.First.{left-of-one, left-of-list, refused-one, refused-list, refused-as}

module _ {A B : Type 0} (g : A → B) (xs : List A) (i : ℕ) (x : A) (below : i < length xs) (is : x ≡ get_or xs i x) where
  -- what is left at a turn, and what was gone over
  pub dropped : drop i xs ≡ x ∷ drop (i + 1) xs
  dropped = drop-cons xs i x below ∙ ap (λ y. y ∷ drop (suc i) xs) (sym is) ∙ ap (λ n. x ∷ drop n xs) (sym (add-one i))

  pub taken : map g (take (i + 1) xs) ≡ map g (take i xs) ++ g x ∷ []
  taken = ap (map g) (take_more xs i x below) ∙ ap (λ y. map g (take i xs ++ y ∷ [])) (sym is) ∙ map-append g (take i xs) (x ∷ [])

  -- several parts of each
  module _ (u : B → List (Option CoreRefusal)) (whole : Option CoreRefusal) (left : first_broken (flat_map u (map g (drop i xs))) ≡ whole) where
    parts : first_broken (u (g x) ++ flat_map u (map g (drop (i + 1) xs))) ≡ whole
    parts = ap (λ ys. first_broken (flat_map u (map g ys))) (sym dropped) ∙ left

    pub left-of-parts : first_broken (u (g x)) ≡ None → first_broken (flat_map u (map g (drop (i + 1) xs))) ≡ whole
    left-of-parts e = sym (left-of-list (u (g x)) (flat_map u (map g (drop (i + 1) xs))) e) ∙ parts

    pub refused-parts : (e : Error) → IsRefused (first_broken (u (g x))) e → IsRefused whole e
    refused-parts e h = refused-as _ whole e parts (refused-list (u (g x)) (flat_map u (map g (drop (i + 1) xs))) e h)

  -- one part of each and those before it
  module _ (u : List B → B → Option CoreRefusal) (whole : Option CoreRefusal) (left : first_broken (each_behind u (map g (take i xs)) (map g (drop i xs))) ≡ whole) where
    behind : first_broken (u (map g (take i xs)) (g x) ∷ each_behind u (map g (take (i + 1) xs)) (map g (drop (i + 1) xs))) ≡ whole
    behind =
        ap (λ bs. first_broken (u (map g (take i xs)) (g x) ∷ each_behind u bs (map g (drop (i + 1) xs)))) taken
        ∙ ap (λ ys. first_broken (each_behind u (map g (take i xs)) (map g ys))) (sym dropped) ∙ left

    pub left-behind : u (map g (take i xs)) (g x) ≡ None → first_broken (each_behind u (map g (take (i + 1) xs)) (map g (drop (i + 1) xs))) ≡ whole
    left-behind e = sym (left-of-one (u (map g (take i xs)) (g x)) (each_behind u (map g (take (i + 1) xs)) (map g (drop (i + 1) xs))) e) ∙ behind

    pub refused-behind-turn : (e : Error) → IsRefused (u (map g (take i xs)) (g x)) e → IsRefused whole e
    refused-behind-turn e h = refused-as _ whole e behind (refused-one (u (map g (take i xs)) (g x)) (each_behind u (map g (take (i + 1) xs)) (map g (drop (i + 1) xs))) e h)

-- what was gone over is no more than all
pub few-taken : {A B : Type 0} (g : A → B) (xs : List A) (i n : ℕ) → length xs < n → length (map g (take i xs)) < n
few-taken g xs i n h = omega (arith, length-map (take i xs) g, length-take i xs, h)

-- one part of each
module _ {A B : Type 0} (g : A → B) (u : B → Option CoreRefusal) (xs : List A) (i : ℕ) (d : A) (below : i < length xs) where
  pub one-dropped : map g (drop i xs) ≡ g (get_or xs i d) ∷ map g (drop (i + 1) xs)
  one-dropped = ap (map g) (drop-cons xs i d below) ∙ ap (λ n. g (get_or xs i d) ∷ map g (drop n xs)) (sym (add-one i))

  module _ (whole : Option CoreRefusal) (left : first_broken (map u (map g (drop i xs))) ≡ whole) where
    one-left : first_broken (u (g (get_or xs i d)) ∷ map u (map g (drop (i + 1) xs))) ≡ whole
    one-left = ap (λ ys. first_broken (map u ys)) (sym one-dropped) ∙ left

    pub left-of-part : u (g (get_or xs i d)) ≡ None → first_broken (map u (map g (drop (i + 1) xs))) ≡ whole
    left-of-part e = sym (left-of-one (u (g (get_or xs i d))) (map u (map g (drop (i + 1) xs))) e) ∙ one-left

    pub refused-part : (e : Error) → IsRefused (u (g (get_or xs i d))) e → IsRefused whole e
    refused-part e h = refused-as _ whole e one-left (refused-one (u (g (get_or xs i d))) (map u (map g (drop (i + 1) xs))) e h)
