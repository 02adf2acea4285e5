-- A list that is changed from the front, one element after the other.
use Rattle.std.proofs.Common.{◌≡◌, ℕ, zero, suc, ◌+◌, ◌<◌, ◌≤◌, Option, Some, None, option_map, List, [], ◌∷◌, ◌++◌, length, map, drop, get_or, set, refl, sym, ◌∙◌, ap, arith}
use Rattle.std.proofs.lemmas.List.{length-map}
use Rattle.comp_model.specs.Core.{CoreRefusal}
use Rattle.core_model.specs.Rule.{first_broken}

-- the first so many changed
abbrev pub mixed : {B : Type 0} → (B → B) → ℕ → List B → List B
mixed h zero ps = ps
mixed h (suc n) [] = []
mixed h (suc n) (p ∷ ps) = h p ∷ mixed h n ps

pub mixed-turn : {A B : Type 0} (f : A → B) (h : B → B) (i : ℕ) (xs : List A) (ps : List B) (d y : A) → i < length xs → map f xs ≡ mixed h i ps → f y ≡ h (f (get_or xs i d))
    → map f (set xs i y) ≡ mixed h (suc i) ps
mixed-turn f h i [] ps d y below e g = absurd (omega (arith, below))
mixed-turn f h zero (x ∷ xs) [] d y below e g = cc
mixed-turn f h zero (x ∷ xs) (p ∷ ps) d y below e g = cc
mixed-turn f h (suc i) (x ∷ xs) [] d y below e g = cc
mixed-turn f h (suc i) (x ∷ xs) (p ∷ ps) d y below e g =
    let a : f x ≡ h p = cc in
    let b : map f xs ≡ mixed h i ps = cc in
    let c : map f (set xs i y) ≡ mixed h (suc i) ps = mixed-turn f h i xs ps d y (omega (arith, below)) b g in
    ap (λ q. q ∷ map f (set xs i y)) a ∙ ap (λ qs. h p ∷ qs) c

-- what isn't changed yet begins with this one
mixed-next : {A B : Type 0} (f : A → B) (h : B → B) (i : ℕ) (xs : List A) (ps : List B) (d : A) → i < length xs → map f xs ≡ mixed h i ps
    → drop i ps ≡ f (get_or xs i d) ∷ drop (suc i) ps
mixed-next f h i [] ps d below e = absurd (omega (arith, below))
mixed-next f h zero (x ∷ xs) [] d below e = cc
mixed-next f h zero (x ∷ xs) (p ∷ ps) d below e = cc
mixed-next f h (suc i) (x ∷ xs) [] d below e = cc
mixed-next f h (suc i) (x ∷ xs) (p ∷ ps) d below e = let b : map f xs ≡ mixed h i ps = cc in mixed-next f h i xs ps d (omega (arith, below)) b

length-mixed : {B : Type 0} (h : B → B) (i : ℕ) (ps : List B) → length (mixed h i ps) ≡ length ps
length-mixed h zero ps = refl
length-mixed h (suc i) [] = refl
length-mixed h (suc i) (p ∷ ps) = ap suc (length-mixed h i ps)

-- at the end all are changed
mixed-end : {B : Type 0} (h : B → B) (i : ℕ) (ps : List B) → length ps ≤ i → mixed h i ps ≡ map h ps
mixed-end h zero [] below = refl
mixed-end h zero (p ∷ ps) below = absurd (omega (arith, below))
mixed-end h (suc i) [] below = refl
mixed-end h (suc i) (p ∷ ps) below = ap (λ qs. h p ∷ qs) (mixed-end h i ps (omega (arith, below)))

same-length : {A B : Type 0} (f : A → B) (h : B → B) (i : ℕ) (xs : List A) (ps : List B) → map f xs ≡ mixed h i ps → length ps ≡ length xs
same-length f h i xs ps e = sym (length-mixed h i ps) ∙ ap length (sym e) ∙ length-map xs f

-- ---- where a loop over a list's slice stands

module _ {A B : Type 0} (f : A → B) (h : B → B) (i : ℕ) (xs slice all : List A) (changed : map f xs ≡ mixed h i (map f all)) (whole : slice ≡ all) where
  pub still-there : i < length slice → i < length xs
  still-there below =
      let a = same-length f h i xs (map f all) changed in
      let b = length-map all f in
      let c = ap length whole in
      omega (arith, a, b, c, below)

  pub left-here : (x : A) → i < length slice → x ≡ get_or xs i x → drop i (map f all) ≡ f x ∷ drop (suc i) (map f all)
  left-here x below here = mixed-next f h i xs (map f all) x (still-there below) changed ∙ ap (λ y. f y ∷ drop (suc i) (map f all)) (sym here)

  pub all-changed : length slice ≤ i → map f xs ≡ map h (map f all)
  all-changed ended =
      let b = length-map all f in
      let c = ap length whole in
      let end : length (map f all) ≤ i = omega (arith, b, c, ended) in
      changed ∙ mixed-end h i (map f all) end

-- ---- the first that is refused

module _ {B : Type 0} (u : B → Option CoreRefusal) (i : ℕ) (ps : List B) (x : B) (next : drop i ps ≡ x ∷ drop (suc i) ps) (whole : Option CoreRefusal) (left : first_broken (map u (drop i ps)) ≡ whole) where
  pub known-turn : u x ≡ None → first_broken (map u (drop (i + 1) ps)) ≡ whole
  known-turn e =
      let k : i + 1 ≡ suc i = omega arith in
      ap (λ n. first_broken (map u (drop n ps))) k ∙ ap (λ r. first_broken (r ∷ map u (drop (suc i) ps))) (sym e) ∙ ap (λ qs. first_broken (map u qs)) (sym next) ∙ left

  pub refused-here : {E : Type 0} (k : CoreRefusal → E) (e : E) → Some e ≡ option_map k (u x) → Some e ≡ option_map k whole
  refused-here k e h = go (u x) refl h
    where
      first : first_broken (u x ∷ map u (drop (suc i) ps)) ≡ whole
      first = ap (λ qs. first_broken (map u qs)) (sym next) ∙ left

      go : (r : Option CoreRefusal) → u x ≡ r → Some e ≡ option_map k r → Some e ≡ option_map k whole
      go None d g = cc
      go (Some r) d g = g ∙ ap (option_map k) (ap (λ q. first_broken (q ∷ map u (drop (suc i) ps))) (sym d) ∙ first)

-- what is refused first in two lists, one behind the other
pub first-none : (rs qs : List (Option CoreRefusal)) → first_broken rs ≡ None → first_broken (rs ++ qs) ≡ first_broken qs
first-none [] qs e = refl
first-none (None ∷ rs) qs e = first-none rs qs e
first-none (Some r ∷ rs) qs e = cc

pub first-refusal : {E : Type 0} (k : CoreRefusal → E) (e : E) (rs qs : List (Option CoreRefusal)) → Some e ≡ option_map k (first_broken rs) → Some e ≡ option_map k (first_broken (rs ++ qs))
first-refusal k e [] qs h = cc
first-refusal k e (None ∷ rs) qs h = first-refusal k e rs qs h
first-refusal k e (Some r ∷ rs) qs h = h
