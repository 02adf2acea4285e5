-- The last turn of a loop over a list.
use Rattle.std.proofs.Common.{◌≡◌, ℕ, ◌+◌, ◌≤◌, ◌<◌, ◌^◌, List, ◌∷◌, length, map, drop, drop_of_length-le, get_or, suc, Option, Some, None, option_map, sym, ◌∙◌, ap, arith}
use Rattle.std.proofs.Math.Seq.{drop-cons}
use Rattle.comp_model.specs.Weight.{weight_of_all}
use Rattle.comp_model.specs.Covered.{Uncovered, first_held}
use Rattle.wast_tokens.specs.declared.error.Error.{Error}
use Rattle.comp_model.specs.CoreModules.{Field}
use Rattle.core_model.specs.Uncovered.{uncovered_field, core_uncovered}
use Rattle.core_syntax.specs.Measures.{capped, form_refusal}

-- behind the last element nothing is left to add
pub all-weighed : {A B : Type 0} (f : B → ℕ) (g : A → B) (xs : List A) (i total whole : ℕ) → length xs ≤ i → total < 2 ^ 64
    → capped (total + weight_of_all f (map g (drop i xs))) ≡ whole → total ≡ whole
all-weighed f g xs i total whole h t e =
    let d : capped (total + 0) ≡ whole = ap (λ ys. capped (total + weight_of_all f (map g ys))) (sym (drop_of_length-le xs h)) ∙ e in
    omega (arith, d, t)

-- what a field refuses is what all refuse that begin with it
first-refused : (u rest : Option Uncovered) (e : Error) → Some e ≡ option_map form_refusal u → Some e ≡ option_map form_refusal (first_held u rest)
first-refused None rest e h = cc
first-refused (Some x) rest e h = h

pub refused-at : {A : Type 0} (g : A → Field) (xs : List A) (i : ℕ) (x : A) (e : Error) (whole : Option Uncovered) → i < length xs → x ≡ get_or xs i x
    → core_uncovered (map g (drop i xs)) ≡ whole → Some e ≡ option_map form_refusal (uncovered_field (g x)) → Some e ≡ option_map form_refusal whole
refused-at g xs i x e whole below is left h =
    let d : drop i xs ≡ x ∷ drop (suc i) xs = drop-cons xs i x below ∙ ap (λ y. y ∷ drop (suc i) xs) (sym is) in
    first-refused (uncovered_field (g x)) (core_uncovered (map g (drop (suc i) xs))) e h ∙ ap (λ ys. option_map form_refusal (core_uncovered (map g ys))) (sym d) ∙ ap (option_map form_refusal) left
