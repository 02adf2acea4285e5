-- The tests of equality decide: tags, spaces and origins by their numbers.
use Rattle.std.proofs.Common.{◌≡◌, ◌≢◌, ℕ, zero, suc, Bool, true, false, List, ◌∷◌, refl, sym, ◌∙◌, ap}
use Rattle.std.proofs.lemmas.Slice.Eq.{bytes_eq-Decides}
use Rattle.std.proofs.lemmas.Bool.{eqb-true}
use Rattle.comp_model.specs.declared.Space.{Space}
use Rattle.comp_model.specs.declared.Space.TheVariants.{CoreFunc}
use Rattle.comp_model.specs.declared.row.Row.TheVariants as rows
use Rattle.comp_model.specs.declared.row.Row.{Row}
use Rattle.comp_model.specs.RowNumbers.{row_number, all_rows, row_in, row_in-number, same_row}
use Rattle.comp_model.specs.Spaces.{code_of_space, all_spaces, space_in, same_space}
use Rattle.comp_model.specs.Origins.{Origin, written, inline_type, bundle_of, inline_export, export_step, outer_alias_of, name_section, numbers_of, same_origin}

pub same_row-true : (s t : Row) → same_row s t ≡ true → s ≡ t
same_row-true s t h = sym (row_in-number s) ∙ ap (row_in all_rows) (eqb-true (row_number s) (row_number t) h) ∙ row_in-number t

pub same_row-refl : (t : Row) → same_row t t ≡ true
same_row-refl rows.CoreModule = refl
same_row-refl _ = refl

space_in-code : (s : Space) → space_in all_spaces (code_of_space s) ≡ s
space_in-code CoreFunc = refl
space_in-code _ = refl

pub same_space-true : (s t : Space) → same_space s t ≡ true → s ≡ t
same_space-true s t h = sym (space_in-code s) ∙ ap (space_in all_spaces) (eqb-true (code_of_space s) (code_of_space t) h) ∙ space_in-code t

pub same_space-refl : (s : Space) → same_space s s ≡ true
same_space-refl CoreFunc = refl
same_space-refl _ = refl

-- the origin of these numbers
origin_from : List ℕ → Origin
origin_from (zero ∷ k ∷ r) = written k
origin_from (suc zero ∷ k ∷ u ∷ r) = inline_type k u
origin_from (suc (suc zero) ∷ k ∷ u ∷ r) = bundle_of k u
origin_from (suc (suc (suc zero)) ∷ k ∷ u ∷ r) = inline_export k u
origin_from (suc (suc (suc (suc zero))) ∷ k ∷ u ∷ s ∷ r) = export_step k u s
origin_from (suc (suc (suc (suc (suc zero)))) ∷ k ∷ u ∷ r) = outer_alias_of k u
origin_from _ = name_section

origin_from-numbers : (o : Origin) → origin_from (numbers_of o) ≡ o
unfolding origin_from
origin_from-numbers (written k) = refl
origin_from-numbers (inline_type k u) = refl
origin_from-numbers (bundle_of k u) = refl
origin_from-numbers (inline_export k j) = refl
origin_from-numbers (export_step k u s) = refl
origin_from-numbers (outer_alias_of k u) = refl
origin_from-numbers name_section = refl

pub same_origin-true : (a b : Origin) → same_origin a b ≡ true → a ≡ b
same_origin-true a b h = sym (origin_from-numbers a) ∙ ap origin_from ((bytes_eq-Decides (numbers_of a) (numbers_of b)).0 h) ∙ origin_from-numbers b

pub same_origin-refl : (a : Origin) → same_origin a a ≡ true
same_origin-refl a = (bytes_eq-Decides (numbers_of a) (numbers_of a)).1 refl

pub same_origin-false : (a b : Origin) → a ≢ b → same_origin a b ≡ false
same_origin-false a b h = go (same_origin a b) refl
  where
    go : (t : Bool) → same_origin a b ≡ t → t ≡ false
    go true e = absurd (h (same_origin-true a b e))
    go false e = refl
