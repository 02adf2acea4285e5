-- One turn of the loop over the names of the items of a space.
use Rattle.std.proofs.Common.{◌≡◌, ℕ, ◌+◌, true, cond, List, ◌∷◌, ◌++◌, map, Option, ◌∙◌, ap, sym, subst, arith}
use Rattle.comp_model.specs.declared.Space.{Space}
use Rattle.comp_model.specs.Core.{Text}
use Rattle.comp_model.specs.CoreModules.{Field}
use Rattle.core_model.specs.Items.{naming_of, is_space, declares, items_in}
use Rattle.core_model.specs.NameSection.{name_of, named_at, names_from}
use Rattle.core_write.specs.NamesWritten.{FitsNamesFrom}

module _ (s : Space) (f : Field) (fs rest : List Field) (k : ℕ) (split : fs ≡ f ∷ rest) (inside : is_space s (declares f) ≡ true) where
  pub item-first : items_in s fs ≡ f ∷ items_in s rest
  item-first = ap (items_in s) split ∙ ap (λ b. cond b (f ∷ items_in s rest) (items_in s rest)) inside

  next : 0 + k + 1 ≡ 0 + (k + 1)
  next = omega arith

  pub name-first : (x : Option Text) → x ≡ name_of (naming_of f)
      → names_from (0 + k) (map naming_of (items_in s fs)) ≡ named_at (0 + k) x ++ names_from (0 + (k + 1)) (map naming_of (items_in s rest))
  name-first x e =
      ap (λ gs. names_from (0 + k) (map naming_of gs)) item-first ∙ ap (λ j. named_at (0 + k) (name_of (naming_of f)) ++ names_from j (map naming_of (items_in s rest))) next
      ∙ ap (λ y. named_at (0 + k) y ++ names_from (0 + (k + 1)) (map naming_of (items_in s rest))) (sym e)

  pub names-fit : FitsNamesFrom (0 + k) (map naming_of (items_in s fs)) → FitsNamesFrom (0 + (k + 1)) (map naming_of (items_in s rest))
  names-fit h =
      let g : FitsNamesFrom (0 + k) (map naming_of (f ∷ items_in s rest)) = subst (λ gs. FitsNamesFrom (0 + k) (map naming_of gs)) item-first h in
      subst (λ j. FitsNamesFrom j (map naming_of (items_in s rest))) next g.1
