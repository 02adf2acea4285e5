-- No field declares a tag.
use Rattle.std.proofs.Common.{◌≡◌, false, cond, List, [], ◌∷◌, map, refl, ◌∙◌, ap}
use Rattle.comp_model.specs.declared.Space.TheVariants.{CoreTag}
use Rattle.comp_model.specs.CoreModules.{func, Field, import_field}
use Rattle.core_model.specs.Items.{naming_of, is_space, declares, items_in, ids_in}

none-declared : (f : Field) → is_space CoreTag (declares f) ≡ false
none-declared (import_field o m x n (func u)) = refl
none-declared _ = refl

pub no-tags : (fs : List Field) → ids_in CoreTag fs ≡ []
no-tags [] = refl
no-tags (f ∷ fs) = ap (λ b. map (λ g. (naming_of g).id) (cond b (f ∷ items_in CoreTag fs) (items_in CoreTag fs))) (none-declared f) ∙ no-tags fs
