-- Lists of values of different lengths aren't the same.
use Rattle.std.proofs.Common.{◌≡◌, Bool, true, false, ◌&&◌, List, [], ◌∷◌, length, suc, refl, ap}
use Rattle.comp_model.specs.Core.{CoreValue}
use Rattle.core_model.specs.Types.{same_value, same_values}

pub differ : (vs ws : List CoreValue) → (length vs ≡ length ws → ⊥) → false ≡ same_values vs ws
differ [] [] h = absurd (h refl)
differ [] (w ∷ ws) h = refl
differ (v ∷ vs) [] h = refl
differ (v ∷ vs) (w ∷ ws) h = go (same_value v w) (differ vs ws (λ e. h (ap suc e)))
  where
    go : (b : Bool) → false ≡ same_values vs ws → false ≡ (b && same_values vs ws)
    go true e = e
    go false e = refl
