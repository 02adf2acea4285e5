-- What holds of the leaf of a core module, whatever its number.
use Rattle.std.proofs.Common.{ℕ, zero, suc, List, [], ◌∷◌}
use Rattle.comp_model.specs.CoreModules.{CoreModule}
use Rattle.comp_model.specs.Model as m
use Rattle.comp_tree.specs.Model.{core_at}

-- it is that of a module, or a part that is missing
pub by_core : (P : m.Leaf → Type 0) → P m.absent → ((c : CoreModule) → P (m.core_source c)) → (C : List CoreModule) (n : ℕ) → P (core_at C n)
by_core P a s [] n = a
by_core P a s (c ∷ C) zero = s c
by_core P a s (c ∷ C) (suc n) = by_core P a s C n
