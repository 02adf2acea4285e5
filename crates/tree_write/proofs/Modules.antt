-- A core module by its number.
use Rattle.std.proofs.Common.{◌≡◌, ℕ, zero, suc, ◌<◌, List, [], ◌∷◌, length, map, refl, arith}
use Rattle.comp_model.specs.CoreModules.{CoreModule}
use Rattle.comp_model.specs.Model as m
use Rattle.comp_tree.specs.Model.{core_at}

module _ {M : Type 0} (module_of : M → CoreModule) where
  abbrev pub nth : (xs : List M) (n : ℕ) → n < length xs → M
  nth [] n h = absurd (omega arith)
  nth (x ∷ xs) zero h = x
  nth (x ∷ xs) (suc n) h = nth xs n (omega arith)

  pub module_at : (xs : List M) (n : ℕ) (h : n < length xs) → core_at (map module_of xs) n ≡ m.core_source (module_of (nth xs n h))
  module_at [] n h = absurd (omega arith)
  module_at (x ∷ xs) zero h = refl
  module_at (x ∷ xs) (suc n) h = module_at xs n (omega arith)
