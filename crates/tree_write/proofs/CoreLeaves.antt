-- A core module is no text and no scope.
use Rattle.std.proofs.Common.{◌≡◌, ℕ, zero, suc, List, [], ◌∷◌, refl, false, None}
use Rattle.comp_model.specs.CoreModules.{CoreModule}
use Rattle.comp_tree.specs.Model.{core_at}
use Rattle.tree_write.specs.Plans.{scope_leaf}
use Rattle.tree_write.specs.Produced.{is_text, maybe_text}

pub no_scope : (cores : List CoreModule) (n : ℕ) → scope_leaf (core_at cores n) ≡ None
no_scope [] n = refl
no_scope (c ∷ cs) zero = refl
no_scope (c ∷ cs) (suc n) = no_scope cs n

pub not_text : (cores : List CoreModule) (n : ℕ) → is_text (core_at cores n) ≡ false
not_text [] n = refl
not_text (c ∷ cs) zero = refl
not_text (c ∷ cs) (suc n) = not_text cs n

pub no_text : (cores : List CoreModule) (n : ℕ) → maybe_text (core_at cores n) ≡ None
no_text [] n = refl
no_text (c ∷ cs) zero = refl
no_text (c ∷ cs) (suc n) = no_text cs n
