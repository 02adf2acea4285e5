-- A core module is no list and no scope.
use Rattle.std.proofs.Common.{◌≡◌, ℕ, zero, suc, List, [], ◌∷◌, refl, None}
use Rattle.comp_model.specs.CoreModules.{CoreModule}
use Rattle.comp_tree.specs.Access.{nodes_in, scope_in}
use Rattle.comp_tree.specs.Model.{core_at}

pub core_no_nodes : (cores : List CoreModule) (n : ℕ) → nodes_in (core_at cores n) ≡ None
core_no_nodes [] n = refl
core_no_nodes (c ∷ cs) zero = refl
core_no_nodes (c ∷ cs) (suc n) = core_no_nodes cs n

pub core_no_scope : (cores : List CoreModule) (n : ℕ) → scope_in (core_at cores n) ≡ None
core_no_scope [] n = refl
core_no_scope (c ∷ cs) zero = refl
core_no_scope (c ∷ cs) (suc n) = core_no_scope cs n
