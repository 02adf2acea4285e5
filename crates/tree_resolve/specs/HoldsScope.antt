-- A definition that holds a scope alone, in a list.
use Rattle.std.specs.Prelude.{◌≡◌, List, ◌∷◌, [], ◌++◌}
use Rattle.std.proofs.Common.{Bor}
use Rattle.comp_tree.specs.declared.tree.Def.{Def}
use Rattle.comp_tree.specs.declared.tree.Leaf as l
use Rattle.comp_tree.specs.declared.tree.Scope.{Scope}
use Rattle.tree_resolve.specs.Made.{own_names}

-- one with another scope in place of its own stands behind the others
pub record IsPushed (d : Def) (s : Scope) (old new : List Def) : Type 0 where
  pub pushed : Def
  pub placed : Bor Scope
  pub behind : new ≡ old ++ pushed ∷ []
  pub origin : pushed.origin ≡ d.origin
  pub names : own_names pushed ≡ own_names d
  pub head : pushed.node.row ≡ d.node.row
  pub leaves : pushed.node.leaves.now ≡ l.Scope placed ∷ []
  pub scope : placed.now ≡ s
