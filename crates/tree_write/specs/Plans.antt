-- What the name sections of a component and of the components in it hold, from the last one that is written to the first.
use Rattle.std.specs.Prelude.{ℕ, cond, List, [], ◌∷◌, ◌++◌, Option, Some, None}
use Rattle.comp_model.specs.Model as m
use Rattle.comp_model.specs.Model.{Leaf, Leaves, no_leaf, ◌▸◌, Node, row, Defs, no_def, one_def, define, Scope, scope_of}
use Rattle.comp_model.specs.declared.row.Row.TheVariants as rows
use Rattle.comp_model.specs.RowNumbers.{same_row}
use Rattle.tree_write.specs.Wire.{payload_of}

-- the scope that a leaf is, and the component in a definition that holds one
abbrev pub scope_leaf : Leaf → Option Scope
scope_leaf (m.scope s) = Some s
scope_leaf _ = None

abbrev pub first_scope : Leaves → Option Scope
first_scope no_leaf = None
first_scope (l ▸ ls) = scope_leaf l

abbrev pub component_in : Node → Option Scope
component_in (row u ls) = cond (same_row u rows.Component) (first_scope ls) None

abbrev mutual
  pub payloads : Scope → List (List ℕ)
  payloads (scope_of k id label ds) = payload_of (scope_of k id label ds) ∷ payloads_of_defs ds

  pub payloads_of_defs : Defs → List (List ℕ)
  payloads_of_defs no_def = []
  payloads_of_defs (one_def (define names (row u ls)) ds) = payloads_of_defs ds ++ cond (same_row u rows.Component) (payloads_of_first ls) []

  pub payloads_of_first : Leaves → List (List ℕ)
  payloads_of_first (m.scope s ▸ ls) = payloads s
  payloads_of_first _ = []

abbrev pub payloads_in : Option Scope → List (List ℕ)
payloads_in None = []
payloads_in (Some s) = payloads s
