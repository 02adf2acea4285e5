-- A component of a text that has numerals alone and no names, and what it is in binary form.
use Rattle.std.specs.Prelude.{◌≡◌, false, List, [], ◌∷◌, Option, None, ⊤}
use Rattle.comp_model.specs.declared.row.Row.TheVariants as rows
use Rattle.comp_model.specs.RowNumbers.{same_row}
use Rattle.comp_model.specs.Model as m
use Rattle.comp_model.specs.Model.{Leaf, Leaves, no_leaf, ◌▸◌, row, Nodes, no_node, one_node, Names, define, Defs, no_def, one_def, Scope, scope_of}
use Rattle.comp_scopes.specs.Encoding.{Encoding}
use Rattle.comp_scopes.specs.Resolved.{binary_of}
use Rattle.comp_expanded.specs.IsResolved.{IsResolved}

-- each of several parts has no name
abbrev pub EachNone : {A : Type 0} → List (Option A) → Type 0
EachNone [] = ⊤
EachNone (x ∷ xs) = (x ≡ None) × EachNone xs

-- no id, label or inline export
pub record Unnamed (ns : Names) : Type 0 where
  pub ids : EachNone ns.ids
  pub labels : EachNone ns.labels
  pub exports : ns.exports ≡ []

-- no name, no core module and no list of producers stands in it
abbrev mutual
  pub LeafUnnamed : Leaf → Type 0
  LeafUnnamed (m.case_id x) = x ≡ None
  LeafUnnamed (m.result_ids xs) = EachNone xs
  LeafUnnamed (m.core_source c) = ⊥
  LeafUnnamed (m.present l) = LeafUnnamed l
  LeafUnnamed (m.node (row t ls)) = LeavesUnnamed ls
  LeafUnnamed (m.nodes ns) = NodesUnnamed ns
  LeafUnnamed (m.scope (scope_of k id label ds)) = (id ≡ None) × (label ≡ None) × DefsUnnamed ds
  LeafUnnamed _ = ⊤

  pub LeavesUnnamed : Leaves → Type 0
  LeavesUnnamed no_leaf = ⊤
  LeavesUnnamed (l ▸ ls) = LeafUnnamed l × LeavesUnnamed ls

  pub NodesUnnamed : Nodes → Type 0
  NodesUnnamed no_node = ⊤
  NodesUnnamed (one_node (row t ls) ns) = LeavesUnnamed ls × NodesUnnamed ns

  pub DefsUnnamed : Defs → Type 0
  DefsUnnamed no_def = ⊤
  DefsUnnamed (one_def (define ns (row t ls)) ds) = (Unnamed ns × (same_row t rows.Producers ≡ false)) × LeavesUnnamed ls × DefsUnnamed ds

abbrev pub ScopeUnnamed : Scope → Type 0
ScopeUnnamed (scope_of k id label ds) = (id ≡ None) × (label ≡ None) × DefsUnnamed ds

-- The component of the text has numerals alone and no names, and with these as indices it is the one of the binary.
pub record IsSource (source binary : Scope) : Type 0 where
  pub numerals : IsResolved source
  pub nameless : ScopeUnnamed source
  pub same : (e : Encoding) → binary_of e source ≡ binary
