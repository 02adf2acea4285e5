-- What the bound of a form takes of a scope: numerals below 2 ^ 32, no index of the binary, and the own names of what a definition holds
-- weighed with that definition.
use Rattle.std.specs.Prelude.{ℕ, ◌+◌, ◌≤◌, Option, IsTrue, ⊤}
use Rattle.comp_model.specs.declared.row.Row.TheVariants as rows
use Rattle.comp_model.specs.RowNumbers.{same_row}
use Rattle.comp_model.specs.Core.{Text, Id, CoreValue, ref_index, ref_numeral}
use Rattle.comp_model.specs.Model.{Leaf, number, core_value, ref, place, present, node, nodes, result_count, core_source, module_bytes, scope, index, numeral, path, inline, bundle, Leaves, no_leaf, ◌▸◌, row, Nodes, no_node, one_node, define, Defs, no_def, one_def, scope_of}
use Rattle.comp_model.specs.declared.row.ScopeKind.{ScopeKind}
use Rattle.comp_model.specs.declared.row.ScopeKind.TheVariants as kinds
use Rattle.comp_model.specs.Weight.{weight_of_label, weight_of_id, weight_of_names}
use Rattle.comp_wire.specs.Sections.{Word}
use Rattle.comp_scopes.specs.Rowed.{Textual}
use Rattle.core_model.specs.Words.{FieldsWord}
use Rattle.comp_weight.specs.Numerals.{NumeralPath, NumeralPlace}

-- the lengths of the own id and label of a component, which alone has a name section
abbrev pub own_length : ScopeKind → Option Id → Option Text → ℕ
own_length kinds.Component id label = weight_of_id id + weight_of_label label
own_length kinds.ComponentType id label = 0
own_length kinds.InstanceType id label = 0
own_length kinds.ModuleType id label = 0

-- the lengths of the own names of the components and core modules that stand in leaves, definitions of inner scopes not entered
abbrev mutual
  pub held_names : Leaves → ℕ
  held_names no_leaf = 0
  held_names (l ▸ ls) = held_names_of l + held_names ls

  pub held_names_of : Leaf → ℕ
  held_names_of (ref s (inline (row t ls))) = held_names ls
  held_names_of (ref s (bundle (row t ls))) = held_names ls
  held_names_of (present l) = held_names_of l
  held_names_of (node (row t ls)) = held_names ls
  held_names_of (nodes ns) = held_names_in ns
  held_names_of (core_source c) = weight_of_id c.naming.id + weight_of_label c.naming.label
  held_names_of (scope (scope_of k id label ds)) = own_length k id label
  held_names_of _ = 0

  pub held_names_in : Nodes → ℕ
  held_names_in no_node = 0
  held_names_in (one_node (row t ls) ns) = held_names ls + held_names_in ns

-- numerals below 2 ^ 32, and no index of the binary
abbrev pub FairValue : CoreValue → Type 0
FairValue (ref_index b i) = ⊥
FairValue (ref_numeral b o n) = Word n
FairValue _ = ⊤

-- some leaf
abbrev pub HasLeaf : Leaves → Type 0
HasLeaf no_leaf = ⊥
HasLeaf (l ▸ ls) = ⊤

abbrev mutual
  pub FairLeaf : Leaf → Type 0
  FairLeaf (number n) = Word n
  FairLeaf (core_value v) = FairValue v
  FairLeaf (ref s (index i)) = ⊥
  FairLeaf (ref s (numeral o n)) = Word n
  FairLeaf (ref s (path p)) = NumeralPath p
  FairLeaf (ref s (inline (row t ls))) = FairLeaves ls
  FairLeaf (ref s (bundle (row t ls))) = FairLeaves ls
  FairLeaf (place p) = NumeralPlace p
  FairLeaf (present l) = FairLeaf l
  FairLeaf (node (row t ls)) = FairLeaves ls
  FairLeaf (nodes ns) = FairNodes ns
  FairLeaf (result_count n) = ⊥
  FairLeaf (core_source c) = FieldsWord c.fields
  FairLeaf (module_bytes bs) = ⊥
  FairLeaf (scope (scope_of k id label ds)) = FairDefs ds
  FairLeaf _ = ⊤

  pub FairLeaves : Leaves → Type 0
  FairLeaves no_leaf = ⊤
  FairLeaves (l ▸ ls) = FairLeaf l × FairLeaves ls

  pub FairNodes : Nodes → Type 0
  FairNodes no_node = ⊤
  FairNodes (one_node (row t ls) ns) = FairLeaves ls × FairNodes ns

  pub FairDefs : Defs → Type 0
  FairDefs no_def = ⊤
  FairDefs (one_def (define names (row t ls)) ds) = (held_names ls ≤ weight_of_names names) × (IsTrue (same_row t rows.Producers) → HasLeaf ls × Textual ls) × FairLeaves ls × FairDefs ds
