-- The names of what is written: no more than there are parts, inline exports where the text format has them, and one id and label in a
-- definition and in what it holds (Component Model, text format).
use Rattle.std.specs.Prelude.{◌≡◌, ◌≤◌, Bool, true, false, List, [], ◌∷◌, length, Option, None, IsTrue, ⊤}
use Rattle.comp_model.specs.declared.Space.{Space}
use Rattle.comp_model.specs.declared.Space.TheVariants.{Func}
use Rattle.comp_model.specs.declared.row.Row.TheVariants as rows
use Rattle.comp_model.specs.declared.row.Row.{Row}
use Rattle.comp_model.specs.RowNumbers.{is_row}
use Rattle.comp_model.specs.Core.{Text, Id}
use Rattle.comp_model.specs.Model.{Leaf, kind, ref, present, node, nodes, result_ids, core_source, scope, inline, bundle, Leaves, no_leaf, ◌▸◌, row, Nodes, no_node, one_node, Names, define, Defs, no_def, one_def, Scope, scope_of}
use Rattle.comp_model.specs.declared.row.ScopeKind.{ScopeKind}
use Rattle.comp_model.specs.declared.row.ScopeKind.TheVariants as kinds
use Rattle.comp_model.specs.Spaces.{declares_row, same_space}
use Rattle.comp_model.specs.Rows.{types}
use Rattle.comp_model.specs.ItemNames.{first_or_none}

-- the alias of an export, where it is that of a function
abbrev pub aliases_func : Leaves → Bool
aliases_func (i ▸ x ▸ kind s ▸ no_leaf) = same_space s Func
aliases_func _ = false

-- an import that may stand for a definition of its own: of a core module, a function, a component or an instance
abbrev pub imports_item : Leaves → Bool
imports_item (x ▸ node (row t ls) ▸ no_leaf) = is_row t (rows.ModuleDescription ∷ rows.FuncDescription ∷ rows.ComponentDescription ∷ rows.InstanceDescription ∷ [])
imports_item _ = false

-- the five kinds of definition that may have inline exports, written out, imported or aliased: core modules, components, instances, types and functions
abbrev pub may_export : Row → Leaves → Bool
may_export rows.CoreModule ls = true
may_export rows.Component ls = true
may_export rows.Instantiate ls = true
may_export rows.Bundle ls = true
may_export rows.Lift ls = true
may_export rows.AliasExport ls = aliases_func ls
may_export rows.Import ls = imports_item ls
may_export t ls = is_row t types

-- they stand in components alone
abbrev pub ExportsFit : ScopeKind → Row → Leaves → List Text → Type 0
ExportsFit k t ls [] = ⊤
ExportsFit kinds.Component t ls (x ∷ xs) = IsTrue (may_export t ls)
ExportsFit _ t ls (x ∷ xs) = ⊥

-- an id and a label for each part at most
abbrev pub NamesBounded : Names → List Space → Type 0
NamesBounded names ss = (length names.ids ≤ length ss) × (length names.labels ≤ length ss)

-- a component has its definition's id and label, the scope of a type its id
abbrev pub HasNames : ScopeKind → Option Id → Option Text → Names → Type 0
HasNames kinds.Component id label names = (id ≡ first_or_none names.ids) × (label ≡ first_or_none names.labels)
HasNames _ id label names = (id ≡ first_or_none names.ids) × (label ≡ None)

-- what a definition of these names holds has the same ones: a start its results, a core module or a scope its own
abbrev pub LeafNamed : Names → Leaf → Type 0
LeafNamed names (result_ids ids) = names.ids ≡ ids
LeafNamed names (core_source c) = (c.naming.id ≡ first_or_none names.ids) × (c.naming.label ≡ first_or_none names.labels)
LeafNamed names (scope (scope_of k id label ds)) = HasNames k id label names
LeafNamed names _ = ⊤

abbrev pub LeavesNamed : Names → Leaves → Type 0
LeavesNamed names no_leaf = ⊤
LeavesNamed names (l ▸ ls) = LeafNamed names l × LeavesNamed names ls

-- the scope of a type that stands inside another definition has no name
abbrev pub Nameless : Leaves → Type 0
Nameless no_leaf = ⊤
Nameless (scope (scope_of k id label ds) ▸ ls) = (id ≡ None) × (label ≡ None) × Nameless ls
Nameless (l ▸ ls) = Nameless ls

-- of the scopes in parts
abbrev mutual
  pub LeafNamesFit : Leaf → Type 0
  LeafNamesFit (ref s (inline (row t ls))) = Nameless ls × LeavesNamesFit ls
  LeafNamesFit (ref s (bundle (row t ls))) = LeavesNamesFit ls
  LeafNamesFit (present l) = LeafNamesFit l
  LeafNamesFit (node (row t ls)) = LeavesNamesFit ls
  LeafNamesFit (nodes ns) = NodesNamesFit ns
  LeafNamesFit (scope (scope_of k id label ds)) = DefsNamesFit k ds
  LeafNamesFit _ = ⊤

  pub LeavesNamesFit : Leaves → Type 0
  LeavesNamesFit no_leaf = ⊤
  LeavesNamesFit (l ▸ ls) = LeafNamesFit l × LeavesNamesFit ls

  pub NodesNamesFit : Nodes → Type 0
  NodesNamesFit no_node = ⊤
  NodesNamesFit (one_node (row t ls) ns) = LeavesNamesFit ls × NodesNamesFit ns

  pub DefsNamesFit : ScopeKind → Defs → Type 0
  DefsNamesFit k no_def = ⊤
  DefsNamesFit k (one_def (define names (row t ls)) ds) =
      NamesBounded names (declares_row t ls) × ExportsFit k t ls names.exports × LeavesNamed names ls × LeavesNamesFit ls × DefsNamesFit k ds

-- the names of a written component fit
abbrev pub NamesFit : Scope → Type 0
NamesFit (scope_of k id label ds) = DefsNamesFit k ds
