-- What reading rows that may hold scopes answers, and those scopes.
use Rattle.std.specs.Prelude.{ℕ, List, Option, Some, None, Result}
use Rattle.std.proofs.Common.{Bor}
use Rattle.comp_model.specs.declared.row.Row.TheVariants as rows
use Rattle.comp_model.specs.declared.row.Row.{Row}
use Rattle.comp_model.specs.Model as m
use Rattle.comp_model.specs.declared.row.ScopeKind.TheVariants as kinds
use Rattle.comp_model.specs.declared.row.ScopeKind.{ScopeKind}
use Rattle.comp_wire.specs.Table as t
use Rattle.comp_wire.specs.Table.{Family}
use Rattle.comp_wire.specs.Spelled.{spell_leaf, FitsLeaf, spell_node, FitsNode, spell_nodes}
use Rattle.wire_tree.specs.Model.{leaf_of}
use Rattle.wire_tree.specs.Lists.{node_of, nodes_listed}
use Rattle.wire_tree.specs.declared.tree.Leaf.{Leaf}
use Rattle.wire_tree.specs.declared.tree.Node.{Node}
use Rattle.wire_read.specs.Place.{Place}
use Rattle.wire_read.specs.Within.{WithinLeaf, WithinNode, WithinNodes}
use Rattle.wire_read.specs.Stops.{DeepOutcome}
use Rattle.wire_read.specs.Deep.{ScopeDeep, RowsDeep}
use Rattle.wire_read.specs.Nodes.{FitsMany}
use Rattle.wire_read.specs.declared.stop.Stop.{Stop}

-- the row of a type that holds a scope, and the byte in front of that scope
abbrev pub type_row : ScopeKind → Row
type_row kinds.ComponentType = rows.ComponentType
type_row kinds.InstanceType = rows.InstanceType
type_row kinds.ModuleType = rows.ModuleType
type_row kinds.Component = rows.Component

abbrev pub type_byte : ScopeKind → ℕ
type_byte kinds.ComponentType = 0x41
type_byte kinds.InstanceType = 0x42
type_byte kinds.ModuleType = 0x50
type_byte kinds.Component = 0

-- the byte in front of that, where the type is a declaration
abbrev pub scope_lead : Family → ScopeKind → Option ℕ
scope_lead t.component_declarations kinds.ModuleType = Some 0x00
scope_lead t.component_declarations k = Some 0x01
scope_lead t.instance_declarations kinds.ModuleType = Some 0x00
scope_lead t.instance_declarations k = Some 0x01
scope_lead t.module_declarations k = Some 0x01
scope_lead f k = None

abbrev pub OutcomeScope : ScopeKind → ℕ → Place → Place → Result Leaf Stop → Type 0
OutcomeScope k left old new r =
    DeepOutcome (ScopeDeep k left old) leaf_of (λ (x : m.Leaf). FitsLeaf x (t.type_scope k)) (λ x. WithinLeaf x left) (λ x. spell_leaf x (t.type_scope k)) old new r

abbrev pub OutcomeItem : Family → ℕ → Place → Place → Result Node Stop → Type 0
OutcomeItem f left old new r = DeepOutcome (RowsDeep f left old) node_of (λ (x : m.Node). FitsNode x f) (λ x. WithinNode x left) (λ x. spell_node x f) old new r

-- so many rows
abbrev pub OutcomeItems : ℕ → Family → ℕ → Place → Place → Result (Bor (List Node)) Stop → Type 0
OutcomeItems n f left old new r =
    DeepOutcome (RowsDeep f left old) (λ (p : Bor (List Node)). nodes_listed p.now) (FitsMany n f) (λ x. WithinNodes x left) (λ x. spell_nodes x f) old new r
