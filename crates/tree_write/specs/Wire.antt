-- What a resolved tree stands for in binary, part by part.
use Rattle.std.specs.Prelude.{ℕ, Bool, List, [], ◌∷◌, ◌++◌}
use Rattle.core_model.specs.Rule.{core_rule}
use Rattle.core_model.specs.Module.{core_bytes}
use Rattle.comp_model.specs.Core as core
use Rattle.comp_model.specs.CoreModules.{CoreModule}
use Rattle.comp_model.specs.Model as m
use Rattle.comp_model.specs.declared.row.ScopeKind.TheVariants as kinds
use Rattle.comp_model.specs.Payloads.{name_payload}
use Rattle.comp_scopes.specs.Encoding.{Encoding}
use Rattle.comp_scopes.specs.Form.{coded_node}
use Rattle.comp_scopes.specs.Resolved.{binary_of_leaf, binary_of_leaves, binary_of_nodes, binary_of, list_names}
use Rattle.comp_wire.specs.Sections.{Item}
use Rattle.comp_wire.specs.Spelled.{item_of_node, spell_node, FitsNode, FitsItem}
use Rattle.comp_wire.specs.Table as t
use Rattle.comp_wire.specs.Table.{Family}
use Rattle.comp_tree.specs.Model.{leaf_of, scope_of, reach_of, id_of}
use Rattle.comp_tree.specs.Lists.{listed, nodes_listed}
use Rattle.comp_tree.specs.declared.tree.CoreValue.{CoreValue}
use Rattle.comp_tree.specs.declared.tree.CoreValue.TheVariants as values
use Rattle.comp_tree.specs.declared.tree.Def.{Def}
use Rattle.comp_tree.specs.declared.tree.Leaf.{Leaf}
use Rattle.comp_tree.specs.declared.tree.Node.{Node}
use Rattle.comp_tree.specs.declared.tree.Scope.{Scope}
use Rattle.wast_parser.specs.declared.index.Index.{Index}
use Rattle.wast_parser.specs.declared.index.Index.TheVariants.{Num, Id}

-- the rule and the bytes of core modules
abbrev pub the_encoding : Encoding
the_encoding = record { core_refusal = λ c. core_rule c.fields; core_bytes = core_bytes }

abbrev pub wire_reference : Bool → core.Reach → Index → core.CoreValue
wire_reference nullable r (Num n span) = core.ref_index nullable n
wire_reference nullable r (Id x) = core.ref_name nullable r (id_of x)

abbrev pub wire_value : CoreValue → core.CoreValue
wire_value values.I32 = core.i32
wire_value values.I64 = core.i64
wire_value values.F32 = core.f32
wire_value values.F64 = core.f64
wire_value values.V128 = core.v128
wire_value (values.RefFunc b) = core.ref_func b
wire_value (values.RefExtern b) = core.ref_extern b
wire_value (values.RefConcrete b t) = wire_reference b (reach_of t.now.reach) t.now.index
wire_value values.Other = core.other_value

module _ (cores : List CoreModule) where
  abbrev pub wire_leaf : Leaf → m.Leaf
  wire_leaf x = binary_of_leaf the_encoding (leaf_of cores x)

  abbrev pub wire_leaves : List Leaf → m.Leaves
  wire_leaves xs = binary_of_leaves the_encoding (listed cores xs)

  -- a node in another, not a definition
  abbrev pub wire_node : Node → m.Node
  wire_node n = m.row n.row (wire_leaves n.leaves.now)

  abbrev pub wire_nodes : List Node → m.Nodes
  wire_nodes ns = binary_of_nodes the_encoding (nodes_listed cores ns)

  -- a definition, and those of a list; a scope
  abbrev pub wire_node_of_def : Node → m.Node
  wire_node_of_def n = coded_node the_encoding n.row (listed cores n.leaves.now) (wire_leaves n.leaves.now)

  abbrev pub wire_items : List Def → List Item
  wire_items [] = []
  wire_items (d ∷ ds) = item_of_node (wire_node_of_def d.node) ∷ wire_items ds

  abbrev pub wire_declarations : List Def → Family → List ℕ
  wire_declarations [] f = []
  wire_declarations (d ∷ ds) f = spell_node (wire_node_of_def d.node) f ++ wire_declarations ds f

  abbrev pub wire_scope : Scope → m.Scope
  wire_scope s = binary_of the_encoding (scope_of cores s)

  -- each definition fits its line
  abbrev pub ItemsFit : List Def → Type 0
  ItemsFit [] = Unit {0}
  ItemsFit (d ∷ ds) = FitsItem (wire_node_of_def d.node) × ItemsFit ds

  abbrev pub DeclarationsFit : List Def → Family → Type 0
  DeclarationsFit [] f = Unit {0}
  DeclarationsFit (d ∷ ds) f = FitsNode (wire_node_of_def d.node) f × DeclarationsFit ds f

-- what a field asks of its leaf; the fields in which every leaf can be written ask nothing
abbrev pub Asked : t.Field → Type 0 → Type 0
Asked t.unsigned P = Unit {0}
Asked t.presence P = Unit {0}
Asked t.maximum P = Unit {0}
Asked t.outward P = Unit {0}
Asked t.any_index P = Unit {0}
Asked t.sort P = Unit {0}
Asked f P = P

-- what the name section of a scope holds; only a component has one
abbrev pub payload_of : m.Scope → List ℕ
payload_of (m.scope_of kinds.Component id label ds) = name_payload (list_names (m.scope_of kinds.Component id label ds))
payload_of (m.scope_of _ id label ds) = []
