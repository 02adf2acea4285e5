-- The verdicts on the lines of the trees in definitions.
use Rattle.std.proofs.Common.{◌≡◌, ℕ, refl, sym, ap, ◌∙◌, true, List, [], ◌++◌, append-nil, Ok}
use Rattle.comp_model.specs.Model as m
use Rattle.comp_model.specs.Model.{Leaf, Leaves, no_leaf, ◌▸◌, Node, row, Nodes, no_node, one_node, Defs, no_def}
use Rattle.comp_wire.proofs.Groups.{and_both}
use Rattle.item_tree.specs.declared.tree.Tree.{Tree}
use Rattle.item_tree.specs.declared.tree.Item.{Item}
use Rattle.item_tree.specs.declared.tree.Item as i
use Rattle.item_tree.specs.declared.tree.ItemCoreType.{ItemCoreType}
use Rattle.item_tree.specs.declared.tree.ItemCoreType as core
use Rattle.item_tree.specs.declared.tree.ItemType.{ItemType}
use Rattle.item_tree.specs.declared.tree.ItemType as ty
use Rattle.item_tree.specs.Model.{item_row, core_type_row, type_row, defs_listed}
use Rattle.item_tree.proofs.Scopes.{component_item, component_type_item, instance_type_item, module_type_item}
use Rattle.comp_list.specs.Places.{row_leaves}
use Rattle.comp_list.proofs.Plain.{plain_leaf, plain_leaves, plain_nodes, plain_row}
use Rattle.comp_order.specs.declared.verdict.Verdict.{Verdict}
use Rattle.comp_order.specs.Order.{leaf_verdicts, leaves_verdicts, nodes_verdicts, defs_verdicts}
use Rattle.comp_order.specs.Pass.{pass}

mutual
  leaf_without : (l : Leaf) (befores : List Defs) → plain_leaf l ≡ true → leaf_verdicts l befores ≡ []
  leaf_without (m.scope s) befores e = cc
  leaf_without (m.present l) befores e = leaf_without l befores e
  leaf_without (m.node (row t ls)) befores e = leaves_without ls befores e
  leaf_without (m.nodes ns) befores e = nodes_without ns befores e
  leaf_without _ befores e = refl

  leaves_without : (ls : Leaves) (befores : List Defs) → plain_leaves ls ≡ true → leaves_verdicts ls befores ≡ []
  leaves_without no_leaf befores e = refl
  leaves_without (l ▸ ls) befores e = let tests = and_both (plain_leaf l) (plain_leaves ls) e in ap (λ q. q ++ leaves_verdicts ls befores) (leaf_without l befores tests.0) ∙ leaves_without ls befores tests.1

  nodes_without : (ns : Nodes) (befores : List Defs) → plain_nodes ns ≡ true → nodes_verdicts ns befores ≡ []
  nodes_without no_node befores e = refl
  nodes_without (one_node (row t ls) ns) befores e = let tests = and_both (plain_leaves ls) (plain_nodes ns) e in ap (λ q. q ++ nodes_verdicts ns befores) (leaves_without ls befores tests.0) ∙ nodes_without ns befores tests.1

pub nothing_passed : (n : Node) (befores : List Defs) (line : ℕ) → plain_row n ≡ true → Ok line ≡ pass line (leaves_verdicts (row_leaves n) befores)
nothing_passed (row t ls) befores line e = sym (ap (pass line) (leaves_without ls befores e))

-- the verdicts on the lines of a tree
abbrev pub tree_verdicts : List Item → List Defs → List Verdict
tree_verdicts xs befores = defs_verdicts (defs_listed xs) befores no_def

module _ (befores : List Defs) (x : Tree) where
  pub component_held : (y : Item) → y ≡ i.Component x → tree_verdicts x.defs befores ≡ leaves_verdicts (row_leaves (item_row y)) befores
  component_held y e = sym (ap (λ z. leaves_verdicts (row_leaves (item_row z)) befores) e ∙ ap (λ n. leaves_verdicts (row_leaves n) befores) (component_item x) ∙ append-nil (tree_verdicts x.defs befores))

  pub module_type_held : (y : ItemCoreType) → y ≡ core.Module x → tree_verdicts x.defs befores ≡ leaves_verdicts (row_leaves (core_type_row y)) befores
  module_type_held y e = sym (ap (λ z. leaves_verdicts (row_leaves (core_type_row z)) befores) e ∙ ap (λ n. leaves_verdicts (row_leaves n) befores) (module_type_item x) ∙ append-nil (tree_verdicts x.defs befores))

  pub component_type_held : (y : ItemType) → y ≡ ty.Component x → tree_verdicts x.defs befores ≡ leaves_verdicts (row_leaves (type_row y)) befores
  component_type_held y e = sym (ap (λ z. leaves_verdicts (row_leaves (type_row z)) befores) e ∙ ap (λ n. leaves_verdicts (row_leaves n) befores) (component_type_item x) ∙ append-nil (tree_verdicts x.defs befores))

  pub instance_type_held : (y : ItemType) → y ≡ ty.Instance x → tree_verdicts x.defs befores ≡ leaves_verdicts (row_leaves (type_row y)) befores
  instance_type_held y e = sym (ap (λ z. leaves_verdicts (row_leaves (type_row z)) befores) e ∙ ap (λ n. leaves_verdicts (row_leaves n) befores) (instance_type_item x) ∙ append-nil (tree_verdicts x.defs befores))
