use Rattle.std.proofs.Common.{◌+◌, ◌∙◌, ap, sym, refl}
use Rattle.comp_model.specs.Weight.{weight_of_leaf, weight_of_leaves, weight_of_nodes, weight_of_defs}
use Rattle.wire_tree.specs.Lists.{listed, nodes_listed, defs_listed}
use Rattle.wire_tree.specs.Model.{leaf_of}
use Rattle.wire_tree.specs.declared.tree.Leaf.{Leaf}
use Rattle.wire_tree.specs.declared.tree.Node.{Node}
use Rattle.tree_print.specs.Taken.{capped}
use Rattle.tree_print.specs.Weights.{row_weight}
use Rattle.tree_print.proofs.Sums.{sum_of, turn, turn_item, ends, plain_defs_more, node_weighs, nodes_weigh, scope_weighs}
use Rattle.tree_print.proofs.weight.+weighing.Goals as goal

pub leaf_weight-returns-in-Node : goal.leaf_weight-returns-in-Node
leaf_weight-returns-in-Node t c = λ f. sum_of 32 _ _ _ (c.row_weight.ensures f) c.both-in-Node.ensures.sum ∙ ap capped (sym (node_weighs f c.args.leaf.now c.in-Node.node c.in-Node.is))

pub leaf_weight-returns-in-Nodes : goal.leaf_weight-returns-in-Nodes
leaf_weight-returns-in-Nodes t c = λ f. sum_of 32 _ _ _ (c.nodes_weight.ensures f) c.both-in-Nodes.ensures.sum ∙ ap capped (sym (nodes_weigh f c.args.leaf.now c.in-Nodes.nodes c.in-Nodes.is))

pub leaf_weight-returns-in-Scope : goal.leaf_weight-returns-in-Scope
leaf_weight-returns-in-Scope t c = λ f. sum_of 64 _ _ _ (c.defs_weight.ensures f) c.both-in-Scope.ensures.sum ∙ ap capped (sym (scope_weighs f c.args.leaf.now c.in-Scope.scope c.in-Scope.is))

pub row_weight-returns : goal.row_weight-returns
row_weight-returns t c = λ f. sum_of 32 (weight_of_leaves f (listed c.args.node.now.leaves.now)) _ _ (c.leaves_weight.ensures f) c.both.ensures.sum

pub leaves_weight-loop-leaf-preserved : goal.leaves_weight-loop-leaf-preserved
leaves_weight-loop-leaf-preserved t c = (
  c.both-weight.ensures.small,
  λ f.
      turn_item (λ xs. weight_of_leaves f (listed xs)) (λ (x : Leaf). weight_of_leaf f (leaf_of x)) refl (λ x xs. refl) c.args.leaves.now c.loop-leaf.leaf-index c.leaf-item.result c.loop-leaf.weight c.leaf_weight.result _ _ c.loop-leaf-test.true c.leaf-item.is (c.leaf_weight.ensures f) c.both-weight.ensures.sum (c.loop-leaf.invariant.1 f),
)

pub leaves_weight-returns : goal.leaves_weight-returns
leaves_weight-returns t c = λ f.
    ends (λ xs. weight_of_leaves f (listed xs)) (λ (x : Leaf). weight_of_leaf f (leaf_of x)) refl (λ x xs. refl) c.args.leaves.now c.loop-leaf.leaf-index c.loop-leaf.weight c.loop-leaf-test.false c.loop-leaf.invariant.0 (c.loop-leaf.invariant.1 f)

pub nodes_weight-loop-node-preserved : goal.nodes_weight-loop-node-preserved
nodes_weight-loop-node-preserved t c = (
  c.both-weight.ensures.small,
  λ f.
      turn (λ xs. weight_of_nodes f (nodes_listed xs)) (λ (n : Node). row_weight f (listed n.leaves.now)) refl (λ x xs. refl) c.args.nodes.now c.loop-node.node-index _ c.loop-node.weight c.row_weight.result _ _ c.loop-node-test.true (c.row_weight.ensures f) c.both-weight.ensures.sum (c.loop-node.invariant.1 f),
)

pub nodes_weight-returns : goal.nodes_weight-returns
nodes_weight-returns t c = λ f.
    ends (λ xs. weight_of_nodes f (nodes_listed xs)) (λ (n : Node). row_weight f (listed n.leaves.now)) refl (λ x xs. refl) c.args.nodes.now c.loop-node.node-index c.loop-node.weight c.loop-node-test.false c.loop-node.invariant.0 (c.loop-node.invariant.1 f)

pub defs_weight-loop-node-preserved : goal.defs_weight-loop-node-preserved
defs_weight-loop-node-preserved t c = (
  c.both-weight.ensures.small,
  λ f.
      turn (λ xs. weight_of_defs f (defs_listed xs)) (λ (n : Node). 32 + row_weight f (listed n.leaves.now)) refl (plain_defs_more f) c.args.defs.now c.loop-node.node-index _ c.loop-node.weight c.both.result _ _ c.loop-node-test.true (sum_of 32 _ _ _ (c.row_weight.ensures f) c.both.ensures.sum) c.both-weight.ensures.sum (c.loop-node.invariant.1 f),
)

pub defs_weight-returns : goal.defs_weight-returns
defs_weight-returns t c = λ f.
    ends (λ xs. weight_of_defs f (defs_listed xs)) (λ (n : Node). 32 + row_weight f (listed n.leaves.now)) refl (plain_defs_more f) c.args.defs.now c.loop-node.node-index c.loop-node.weight c.loop-node-test.false c.loop-node.invariant.0 (c.loop-node.invariant.1 f)
