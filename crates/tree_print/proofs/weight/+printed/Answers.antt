use Rattle.std.proofs.Common.{◌∙◌, ap, sym, refl}
use Rattle.comp_model.specs.Weight.{weight_of_leaf, weight_of_leaves, weight_of_defs}
use Rattle.wire_tree.specs.Lists.{listed, defs_listed}
use Rattle.wire_tree.specs.Model.{leaf_of}
use Rattle.wire_tree.specs.declared.tree.Leaf.{Leaf}
use Rattle.wire_tree.specs.declared.tree.Node.{Node}
use Rattle.print_table.specs.TextOf.{unnamed_leaf, unnamed_leaves, unnamed_defs}
use Rattle.tree_print.specs.Taken.{capped}
use Rattle.tree_print.specs.Weights.{definition_weight}
use Rattle.tree_print.proofs.Sums.{sum_of, turn, turn_item, ends, defs_more, definition_of, printed_scope_weighs}
use Rattle.tree_print.proofs.weight.+printed.Goals as goal

pub printed_leaf-returns-in-Scope : goal.printed_leaf-returns-in-Scope
printed_leaf-returns-in-Scope t c = λ f. sum_of 64 _ _ _ (c.printed_defs.ensures f) c.both.ensures.sum ∙ ap capped (sym (printed_scope_weighs f c.args.leaf.now c.in-Scope.scope c.in-Scope.is))

pub printed_leaves-loop-leaf-preserved : goal.printed_leaves-loop-leaf-preserved
printed_leaves-loop-leaf-preserved t c = (
  c.both-weight.ensures.small,
  λ f.
      turn_item (λ xs. weight_of_leaves f (unnamed_leaves (listed xs))) (λ (x : Leaf). weight_of_leaf f (unnamed_leaf (leaf_of x))) refl (λ x xs. refl) c.args.leaves.now c.loop-leaf.leaf-index c.leaf-item.result c.loop-leaf.weight c.printed_leaf.result _ _ c.loop-leaf-test.true c.leaf-item.is (c.printed_leaf.ensures f) c.both-weight.ensures.sum (c.loop-leaf.invariant.1 f),
)

pub printed_leaves-returns : goal.printed_leaves-returns
printed_leaves-returns t c = λ f.
    ends (λ xs. weight_of_leaves f (unnamed_leaves (listed xs))) (λ (x : Leaf). weight_of_leaf f (unnamed_leaf (leaf_of x))) refl (λ x xs. refl) c.args.leaves.now c.loop-leaf.leaf-index c.loop-leaf.weight c.loop-leaf-test.false c.loop-leaf.invariant.0 (c.loop-leaf.invariant.1 f)

pub printed_def-returns : goal.printed_def-returns
printed_def-returns t c = λ f. definition_of f c.args.node.now.row (listed c.args.node.now.leaves.now) c.printed_leaves.result c.both.result c.if-is_name_section.ensures (c.printed_leaves.ensures f) c.both.ensures.sum

pub printed_defs-loop-node-preserved : goal.printed_defs-loop-node-preserved
printed_defs-loop-node-preserved t c = (
  c.both-weight.ensures.small,
  λ f.
      turn (λ xs. weight_of_defs f (unnamed_defs (defs_listed xs))) (λ (n : Node). definition_weight f n.row (listed n.leaves.now)) refl (defs_more f) c.args.defs.now c.loop-node.node-index _ c.loop-node.weight c.printed_def.result _ _ c.loop-node-test.true (c.printed_def.ensures f) c.both-weight.ensures.sum (c.loop-node.invariant.1 f),
)

pub printed_defs-returns : goal.printed_defs-returns
printed_defs-returns t c = λ f.
    ends (λ xs. weight_of_defs f (unnamed_defs (defs_listed xs))) (λ (n : Node). definition_weight f n.row (listed n.leaves.now)) refl (defs_more f) c.args.defs.now c.loop-node.node-index c.loop-node.weight c.loop-node-test.false c.loop-node.invariant.0 (c.loop-node.invariant.1 f)
