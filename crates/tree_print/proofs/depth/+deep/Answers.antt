use Rattle.std.proofs.Common.{◌∙◌, ap, sym}
use Rattle.wire_tree.specs.Lists.{listed, defs_listed}
use Rattle.wire_tree.specs.Model.{leaf_of}
use Rattle.wire_tree.specs.declared.tree.Leaf.{Leaf}
use Rattle.wire_tree.specs.declared.tree.Node.{Node}
use Rattle.print_table.specs.TextOf.{unnamed_leaf, unnamed_leaves, unnamed_defs}
use Rattle.print_table.specs.Depths.{some_deep, leaf_depths, leaves_depths, depths, definition_deep}
use Rattle.tree_print.proofs.Deep.{goes_on, stops, item_goes_on, item_stops, leaves_or, defs_or, scope_deep}
use Rattle.tree_print.proofs.depth.+deep.Goals as goal

pub leaf_is_deep-returns-in-Scope : goal.leaf_is_deep-returns-in-Scope
leaf_is_deep-returns-in-Scope t c = λ h.
    let d = c.args.depth in
    c.definitions_are_deep.ensures h ∙ sym (ap (λ (y : Leaf). some_deep (leaf_depths d (unnamed_leaf (leaf_of y)))) c.in-Scope.is ∙ scope_deep d c.in-Scope.scope.now)

pub leaves_are_deep-returns-then-leaf_is_deep : goal.leaves_are_deep-returns-then-leaf_is_deep
leaves_are_deep-returns-then-leaf_is_deep t c = λ h.
    let d = c.args.depth in
    item_stops (λ xs. some_deep (leaves_depths d (unnamed_leaves (listed xs)))) (λ (x : Leaf). some_deep (leaf_depths d (unnamed_leaf (leaf_of x)))) (leaves_or d) c.args.leaves.now c.loop-leaf.leaf-index c.leaf-item.result _ c.loop-leaf-test.true c.leaf-item.is (c.if-leaf_is_deep.ensures h) (c.loop-leaf.invariant h)

pub leaves_are_deep-loop-leaf-preserved : goal.leaves_are_deep-loop-leaf-preserved
leaves_are_deep-loop-leaf-preserved t c = λ h.
    let d = c.args.depth in
    item_goes_on (λ xs. some_deep (leaves_depths d (unnamed_leaves (listed xs)))) (λ (x : Leaf). some_deep (leaf_depths d (unnamed_leaf (leaf_of x)))) (leaves_or d) c.args.leaves.now c.loop-leaf.leaf-index c.leaf-item.result _ c.loop-leaf-test.true c.leaf-item.is (c.if-leaf_is_deep.ensures h) (c.loop-leaf.invariant h)

pub definitions_are_deep-returns-then-definition_is_deep : goal.definitions_are_deep-returns-then-definition_is_deep
definitions_are_deep-returns-then-definition_is_deep t c = λ h.
    let d = c.args.depth in
    stops (λ ns. some_deep (depths d (unnamed_defs (defs_listed ns)))) (λ (n : Node). definition_deep d n.row (listed n.leaves.now)) (defs_or d) c.args.defs.now c.loop-node.node-index _ _ c.loop-node-test.true (c.if-definition_is_deep.ensures h) (c.loop-node.invariant h)

pub definitions_are_deep-loop-node-preserved : goal.definitions_are_deep-loop-node-preserved
definitions_are_deep-loop-node-preserved t c = λ h.
    let d = c.args.depth in
    goes_on (λ ns. some_deep (depths d (unnamed_defs (defs_listed ns)))) (λ (n : Node). definition_deep d n.row (listed n.leaves.now)) (defs_or d) c.args.defs.now c.loop-node.node-index _ _ c.loop-node-test.true (c.if-definition_is_deep.ensures h) (c.loop-node.invariant h)
