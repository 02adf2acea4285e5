use Rattle.std.proofs.Common.{◌∙◌, refl}
use Rattle.wire_tree.specs.Lists.{listed, defs_listed}
use Rattle.wire_tree.specs.Model.{leaf_of}
use Rattle.wire_tree.specs.declared.tree.Leaf.{Leaf}
use Rattle.wire_tree.specs.declared.tree.Node.{Node}
use Rattle.print_table.specs.HasText.{leaf_has_bytes, leaves_have_bytes, definitions_have_bytes}
use Rattle.tree_print.proofs.TreeBytes.{turn, turn_item, ends, scope_bytes}
use Rattle.tree_print.proofs.text_bytes.+texts.Goals as goal

pub leaf_is_bytes-returns-in-Scope : goal.leaf_is_bytes-returns-in-Scope
leaf_is_bytes-returns-in-Scope t c = scope_bytes c.args.leaf.now c.in-Scope.scope c.in-Scope.is ∙ c.definitions_are_bytes.ensures

pub leaves_are_bytes-loop-leaf-preserved : goal.leaves_are_bytes-loop-leaf-preserved
leaves_are_bytes-loop-leaf-preserved t c =
    turn_item (λ xs. leaves_have_bytes (listed xs)) (λ (x : Leaf). leaf_has_bytes (leaf_of x)) refl (λ x xs. refl) c.args.leaves.now c.loop-leaf.leaf-index c.leaf-item.result _ c.loop-leaf-test.true c.leaf-item.is c.leaf_is_bytes.ensures c.loop-leaf.invariant

pub leaves_are_bytes-returns : goal.leaves_are_bytes-returns
leaves_are_bytes-returns t c =
    ends (λ xs. leaves_have_bytes (listed xs)) (λ (x : Leaf). leaf_has_bytes (leaf_of x)) refl (λ x xs. refl) c.args.leaves.now c.loop-leaf.leaf-index _ c.loop-leaf-test.false c.loop-leaf.invariant

pub definitions_are_bytes-loop-node-preserved : goal.definitions_are_bytes-loop-node-preserved
definitions_are_bytes-loop-node-preserved t c =
    turn (λ ns. definitions_have_bytes (defs_listed ns)) (λ (n : Node). leaves_have_bytes (listed n.leaves.now)) refl (λ n ns. refl) c.args.defs.now c.loop-node.node-index _ _ c.loop-node-test.true c.leaves_are_bytes.ensures c.loop-node.invariant

pub definitions_are_bytes-returns : goal.definitions_are_bytes-returns
definitions_are_bytes-returns t c =
    ends (λ ns. definitions_have_bytes (defs_listed ns)) (λ (n : Node). leaves_have_bytes (listed n.leaves.now)) refl (λ n ns. refl) c.args.defs.now c.loop-node.node-index _ c.loop-node-test.false c.loop-node.invariant
