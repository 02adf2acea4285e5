use Rattle.std.proofs.Common.{sym, ap, ◌∙◌}
use Rattle.comp_tree.specs.Lists.{listed, nodes_listed}
use Rattle.comp_tree.specs.Model.{leaf_of}
use Rattle.comp_tree.proofs.Leaves.{leaf_node, leaf_nodes, leaf_inline, leaf_bundle}
use Rattle.tree_expand.specs.Numbering.{inlines, inlines_leaf, inlines_nodes}
use Rattle.tree_expand.proofs.Flags.{core_inlines, or_later, there}
use Rattle.tree_expand.proofs.inlines.+inlining.Goals as goal

pub leaf_inlines-returns-in-Node : goal.leaf_inlines-returns-in-Node
leaf_inlines-returns-in-Node t c = λ C. c.leaves_inline.ensures C ∙ sym (ap inlines_leaf (ap (leaf_of C) c.in-Node.is ∙ leaf_node C c.in-Node.node))

pub leaf_inlines-returns-in-Nodes : goal.leaf_inlines-returns-in-Nodes
leaf_inlines-returns-in-Nodes t c = λ C. c.nodes_inline.ensures C ∙ sym (ap inlines_leaf (ap (leaf_of C) c.in-Nodes.is ∙ leaf_nodes C c.in-Nodes.nodes))

pub leaf_inlines-returns-else-is_shared : goal.leaf_inlines-returns-else-is_shared
leaf_inlines-returns-else-is_shared t c = λ C. or_later _ _ _ (sym c.is_shared.ensures ∙ c.if-is_shared.false) (c.leaves_inline-in-Inline.ensures C) ∙ sym (ap inlines_leaf (ap (leaf_of C) c.in-Inline.is ∙ leaf_inline C c.in-Inline.field-0 c.in-Inline.node))

pub leaf_inlines-returns-in-Bundle : goal.leaf_inlines-returns-in-Bundle
leaf_inlines-returns-in-Bundle t c = λ C. c.leaves_inline-in-Bundle.ensures C ∙ sym (ap inlines_leaf (ap (leaf_of C) c.in-Bundle.is ∙ leaf_bundle C c.in-Bundle.field-0 c.in-Bundle.node))

pub leaf_inlines-returns-in-Core : goal.leaf_inlines-returns-in-Core
leaf_inlines-returns-in-Core t c = λ C. core_inlines C c.in-Core.field-0 c.args.leaf.now c.in-Core.is

pub leaves_inline-returns-then-leaf_inlines : goal.leaves_inline-returns-then-leaf_inlines
leaves_inline-returns-then-leaf_inlines t c = λ C. there (λ xs. inlines (listed C xs)) (λ x. inlines_leaf (leaf_of C x)) (λ x xs. Rattle.std.proofs.Common.refl) c.args.leaves.now c.loop-leaf.leaf-index c.leaf-item.result c.loop-leaf-test.true (sym c.if-leaf_inlines.true ∙ c.leaf_inlines.ensures C ∙ ap (λ q. inlines_leaf (leaf_of C q)) c.leaf-item.is) (c.loop-leaf.invariant C)

pub nodes_inline-returns-then-leaves_inline : goal.nodes_inline-returns-then-leaves_inline
nodes_inline-returns-then-leaves_inline t c = λ C. there (λ xs. inlines_nodes (nodes_listed C xs)) (λ x. inlines (listed C x.leaves.now)) (λ x xs. Rattle.std.proofs.Common.refl) c.args.nodes.now c.loop-node.node-index _ c.loop-node-test.true (sym c.if-leaves_inline.true ∙ c.leaves_inline.ensures C) (c.loop-node.invariant C)
