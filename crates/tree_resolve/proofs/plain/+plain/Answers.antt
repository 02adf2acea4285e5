use Rattle.std.proofs.Common.{sym, ap, subst, ◌∙◌, ◌+◌, ◌∷◌, drop}
use Rattle.std.proofs.lemmas.List.{drop_more}
use Rattle.std.proofs.Math.ListN.{drop_of_length-le}
use Rattle.comp_tree.specs.Lists.{listed, nodes_listed}
use Rattle.comp_tree.specs.Model.{leaf_of}
use Rattle.comp_tree.proofs.Leaves.{leaf_present, leaf_node, leaf_nodes}
use Rattle.tree_resolve.specs.Plain.{Plain, PlainLeaf, PlainNodes}
use Rattle.tree_resolve.proofs.StaysPlain.{plain-more, plain-node-more}
use Rattle.tree_resolve.proofs.plain.+plain.Goals as goal

pub is_plain_leaf-returns-in-CoreValue : goal.is_plain_leaf-returns-in-CoreValue
is_plain_leaf-returns-in-CoreValue t c = λ q C. subst PlainLeaf (sym (ap (leaf_of C) c.in-CoreValue.is)) (c.is_plain_value.ensures q)

pub is_plain_leaf-returns-in-CaseId : goal.is_plain_leaf-returns-in-CaseId
is_plain_leaf-returns-in-CaseId t c = λ q C. subst PlainLeaf (sym (ap (leaf_of C) c.in-CaseId.is)) (c.is_plain_case.ensures q)

pub is_plain_leaf-returns-in-Present : goal.is_plain_leaf-returns-in-Present
is_plain_leaf-returns-in-Present t c = λ q C. subst PlainLeaf (sym (ap (leaf_of C) c.in-Present.is ∙ leaf_present C c.in-Present.part)) (c.is_plain_leaf.ensures q C)

pub is_plain_leaf-returns-in-Node : goal.is_plain_leaf-returns-in-Node
is_plain_leaf-returns-in-Node t c = λ q C. subst PlainLeaf (sym (ap (leaf_of C) c.in-Node.is ∙ leaf_node C c.in-Node.node)) (c.is_plain.ensures q C)

pub is_plain_leaf-returns-in-Nodes : goal.is_plain_leaf-returns-in-Nodes
is_plain_leaf-returns-in-Nodes t c = λ q C. subst PlainLeaf (sym (ap (leaf_of C) c.in-Nodes.is ∙ leaf_nodes C c.in-Nodes.nodes)) (c.are_plain.ensures q C)

pub is_plain-loop-leaf-preserved : goal.is_plain-loop-leaf-preserved
is_plain-loop-leaf-preserved t c = λ C h.
    c.loop-leaf.invariant C (plain-more C c.args.leaves.now c.loop-leaf.leaf-index _ (drop_more c.args.leaves.now c.loop-leaf.leaf-index _ c.loop-leaf-test.true ∙ ap (λ z. z ∷ drop (c.loop-leaf.leaf-index + 1) c.args.leaves.now) (sym c.leaf-item.is)) (c.is_plain_leaf.ensures c.if-not-is_plain_leaf.false C) h)

pub is_plain-returns : goal.is_plain-returns
is_plain-returns t c = λ e C. c.loop-leaf.invariant C (subst (λ z. Plain (listed C z)) (sym (drop_of_length-le c.args.leaves.now c.loop-leaf-test.false)) tt)

pub are_plain-loop-node-preserved : goal.are_plain-loop-node-preserved
are_plain-loop-node-preserved t c = λ C h.
    c.loop-node.invariant C (plain-node-more C c.args.nodes.now c.loop-node.node-index _ (drop_more c.args.nodes.now c.loop-node.node-index _ c.loop-node-test.true) (c.is_plain.ensures c.if-not-is_plain.false C) h)

pub are_plain-returns : goal.are_plain-returns
are_plain-returns t c = λ e C. c.loop-node.invariant C (subst (λ z. PlainNodes (nodes_listed C z)) (sym (drop_of_length-le c.args.nodes.now c.loop-node-test.false)) tt)
