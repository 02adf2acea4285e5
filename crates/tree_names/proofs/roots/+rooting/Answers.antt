use Rattle.std.proofs.Common.{sym, ap, ◌∙◌, ◌+◌, ◌∷◌, drop}
use Rattle.std.proofs.lemmas.List.{drop_more}
use Rattle.std.proofs.Math.ListN.{drop_of_length-le}
use Rattle.comp_tree.specs.Model.{leaf_of, id_of, reach_of}
use Rattle.comp_tree.proofs.Leaves.{leaf_present, leaf_node, leaf_nodes}
use Rattle.tree_names.proofs.Rooting.{same_roots, core_rooted, named_rooted, value_rooted, leaf_front, leaf_rooted, leaf_unrooted, leaves_rooted, node_front, node_rooted, node_unrooted, nodes_rooted}
use Rattle.tree_names.proofs.roots.+rooting.Goals as goal

pub check_leaf-returns-in-Present : goal.check_leaf-returns-in-Present
check_leaf-returns-in-Present t c = λ C. same_roots c.args.scopes.now _ _ _ _ _ (ap (leaf_of C) c.in-Present.is ∙ leaf_present C c.in-Present.part) (c.check_leaf.ensures C)

pub check_leaf-returns-in-Node : goal.check_leaf-returns-in-Node
check_leaf-returns-in-Node t c = λ C. same_roots c.args.scopes.now _ _ _ _ _ (ap (leaf_of C) c.in-Node.is ∙ leaf_node C c.in-Node.node) (c.check_leaves.ensures C)

pub check_leaf-returns-in-Nodes : goal.check_leaf-returns-in-Nodes
check_leaf-returns-in-Nodes t c = λ C. same_roots c.args.scopes.now _ _ _ _ _ (ap (leaf_of C) c.in-Nodes.is ∙ leaf_nodes C c.in-Nodes.nodes) (c.check_nodes.ensures C)

pub check_leaf-returns-in-CoreValue : goal.check_leaf-returns-in-CoreValue
check_leaf-returns-in-CoreValue t c = λ C. value_rooted c.args.scopes.now c.in-CoreValue.value _ _ _ (ap (leaf_of C) c.in-CoreValue.is) (c.pass_core_value.ensures c.args.scopes.now)

pub check_leaf-returns-in-Name : goal.check_leaf-returns-in-Name
check_leaf-returns-in-Name t c = λ C. named_rooted c.args.scopes.now c.in-Name.field-0 (reach_of c.in-Name.field-1.now) (id_of c.in-Name.field-2.now) _ _ _ (ap (leaf_of C) c.in-Name.is) (c.pass_name.ensures c.args.scopes.now c.in-Name.field-0 (reach_of c.in-Name.field-1.now) (id_of c.in-Name.field-2.now))

pub check_leaf-returns-in-Core : goal.check_leaf-returns-in-Core
check_leaf-returns-in-Core t c = λ C front. core_rooted c.args.scopes.now C _ _ _ (ap (leaf_of C) c.in-Core.is)

pub check_leaves-loop-leaf-preserved : goal.check_leaves-loop-leaf-preserved
check_leaves-loop-leaf-preserved t c = λ C front.
    let left = drop_more c.args.leaves.now c.loop-leaf.leaf-index _ c.loop-leaf-test.true ∙ ap (λ z. z ∷ drop (c.loop-leaf.leaf-index + 1) c.args.leaves.now) (sym c.leaf-item.is) in
    let so_far = c.loop-leaf.invariant C front in
    leaf_rooted c.args.scopes.now C _ _ _ c.args.leaves.now _ _ _ so_far left (c.in-Ok.ensures C (leaf_front c.args.scopes.now C _ _ c.args.leaves.now _ _ _ so_far left))

pub check_leaves-returns-in-Err : goal.check_leaves-returns-in-Err
check_leaves-returns-in-Err t c = λ C front.
    let left = drop_more c.args.leaves.now c.loop-leaf.leaf-index _ c.loop-leaf-test.true ∙ ap (λ z. z ∷ drop (c.loop-leaf.leaf-index + 1) c.args.leaves.now) (sym c.leaf-item.is) in
    let so_far = c.loop-leaf.invariant C front in
    leaf_unrooted c.args.scopes.now C _ _ c.args.leaves.now _ _ _ _ so_far left (c.in-Err.ensures C (leaf_front c.args.scopes.now C _ _ c.args.leaves.now _ _ _ so_far left))

pub check_leaves-returns : goal.check_leaves-returns
check_leaves-returns t c = λ C front. leaves_rooted c.args.scopes.now C _ _ c.args.leaves.now _ (c.loop-leaf.invariant C front) (drop_of_length-le c.args.leaves.now c.loop-leaf-test.false)

pub check_nodes-loop-node-preserved : goal.check_nodes-loop-node-preserved
check_nodes-loop-node-preserved t c = λ C front.
    let left = drop_more c.args.nodes.now c.loop-node.node-index _ c.loop-node-test.true in
    let so_far = c.loop-node.invariant C front in
    node_rooted c.args.scopes.now C _ _ _ c.args.nodes.now _ _ _ so_far left (c.in-Ok.ensures C (node_front c.args.scopes.now C _ _ c.args.nodes.now _ _ _ so_far left))

pub check_nodes-returns-in-Err : goal.check_nodes-returns-in-Err
check_nodes-returns-in-Err t c = λ C front.
    let left = drop_more c.args.nodes.now c.loop-node.node-index _ c.loop-node-test.true in
    let so_far = c.loop-node.invariant C front in
    node_unrooted c.args.scopes.now C _ _ c.args.nodes.now _ _ _ _ so_far left (c.in-Err.ensures C (node_front c.args.scopes.now C _ _ c.args.nodes.now _ _ _ so_far left))

pub check_nodes-returns : goal.check_nodes-returns
check_nodes-returns t c = λ C front. nodes_rooted c.args.scopes.now C _ _ c.args.nodes.now _ (c.loop-node.invariant C front) (drop_of_length-le c.args.nodes.now c.loop-node-test.false)
