use Rattle.std.proofs.Common.{arith, sym, ap, ◌∙◌, ◌+◌, ◌∷◌, [], drop}
use Rattle.std.proofs.lemmas.List.{drop_more}
use Rattle.std.proofs.Math.ListN.{drop_of_length-le}
use Rattle.comp_tree.specs.Lists.{listed, nodes_listed}
use Rattle.comp_tree.specs.Model.{leaf_of}
use Rattle.comp_tree.proofs.Leaves.{leaf_present, leaf_node, leaf_nodes}
use Rattle.tree_names.specs.AllFound.{all_found, nodes_found}
use Rattle.tree_names.proofs.Fronts.{leaf_kept, leaves_kept, node_kept, nodes_kept, same_kept, core_kept}
use Rattle.tree_names.proofs.Counting.{same_leaf, core_counted, leaves_step, leaves_refused, leaves_end, nodes_step, nodes_refused, nodes_end}
use Rattle.tree_names.proofs.ReadyParts.{leaf_expanded_at, node_expanded_at, present_expanded, node_expanded, nodes_expanded}
use Rattle.tree_names.proofs.Room.{sums_present, sums_node, sums_nodes, sums_first, sums_then, sums_first_node, sums_then_node}
use Rattle.tree_names.proofs.Sizes.{present_below, node_below, nodes_below, leaf_below, leaves_fall}
use Rattle.tree_names.proofs.count.+counting.Goals as goal

pub count_leaf-count_leaf-requires : goal.count_leaf-count_leaf-requires
count_leaf-count_leaf-requires t c =
    let less = present_below c.args.leaf.now c.in-Present.part c.in-Present.is in
    (omega (arith, less, c.decreases), (c.requires.few, (c.requires.sized, ((c.requires.expanded.0, present_expanded c.requires.expanded.0 c.args.leaf.now c.in-Present.part c.in-Present.is c.requires.expanded.1), (c.requires.room.0, sums_present c.requires.room.0 c.args.leaf.now c.in-Present.part c.in-Present.is c.requires.room.1)))))

pub count_leaf-count_leaves-requires : goal.count_leaf-count_leaves-requires
count_leaf-count_leaves-requires t c =
    let less = node_below c.args.leaf.now c.in-Node.node c.in-Node.is in
    (omega (arith, less, c.decreases), (c.requires.few, (c.requires.sized, ((c.requires.expanded.0, node_expanded c.requires.expanded.0 c.args.leaf.now c.in-Node.node c.in-Node.is c.requires.expanded.1), (c.requires.room.0, sums_node c.requires.room.0 c.args.leaf.now c.in-Node.node c.in-Node.is c.requires.room.1)))))

pub count_leaf-count_nodes-requires : goal.count_leaf-count_nodes-requires
count_leaf-count_nodes-requires t c =
    let less = nodes_below c.args.leaf.now c.in-Nodes.nodes c.in-Nodes.is in
    (omega (arith, less, c.decreases), (c.requires.few, (c.requires.sized, ((c.requires.expanded.0, nodes_expanded c.requires.expanded.0 c.args.leaf.now c.in-Nodes.nodes c.in-Nodes.is c.requires.expanded.1), (c.requires.room.0, sums_nodes c.requires.room.0 c.args.leaf.now c.in-Nodes.nodes c.in-Nodes.is c.requires.room.1)))))

pub count_leaves-count_leaf-requires : goal.count_leaves-count_leaf-requires
count_leaves-count_leaf-requires t c =
    let less = leaf_below c.args.leaves.now c.loop-leaf.leaf-index c.leaf-item.result c.loop-leaf-test.true c.leaf-item.is in
    let left = drop_more c.args.leaves.now c.loop-leaf.leaf-index _ c.loop-leaf-test.true ∙ ap (λ z. z ∷ drop (c.loop-leaf.leaf-index + 1) c.args.leaves.now) (sym c.leaf-item.is) in (
      omega (arith, less, c.decreases),
      (
        c.requires.few,
        (
          c.loop-leaf.invariant.0,
          (
            (c.requires.expanded.0, leaf_expanded_at c.requires.expanded.0 c.args.leaves.now c.loop-leaf.leaf-index c.leaf-item.result c.requires.expanded.1 c.loop-leaf-test.true c.leaf-item.is),
            (c.requires.room.0, sums_first c.requires.room.0 _ _ c.leaf-item.result left (c.loop-leaf.invariant.3 c.requires.room.0 c.requires.room.1)),
          ),
        ),
      ),
    )

pub count_nodes-count_leaves-requires : goal.count_nodes-count_leaves-requires
count_nodes-count_leaves-requires t c = (
  leaves_fall c.args.nodes.now c.loop-node.node-index _ t c.decreases c.loop-node-test.true,
  (
    c.requires.few,
    (
      c.loop-node.invariant.0,
      (
        (c.requires.expanded.0, node_expanded_at c.requires.expanded.0 c.args.nodes.now c.loop-node.node-index _ c.requires.expanded.1 c.loop-node-test.true),
        (c.requires.room.0, sums_first_node c.requires.room.0 _ _ _ (drop_more c.args.nodes.now c.loop-node.node-index _ c.loop-node-test.true) (c.loop-node.invariant.3 c.requires.room.0 c.requires.room.1)),
      ),
    ),
  ),
)

pub count_leaf-returns-in-Present-clause-counted : goal.count_leaf-returns-in-Present-clause-counted
count_leaf-returns-in-Present-clause-counted t c = λ C. same_leaf _ _ _ _ _ _ (ap (leaf_of C) c.in-Present.is ∙ leaf_present C c.in-Present.part) (c.count_leaf.ensures.counted C)

pub count_leaf-returns-in-Node-clause-counted : goal.count_leaf-returns-in-Node-clause-counted
count_leaf-returns-in-Node-clause-counted t c = λ C. same_leaf _ _ _ _ _ _ (ap (leaf_of C) c.in-Node.is ∙ leaf_node C c.in-Node.node) (c.count_leaves.ensures.counted C)

pub count_leaf-returns-in-Nodes-clause-counted : goal.count_leaf-returns-in-Nodes-clause-counted
count_leaf-returns-in-Nodes-clause-counted t c = λ C. same_leaf _ _ _ _ _ _ (ap (leaf_of C) c.in-Nodes.is ∙ leaf_nodes C c.in-Nodes.nodes) (c.count_nodes.ensures.counted C)

pub count_leaf-returns-in-Core-clause-counted : goal.count_leaf-returns-in-Core-clause-counted
count_leaf-returns-in-Core-clause-counted t c = λ C. core_counted _ C _ _ _ c.requires.sized (ap (leaf_of C) c.in-Core.is)

pub count_leaves-returns-in-Err-clause-counted : goal.count_leaves-returns-in-Err-clause-counted
count_leaves-returns-in-Err-clause-counted t c = λ C. leaves_refused C _ _ _ _ _ _ _ _ (c.loop-leaf.invariant.1 C) (drop_more c.args.leaves.now c.loop-leaf.leaf-index _ c.loop-leaf-test.true ∙ ap (λ z. z ∷ drop (c.loop-leaf.leaf-index + 1) c.args.leaves.now) (sym c.leaf-item.is)) (c.in-Err.ensures.counted C)

pub count_leaves-loop-leaf-preserved : goal.count_leaves-loop-leaf-preserved
count_leaves-loop-leaf-preserved t c =
    let left = drop_more c.args.leaves.now c.loop-leaf.leaf-index _ c.loop-leaf-test.true ∙ ap (λ z. z ∷ drop (c.loop-leaf.leaf-index + 1) c.args.leaves.now) (sym c.leaf-item.is) in (
      (c.in-Ok.ensures.counted []).sized,
      λ C. leaves_step C _ _ _ _ _ _ _ _ (c.loop-leaf.invariant.1 C) left (c.in-Ok.ensures.counted C),
      λ C. leaf_kept c.args.scopes.now (λ ms. all_found ms (listed C c.args.leaves.now)) _ _ C _ _ _ _ (c.loop-leaf.invariant.2 C) left (c.in-Ok.ensures.kept C),
      λ C r. sums_then C _ _ c.leaf-item.result left (c.in-Ok.ensures.counted C) (c.loop-leaf.invariant.3 C r),
    )

pub count_leaves-returns-clause-counted : goal.count_leaves-returns-clause-counted
count_leaves-returns-clause-counted t c = λ C. leaves_end C _ _ _ _ _ (c.loop-leaf.invariant.1 C) (drop_of_length-le c.args.leaves.now c.loop-leaf-test.false)

pub count_nodes-returns-in-Err-clause-counted : goal.count_nodes-returns-in-Err-clause-counted
count_nodes-returns-in-Err-clause-counted t c = λ C. nodes_refused C _ _ _ _ _ _ _ _ (c.loop-node.invariant.1 C) (drop_more c.args.nodes.now c.loop-node.node-index _ c.loop-node-test.true) (c.in-Err.ensures.counted C)

pub count_nodes-loop-node-preserved : goal.count_nodes-loop-node-preserved
count_nodes-loop-node-preserved t c =
    let left = drop_more c.args.nodes.now c.loop-node.node-index _ c.loop-node-test.true in (
      (c.in-Ok.ensures.counted []).sized,
      λ C. nodes_step C _ _ _ _ _ _ _ _ (c.loop-node.invariant.1 C) left (c.in-Ok.ensures.counted C),
      λ C. node_kept c.args.scopes.now (λ ms. nodes_found ms (nodes_listed C c.args.nodes.now)) _ _ C _ _ _ _ (c.loop-node.invariant.2 C) left (c.in-Ok.ensures.kept C),
      λ C r. sums_then_node C _ _ _ left (c.in-Ok.ensures.counted C) (c.loop-node.invariant.3 C r),
    )

pub count_nodes-returns-clause-counted : goal.count_nodes-returns-clause-counted
count_nodes-returns-clause-counted t c = λ C. nodes_end C _ _ _ _ _ (c.loop-node.invariant.1 C) (drop_of_length-le c.args.nodes.now c.loop-node-test.false)

pub count_leaves-returns-clause-kept : goal.count_leaves-returns-clause-kept
count_leaves-returns-clause-kept t c = λ C. leaves_kept c.args.scopes.now (λ ms. all_found ms (listed C c.args.leaves.now)) _ _ C _ (c.loop-leaf.invariant.2 C) (drop_of_length-le c.args.leaves.now c.loop-leaf-test.false)

pub count_nodes-returns-clause-kept : goal.count_nodes-returns-clause-kept
count_nodes-returns-clause-kept t c = λ C. nodes_kept c.args.scopes.now (λ ms. nodes_found ms (nodes_listed C c.args.nodes.now)) _ _ C _ (c.loop-node.invariant.2 C) (drop_of_length-le c.args.nodes.now c.loop-node-test.false)

pub count_leaf-returns-in-Present-clause-kept : goal.count_leaf-returns-in-Present-clause-kept
count_leaf-returns-in-Present-clause-kept t c = λ C. same_kept c.args.scopes.now _ _ _ _ _ (ap (leaf_of C) c.in-Present.is ∙ leaf_present C c.in-Present.part) (c.count_leaf.ensures.kept C)

pub count_leaf-returns-in-Node-clause-kept : goal.count_leaf-returns-in-Node-clause-kept
count_leaf-returns-in-Node-clause-kept t c = λ C. same_kept c.args.scopes.now _ _ _ _ _ (ap (leaf_of C) c.in-Node.is ∙ leaf_node C c.in-Node.node) (c.count_leaves.ensures.kept C)

pub count_leaf-returns-in-Nodes-clause-kept : goal.count_leaf-returns-in-Nodes-clause-kept
count_leaf-returns-in-Nodes-clause-kept t c = λ C. same_kept c.args.scopes.now _ _ _ _ _ (ap (leaf_of C) c.in-Nodes.is ∙ leaf_nodes C c.in-Nodes.nodes) (c.count_nodes.ensures.kept C)

pub count_leaf-returns-in-Core-clause-kept : goal.count_leaf-returns-in-Core-clause-kept
count_leaf-returns-in-Core-clause-kept t c = λ C. core_kept c.args.scopes.now C _ _ _ (ap (leaf_of C) c.in-Core.is)
