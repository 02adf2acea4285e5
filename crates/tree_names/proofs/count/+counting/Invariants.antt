use Rattle.std.proofs.Common.{◌≡◌, List, drop, length}
use Rattle.comp_model.specs.CoreModules.{CoreModule}
use Rattle.comp_tree.specs.Lists.{listed, nodes_listed}
use Rattle.tree_names.specs.AllFound.{all_found, nodes_found, FoundSoFar}
use Rattle.comp_tables.specs.Bounds.{most_needs, most_needs_nodes}
use Rattle.tree_names.specs.Left.{LeavesLeft, NodesLeft}
use Rattle.tree_names.specs.Room.{SumsHaveRoom}
use Rattle.tree_names.proofs.Sizes.{leaf_size, leaves_size, nodes_size}
use Rattle.tree_names.proofs.count.+counting.Given as goal

abbrev pub decreases-count_leaf : goal.decreases-count_leaf
decreases-count_leaf l = leaf_size l.leaf.now

abbrev pub decreases-count_leaves : goal.decreases-count_leaves
decreases-count_leaves l = leaves_size l.leaves.now

abbrev pub decreases-count_nodes : goal.decreases-count_nodes
decreases-count_nodes l = nodes_size l.nodes.now

abbrev pub invariant-count_leaves-loop-leaf : goal.invariant-count_leaves-loop-leaf
invariant-count_leaves-loop-leaf l = (length l.sums.counters ≡ 13) × ((C : List CoreModule) → LeavesLeft C l.scopes l.initial.sums l.sums l.leaves (drop l.leaf-index l.leaves))
    × ((C : List CoreModule) → FoundSoFar l.scopes (λ ms. all_found ms (listed C l.leaves)) (λ ms. all_found ms (listed C (drop l.leaf-index l.leaves))) l.initial.found.items l.found.items)
    × ((C : List CoreModule) → SumsHaveRoom l.initial.sums (most_needs (listed C l.leaves)) → SumsHaveRoom l.sums (most_needs (listed C (drop l.leaf-index l.leaves))))

abbrev pub invariant-count_nodes-loop-node : goal.invariant-count_nodes-loop-node
invariant-count_nodes-loop-node l = (length l.sums.counters ≡ 13) × ((C : List CoreModule) → NodesLeft C l.scopes l.initial.sums l.sums l.nodes (drop l.node-index l.nodes))
    × ((C : List CoreModule) → FoundSoFar l.scopes (λ ms. nodes_found ms (nodes_listed C l.nodes)) (λ ms. nodes_found ms (nodes_listed C (drop l.node-index l.nodes))) l.initial.found.items l.found.items)
    × ((C : List CoreModule) → SumsHaveRoom l.initial.sums (most_needs_nodes (nodes_listed C l.nodes)) → SumsHaveRoom l.sums (most_needs_nodes (nodes_listed C (drop l.node-index l.nodes))))
