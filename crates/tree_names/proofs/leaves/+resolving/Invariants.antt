use Rattle.std.proofs.Common.{◌≡◌, drop, length, map}
use Rattle.comp_tree.specs.Lists.{listed, nodes_listed}
use Rattle.tree_names.specs.AllFound.{all_found, nodes_found, FoundFirst}
use Rattle.tree_names.specs.Room.{LeavesInRoom, NodesInRoom}
use Rattle.tree_names.specs.ReadLeft.{LeavesToRead, NodesToRead}
use Rattle.tree_names.proofs.Sizes.{leaf_size, leaves_size, nodes_size}
use Rattle.tree_names.proofs.leaves.+resolving.Given as goal

abbrev pub decreases-resolve_leaf : goal.decreases-resolve_leaf
decreases-resolve_leaf g l = leaf_size l.leaf.now

abbrev pub decreases-resolve_leaves : goal.decreases-resolve_leaves
decreases-resolve_leaves g l = leaves_size l.leaves.now

abbrev pub decreases-resolve_nodes : goal.decreases-resolve_nodes
decreases-resolve_nodes g l = nodes_size l.nodes.now

abbrev pub invariant-resolve_leaves-loop-leaf : goal.invariant-resolve_leaves-loop-leaf
invariant-resolve_leaves-loop-leaf g l = (length l.reading.counters ≡ 13) × LeavesToRead g.M.CoreRule.encoding (map g.M.CoreSource.core_module l.cores) l.scopes l.initial.reading l.reading l.leaves (drop l.leaf-index l.leaves) l.all.items
    × FoundFirst l.scopes (λ ms. all_found ms (listed (map g.M.CoreSource.core_module l.cores) (drop l.leaf-index l.leaves))) l.reading.denotations.left.now
    × LeavesInRoom l.scopes l.reading (listed (map g.M.CoreSource.core_module l.cores) (drop l.leaf-index l.leaves))

abbrev pub invariant-resolve_nodes-loop-node : goal.invariant-resolve_nodes-loop-node
invariant-resolve_nodes-loop-node g l = (length l.reading.counters ≡ 13) × NodesToRead g.M.CoreRule.encoding (map g.M.CoreSource.core_module l.cores) l.scopes l.cases l.initial.reading l.reading l.nodes (drop l.node-index l.nodes) l.all.items
    × FoundFirst l.scopes (λ ms. nodes_found ms (nodes_listed (map g.M.CoreSource.core_module l.cores) (drop l.node-index l.nodes))) l.reading.denotations.left.now
    × NodesInRoom l.scopes l.reading (nodes_listed (map g.M.CoreSource.core_module l.cores) (drop l.node-index l.nodes))
