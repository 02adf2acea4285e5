use Rattle.std.proofs.Common.{◌≡◌, ◌++◌, drop, map}
use Rattle.wire_tree.specs.Lists.{node_of}
use Rattle.item_tree.specs.Model.{item_row}
use Rattle.item_read.proofs.trees.+trees.Given as goal

abbrev pub invariant-items_of-loop-node : goal.invariant-items_of-loop-node
invariant-items_of-loop-node l = map item_row l.found.items ++ map node_of (drop l.node-index l.nodes) ≡ map node_of l.nodes
