use Rattle.std.proofs.Common.{◌≡◌, ◌++◌, drop, map}
use Rattle.wire_tree.specs.Lists.{node_of}
use Rattle.item_tree.specs.Model.{item_row}
use Rattle.item_rows.proofs.trees.+trees.Given as goal

abbrev pub invariant-item_nodes-loop-item : goal.invariant-item_nodes-loop-item
invariant-item_nodes-loop-item l = map node_of l.nodes.items ++ map item_row (drop l.item-index l.items) ≡ map item_row l.items
