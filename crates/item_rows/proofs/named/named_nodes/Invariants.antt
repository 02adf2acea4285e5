use Rattle.std.proofs.Common.{◌≡◌, ◌++◌, drop, map}
use Rattle.wire_tree.specs.Lists.{node_of}
use Rattle.item_rows.specs.Named.{named_row}
use Rattle.item_rows.proofs.named.named_nodes.Given as goal

abbrev pub invariant-loop-item : goal.invariant-loop-item
invariant-loop-item l = map node_of l.nodes.items ++ map (named_row l.row) (drop l.item-index l.items) ≡ map (named_row l.row) l.items
