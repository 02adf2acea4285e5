use Rattle.std.proofs.Common.{◌≡◌, ◌++◌, drop, map}
use Rattle.wire_tree.specs.Lists.{node_of}
use Rattle.item_read.proofs.entries.all_entries.Given as goal

abbrev pub invariant-loop-node : goal.invariant-loop-node
invariant-loop-node g l = map g.T.Entry.entry_row l.found.items ++ map node_of (drop l.node-index l.nodes) ≡ map node_of l.nodes
