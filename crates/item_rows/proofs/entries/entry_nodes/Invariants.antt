use Rattle.std.proofs.Common.{◌≡◌, ◌++◌, drop, map}
use Rattle.wire_tree.specs.Lists.{node_of}
use Rattle.item_rows.proofs.entries.entry_nodes.Given as goal

abbrev pub invariant-loop-entry : goal.invariant-loop-entry
invariant-loop-entry g l = map node_of l.nodes.items ++ map g.T.Entry.entry_row (drop l.entry-index l.entries) ≡ map g.T.Entry.entry_row l.entries
