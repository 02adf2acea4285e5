use Rattle.std.proofs.Common.{◌≡◌, ◌++◌, drop, map}
use Rattle.comp_model.specs.declared.row.Row.{Row}
use Rattle.wire_tree.specs.Lists.{node_of, nodes_listed}
use Rattle.item_read.specs.Leaves.{Each}
use Rattle.item_read.specs.Named.{named_row}
use Rattle.item_read.specs.Rows.{IsNamedItem}
use Rattle.item_read.proofs.named.all_named.Given as goal

abbrev pub invariant-loop-node : goal.invariant-loop-node
invariant-loop-node l = (r : Row) → Each (IsNamedItem r) (nodes_listed l.nodes) → map (named_row r) l.found.items ++ map node_of (drop l.node-index l.nodes) ≡ map node_of l.nodes
