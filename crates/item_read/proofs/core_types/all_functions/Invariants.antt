use Rattle.std.proofs.Common.{◌≡◌, ◌++◌, drop, map}
use Rattle.comp_wire.specs.Values.{function_row}
use Rattle.wire_tree.specs.Lists.{node_of}
use Rattle.item_read.proofs.core_types.all_functions.Given as goal

abbrev pub invariant-loop-node : goal.invariant-loop-node
invariant-loop-node l = map function_row l.found.items ++ map node_of (drop l.node-index l.nodes) ≡ map node_of l.nodes
