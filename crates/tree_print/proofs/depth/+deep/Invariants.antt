use Rattle.std.proofs.Common.{◌≡◌, ◌<◌, drop}
use Rattle.wire_tree.specs.Lists.{listed, defs_listed}
use Rattle.print_table.specs.TextOf.{unnamed_leaves, unnamed_defs}
use Rattle.print_table.specs.Depths.{some_deep, leaves_depths, depths}
use Rattle.tree_print.proofs.depth.+deep.Given as goal

abbrev pub invariant-leaves_are_deep-loop-leaf : goal.invariant-leaves_are_deep-loop-leaf
invariant-leaves_are_deep-loop-leaf l = l.depth < 101 → some_deep (leaves_depths l.depth (unnamed_leaves (listed (drop l.leaf-index l.leaves)))) ≡ some_deep (leaves_depths l.depth (unnamed_leaves (listed l.leaves)))

abbrev pub invariant-definitions_are_deep-loop-node : goal.invariant-definitions_are_deep-loop-node
invariant-definitions_are_deep-loop-node l = l.depth < 101 → some_deep (depths l.depth (unnamed_defs (defs_listed (drop l.node-index l.defs)))) ≡ some_deep (depths l.depth (unnamed_defs (defs_listed l.defs)))
