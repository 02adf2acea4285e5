use Rattle.std.proofs.Common.{◌≡◌, drop}
use Rattle.wire_tree.specs.Lists.{listed, defs_listed}
use Rattle.print_table.specs.HasText.{leaves_hold_module, definitions_hold_module}
use Rattle.tree_print.proofs.modules.+holding.Given as goal

abbrev pub invariant-leaves_hold-loop-leaf : goal.invariant-leaves_hold-loop-leaf
invariant-leaves_hold-loop-leaf l = leaves_hold_module (listed (drop l.leaf-index l.leaves)) ≡ leaves_hold_module (listed l.leaves)

abbrev pub invariant-definitions_hold-loop-node : goal.invariant-definitions_hold-loop-node
invariant-definitions_hold-loop-node l = definitions_hold_module (defs_listed (drop l.node-index l.defs)) ≡ definitions_hold_module (defs_listed l.defs)
