use Rattle.std.proofs.Common.{◌≡◌, true, drop}
use Rattle.wire_tree.specs.Lists.{listed, defs_listed}
use Rattle.print_table.specs.HasText.{leaves_have_bytes, definitions_have_bytes}
use Rattle.tree_print.proofs.text_bytes.+texts.Given as goal

abbrev pub invariant-leaves_are_bytes-loop-leaf : goal.invariant-leaves_are_bytes-loop-leaf
invariant-leaves_are_bytes-loop-leaf l = leaves_have_bytes (listed (drop l.leaf-index l.leaves)) ≡ true → leaves_have_bytes (listed l.leaves) ≡ true

abbrev pub invariant-definitions_are_bytes-loop-node : goal.invariant-definitions_are_bytes-loop-node
invariant-definitions_are_bytes-loop-node l = definitions_have_bytes (defs_listed (drop l.node-index l.defs)) ≡ true → definitions_have_bytes (defs_listed l.defs) ≡ true
