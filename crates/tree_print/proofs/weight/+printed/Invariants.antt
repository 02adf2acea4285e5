use Rattle.std.proofs.Common.{◌≡◌, ℕ, ◌+◌, ◌<◌, ◌^◌, drop}
use Rattle.comp_model.specs.CoreModules.{CoreModule}
use Rattle.comp_model.specs.Weight.{weight_of_leaves, weight_of_defs}
use Rattle.wire_tree.specs.Lists.{listed, defs_listed}
use Rattle.print_table.specs.TextOf.{unnamed_leaves, unnamed_defs}
use Rattle.tree_print.specs.Taken.{capped}
use Rattle.tree_print.proofs.weight.+printed.Given as goal

abbrev pub invariant-printed_leaves-loop-leaf : goal.invariant-printed_leaves-loop-leaf
invariant-printed_leaves-loop-leaf l = (l.weight < 2 ^ 64) × ((f : CoreModule → ℕ) → capped (l.weight + weight_of_leaves f (unnamed_leaves (listed (drop l.leaf-index l.leaves)))) ≡ capped (weight_of_leaves f (unnamed_leaves (listed l.leaves))))

abbrev pub invariant-printed_defs-loop-node : goal.invariant-printed_defs-loop-node
invariant-printed_defs-loop-node l = (l.weight < 2 ^ 64) × ((f : CoreModule → ℕ) → capped (l.weight + weight_of_defs f (unnamed_defs (defs_listed (drop l.node-index l.defs)))) ≡ capped (weight_of_defs f (unnamed_defs (defs_listed l.defs))))
