use Rattle.std.proofs.Common.{◌≡◌, ℕ, ◌+◌, ◌<◌, ◌^◌, drop}
use Rattle.comp_model.specs.CoreModules.{CoreModule}
use Rattle.comp_model.specs.Weight.{weight_of_leaves, weight_of_nodes, weight_of_defs}
use Rattle.wire_tree.specs.Lists.{listed, nodes_listed, defs_listed}
use Rattle.tree_print.specs.Taken.{capped}
use Rattle.tree_print.proofs.weight.+weighing.Given as goal

abbrev pub invariant-leaves_weight-loop-leaf : goal.invariant-leaves_weight-loop-leaf
invariant-leaves_weight-loop-leaf l = (l.weight < 2 ^ 64) × ((f : CoreModule → ℕ) → capped (l.weight + weight_of_leaves f (listed (drop l.leaf-index l.leaves))) ≡ capped (weight_of_leaves f (listed l.leaves)))

abbrev pub invariant-nodes_weight-loop-node : goal.invariant-nodes_weight-loop-node
invariant-nodes_weight-loop-node l = (l.weight < 2 ^ 64) × ((f : CoreModule → ℕ) → capped (l.weight + weight_of_nodes f (nodes_listed (drop l.node-index l.nodes))) ≡ capped (weight_of_nodes f (nodes_listed l.nodes)))

abbrev pub invariant-defs_weight-loop-node : goal.invariant-defs_weight-loop-node
invariant-defs_weight-loop-node l = (l.weight < 2 ^ 64) × ((f : CoreModule → ℕ) → capped (l.weight + weight_of_defs f (defs_listed (drop l.node-index l.defs))) ≡ capped (weight_of_defs f (defs_listed l.defs)))
