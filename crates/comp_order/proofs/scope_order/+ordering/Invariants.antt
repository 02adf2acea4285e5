use Rattle.std.proofs.Common.{◌≡◌, List, drop}
use Rattle.comp_model.specs.Model.{Defs}
use Rattle.wire_tree.specs.Lists.{listed, nodes_listed, defs_listed}
use Rattle.comp_order.specs.Before.{AllCounted}
use Rattle.comp_order.specs.Order.{leaves_verdicts, nodes_verdicts}
use Rattle.comp_order.specs.Pass.{pass}
use Rattle.comp_order.proofs.Walking.{SoFar}
use Rattle.comp_order.proofs.scope_order.+ordering.Given as goal

abbrev pub invariant-pass_held_in-loop-leaf : goal.invariant-pass_held_in-loop-leaf
invariant-pass_held_in-loop-leaf l = (befores : List Defs) → AllCounted l.around befores →
    pass l.next (leaves_verdicts (listed (drop l.leaf-index l.leaves)) befores) ≡ pass l.line (leaves_verdicts (listed l.leaves) befores)

abbrev pub invariant-pass_held_in_nodes-loop-node : goal.invariant-pass_held_in_nodes-loop-node
invariant-pass_held_in_nodes-loop-node l = (befores : List Defs) → AllCounted l.around befores →
    pass l.next (nodes_verdicts (nodes_listed (drop l.node-index l.nodes)) befores) ≡ pass l.line (nodes_verdicts (nodes_listed l.nodes) befores)

abbrev pub invariant-pass_defs-loop-node : goal.invariant-pass_defs-loop-node
invariant-pass_defs-loop-node l = (befores : List Defs) → AllCounted l.outer befores →
    SoFar befores l.line (defs_listed l.defs) l.counts l.next (defs_listed (drop l.node-index l.defs))
