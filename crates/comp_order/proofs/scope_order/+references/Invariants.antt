use Rattle.std.proofs.Common.{◌≡◌, List, drop, map}
use Rattle.comp_model.specs.Model.{Defs, Leaves}
use Rattle.comp_model.specs.declared.row.Row.{Row}
use Rattle.wire_tree.specs.Lists.{listed, nodes_listed}
use Rattle.comp_list.specs.References.{references, node_references}
use Rattle.comp_order.specs.Counts.{HasCounts}
use Rattle.comp_order.specs.Before.{AllCounted, HasOwn}
use Rattle.comp_order.specs.Order.{verdict_of}
use Rattle.comp_order.specs.Pass.{pass}
use Rattle.comp_order.proofs.scope_order.+references.Given as goal

abbrev pub invariant-pass_leaves-loop-leaf : goal.invariant-pass_leaves-loop-leaf
invariant-pass_leaves-loop-leaf l = (before : Defs) (befores : List Defs) (t : Row) (ls : Leaves) →
    HasCounts l.judge.before.now before → HasOwn l.judge.own.now t ls → AllCounted l.judge.outer befores →
    pass l.next (map (verdict_of befores before t ls l.judge.up) (references (listed (drop l.leaf-index l.leaves))))
    ≡ pass l.line (map (verdict_of befores before t ls l.judge.up) (references (listed l.leaves)))

abbrev pub invariant-pass_nodes-loop-node : goal.invariant-pass_nodes-loop-node
invariant-pass_nodes-loop-node l = (before : Defs) (befores : List Defs) (t : Row) (ls : Leaves) →
    HasCounts l.judge.before.now before → HasOwn l.judge.own.now t ls → AllCounted l.judge.outer befores →
    pass l.next (map (verdict_of befores before t ls l.judge.up) (node_references (nodes_listed (drop l.node-index l.nodes))))
    ≡ pass l.line (map (verdict_of befores before t ls l.judge.up) (node_references (nodes_listed l.nodes)))
