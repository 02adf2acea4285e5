use Rattle.std.proofs.Common.{◌≡◌, ◌++◌, drop}
use Rattle.wire_tree.specs.Lists.{listed, nodes_listed}
use Rattle.comp_list.specs.References.{references, node_references}
use Rattle.comp_list.proofs.reference.+references.Given as goal

abbrev pub invariant-push_leaves-loop-leaf : goal.invariant-push_leaves-loop-leaf
invariant-push_leaves-loop-leaf l = l.found.items ++ references (listed (drop l.leaf-index l.leaves)) ≡ l.initial.found.items ++ references (listed l.leaves)

abbrev pub invariant-push_nodes-loop-node : goal.invariant-push_nodes-loop-node
invariant-push_nodes-loop-node l = l.found.items ++ node_references (nodes_listed (drop l.node-index l.nodes)) ≡ l.initial.found.items ++ node_references (nodes_listed l.nodes)
