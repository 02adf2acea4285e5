use Rattle.std.proofs.Common.{List, drop}
use Rattle.comp_model.specs.CoreModules.{CoreModule}
use Rattle.comp_tree.specs.Lists.{listed, nodes_listed}
use Rattle.tree_resolve.specs.Plain.{Plain, PlainNodes}
use Rattle.tree_resolve.proofs.plain.+plain.Given as goal

abbrev pub invariant-is_plain-loop-leaf : goal.invariant-is_plain-loop-leaf
invariant-is_plain-loop-leaf l = (C : List CoreModule) → Plain (listed C (drop l.leaf-index l.leaves)) → Plain (listed C l.leaves)

abbrev pub invariant-are_plain-loop-node : goal.invariant-are_plain-loop-node
invariant-are_plain-loop-node l = (C : List CoreModule) → PlainNodes (nodes_listed C (drop l.node-index l.nodes)) → PlainNodes (nodes_listed C l.nodes)
