use Rattle.std.proofs.Common.{◌≡◌, List, drop}
use Rattle.comp_model.specs.CoreModules.{CoreModule}
use Rattle.comp_tree.specs.Lists.{listed, nodes_listed}
use Rattle.tree_expand.specs.Numbering.{inlines, inlines_nodes}
use Rattle.tree_expand.proofs.inlines.+inlining.Given as goal

abbrev pub invariant-leaves_inline-loop-leaf : goal.invariant-leaves_inline-loop-leaf
invariant-leaves_inline-loop-leaf l = (C : List CoreModule) → inlines (listed C (drop l.leaf-index l.leaves)) ≡ inlines (listed C l.leaves)

abbrev pub invariant-nodes_inline-loop-node : goal.invariant-nodes_inline-loop-node
invariant-nodes_inline-loop-node l = (C : List CoreModule) → inlines_nodes (nodes_listed C (drop l.node-index l.nodes)) ≡ inlines_nodes (nodes_listed C l.nodes)
