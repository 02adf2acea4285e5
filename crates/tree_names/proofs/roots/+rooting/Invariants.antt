use Rattle.std.proofs.Common.{List, drop}
use Rattle.comp_model.specs.CoreModules.{CoreModule}
use Rattle.comp_tree.specs.Lists.{listed, nodes_listed}
use Rattle.tree_names.specs.AllFound.{all_found, nodes_found, FoundFirst}
use Rattle.tree_names.proofs.Rooting.{LeavesLeft, NodesLeft}
use Rattle.tree_names.proofs.roots.+rooting.Given as goal

abbrev pub invariant-check_leaves-loop-leaf : goal.invariant-check_leaves-loop-leaf
invariant-check_leaves-loop-leaf l = (C : List CoreModule) → FoundFirst l.scopes (λ ms. all_found ms (listed C l.leaves)) l.initial.denotations.left.now → LeavesLeft l.scopes C l.initial.denotations.left.now l.denotations.left.now l.leaves (drop l.leaf-index l.leaves)

abbrev pub invariant-check_nodes-loop-node : goal.invariant-check_nodes-loop-node
invariant-check_nodes-loop-node l = (C : List CoreModule) → FoundFirst l.scopes (λ ms. nodes_found ms (nodes_listed C l.nodes)) l.initial.denotations.left.now → NodesLeft l.scopes C l.initial.denotations.left.now l.denotations.left.now l.nodes (drop l.node-index l.nodes)
