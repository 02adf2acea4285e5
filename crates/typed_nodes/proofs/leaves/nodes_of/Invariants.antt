use Rattle.std.proofs.Common.{◌≡◌, List, drop}
use Rattle.comp_model.specs.CoreModules.{CoreModule}
use Rattle.comp_tree.specs.Lists.{nodes_listed}
use Rattle.typed_nodes.proofs.Lists.{nodes_behind}
use Rattle.typed_nodes.specs.Lists.{nodes_from}
use Rattle.typed_nodes.proofs.leaves.nodes_of.Given as goal

abbrev pub invariant-loop-i : goal.invariant-loop-i
invariant-loop-i g l = (cores : List CoreModule) → nodes_behind (nodes_listed cores l.nodes.items) (nodes_from g.T.OfNode.node (drop l.i l.values)) ≡ nodes_from g.T.OfNode.node l.values
