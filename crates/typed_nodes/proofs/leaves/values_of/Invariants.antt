use Rattle.std.proofs.Common.{◌≡◌, List, drop}
use Rattle.comp_model.specs.CoreModules.{CoreModule}
use Rattle.comp_tree.specs.Lists.{nodes_listed}
use Rattle.typed_nodes.proofs.Lists.{nodes_behind}
use Rattle.typed_nodes.specs.Fits.{FitNodes}
use Rattle.typed_nodes.specs.Lists.{nodes_from}
use Rattle.typed_nodes.proofs.leaves.values_of.Given as goal

abbrev pub invariant-loop-i : goal.invariant-loop-i
invariant-loop-i g l = (cores : List CoreModule) → FitNodes g.T.OfNode.node_rows (nodes_listed cores l.nodes) → nodes_behind (nodes_from g.T.OfNode.node l.values.items) (nodes_listed cores (drop l.i l.nodes)) ≡ nodes_listed cores l.nodes
