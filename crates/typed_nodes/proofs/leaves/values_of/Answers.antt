use Rattle.std.proofs.Common.{refl, ◌∙◌, arith}
use Rattle.comp_tree.specs.Lists.{node_of, nodes_listed}
use Rattle.typed_nodes.specs.Lists.{nodes_from}
use Rattle.typed_nodes.proofs.Fitting.{node_fits}
use Rattle.typed_nodes.proofs.Loops.{turn, turned}
use Rattle.typed_nodes.proofs.leaves.values_of.Goals as goal

pub from_node-requires : goal.from_node-requires
from_node-requires g c κs = ((refl, tt), (c.requires.0, node_fits c.requires.0 c.args.nodes.now _ c.loop-i.i _ (omega (arith, c.loop-i-test.true)) c.requires.1))

pub loop-i-preserved : goal.loop-i-preserved
loop-i-preserved g c = λ cores f.
    turn g.T.OfNode.node (nodes_from g.T.OfNode.node) refl (λ x xs. refl) (node_of cores) (nodes_listed cores) (λ x xs. refl) _ _ _ c.args.nodes.now c.loop-i.i _ (omega (arith, c.loop-i-test.true)) c.in_ok-push.ensures.items
    (c.in_ok-from_node.ensures cores (node_fits cores c.args.nodes.now _ c.loop-i.i _ (omega (arith, c.loop-i-test.true)) f)) (c.loop-i.invariant cores f)

pub returns : goal.returns
returns g c = λ cores f. turned _ (nodes_listed cores) refl _ c.loop-i.i (omega (arith, c.loop-i-test.false)) (c.loop-i.invariant cores f)
