use Rattle.std.proofs.Common.{refl, ap, ◌∙◌, arith}
use Rattle.comp_tree.specs.Lists.{node_of, nodes_listed}
use Rattle.typed_nodes.specs.Lists.{nodes_from}
use Rattle.typed_nodes.proofs.Loops.{turn, turned}
use Rattle.typed_nodes.proofs.Made.{weaken}
use Rattle.typed_nodes.proofs.leaves.nodes_of.Goals as goal

pub loop-i-preserved : goal.loop-i-preserved
loop-i-preserved g c = λ cores. turn (node_of cores) (nodes_listed cores) refl (λ x xs. refl) g.T.OfNode.node (nodes_from g.T.OfNode.node) (λ x xs. refl) _ _ c.in_ok-into_node.field-0 _ c.loop-i.i _ (omega (arith, c.loop-i-test.true)) c.in_ok-push.ensures.items
    (c.in_ok-into_node.ensures cores ∙ ap g.T.OfNode.node c.index-values-i.is) (c.loop-i.invariant cores)

pub returns : goal.returns
returns g c = λ cores. weaken _ _ c.place_all.result (λ ns e. ap (nodes_listed cores) (e ∙ c.as_slice.ensures.value) ∙ turned _ (nodes_from g.T.OfNode.node) refl _ c.loop-i.i (omega (arith, c.loop-i-test.false)) (c.loop-i.invariant cores)) c.place_all.ensures
