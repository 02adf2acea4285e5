use Rattle.std.proofs.Common.{ap, ◌∙◌}
use Rattle.comp_model.specs.Model as m
use Rattle.comp_tree.proofs.Leaves.{leaf_nodes}
use Rattle.typed_nodes.specs.Lists.{nodes_from}
use Rattle.typed_nodes.proofs.leaves.VecOfLeaf.into_leaf.Goals as goal

pub returns : goal.returns
returns g c = λ cores. leaf_nodes cores c.in_ok-nodes_of.field-0 ∙ ap m.nodes (c.in_ok-nodes_of.ensures cores ∙ ap (nodes_from g.T.OfNode.node) c.as_slice.ensures.value)
