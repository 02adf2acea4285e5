use Rattle.std.proofs.Common.{ap, ◌∙◌}
use Rattle.comp_model.specs.Model as m
use Rattle.comp_model.specs.Model.{◌▸◌, no_leaf}
use Rattle.comp_tree.proofs.Leaves.{leaf_nodes}
use Rattle.typed_nodes.proofs.Made.{weaken, ok_and}
use Rattle.typed_nodes.proofs.parts.list_node.Goals as goal

pub returns-in-Ok : goal.returns-in-Ok
returns-in-Ok c = λ cores. weaken _ _ c.node_of_one.result (λ n e. ok_and _ c.args.nodes c.in-Ok.nodes c.in-Ok.is (e ∙ ap (λ q. m.row c.args.row (q ▸ no_leaf)) (leaf_nodes cores c.in-Ok.nodes))) (c.node_of_one.ensures cores)
