use Rattle.std.proofs.Common.{ap, sym, ◌∙◌}
use Rattle.comp_tree.specs.Access.{nodes_in}
use Rattle.comp_tree.specs.Model.{leaf_of}
use Rattle.comp_tree.proofs.Holds.{core_no_nodes}
use Rattle.comp_tree.proofs.Leaves.{leaf_nodes}
use Rattle.comp_tree.proofs.tree.Leaf.as_nodes.Goals as goal

pub returns-in-Nodes : goal.returns-in-Nodes
returns-in-Nodes c = λ cores. sym (ap (λ x. nodes_in (leaf_of cores x)) c.in-Nodes.is ∙ ap nodes_in (leaf_nodes cores c.in-Nodes.nodes))

pub returns-in-Core : goal.returns-in-Core
returns-in-Core c = λ cores. sym (ap (λ x. nodes_in (leaf_of cores x)) c.in-Core.is ∙ core_no_nodes cores c.in-Core.field-0)
