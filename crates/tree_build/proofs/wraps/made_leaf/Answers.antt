use Rattle.std.proofs.Common.{◌∙◌, ap, sym}
use Rattle.comp_tree.specs.Lists.{node_of}
use Rattle.comp_tree.proofs.Leaves.{leaf_node, leaf_inline, leaf_bundle}
use Rattle.tree_build.specs.Making.{leaf_made}
use Rattle.tree_build.proofs.wraps.made_leaf.Goals as goal

pub returns-in-Node : goal.returns-in-Node
returns-in-Node c = λ fs cs. leaf_node cs c.args.node ∙ ap (λ k. leaf_made k (node_of cs c.args.node.now)) (sym c.in-Node.is)

pub returns-in-Inline : goal.returns-in-Inline
returns-in-Inline c = λ fs cs. leaf_inline cs c.in-Inline.space c.args.node ∙ ap (λ k. leaf_made k (node_of cs c.args.node.now)) (sym c.in-Inline.is)

pub returns-in-Bundle : goal.returns-in-Bundle
returns-in-Bundle c = λ fs cs. leaf_bundle cs c.in-Bundle.space c.args.node ∙ ap (λ k. leaf_made k (node_of cs c.args.node.now)) (sym c.in-Bundle.is)
