use Rattle.std.proofs.Common.{◌∙◌, sym}
use Rattle.tree_build.specs.Held.{loose}
use Rattle.tree_read.proofs.NameLeaves.{plain, with_attributes, made_so}
use Rattle.tree_read.proofs.names.name_leaf.Goals as goal

pub returns-then-is_plain : goal.returns-then-is_plain
returns-then-is_plain c = λ fs cs. plain c.args.name c.args.attributes (sym c.is_plain.ensures ∙ c.if-is_plain.true)

pub returns-else-is_plain : goal.returns-else-is_plain
returns-else-is_plain c = λ fs cs. made_so (loose fs cs) _ _ c.name_node.result (with_attributes c.args.name c.args.attributes (sym c.is_plain.ensures ∙ c.if-is_plain.false)) (c.name_node.ensures fs cs)
