use Rattle.std.proofs.Common.{ap}
use Rattle.comp_model.specs.Model as m
use Rattle.comp_model.specs.declared.row.Row.TheVariants as rows
use Rattle.comp_tree.specs.Lists.{listed}
use Rattle.tree_read.proofs.NameLeaves.{node_is}
use Rattle.tree_read.proofs.names.name_node.Goals as goal

pub returns : goal.returns
returns c = λ fs cs.
    node_is cs c.in_ok-place.field-0 _ c.args.name c.args.attributes c.in_ok-attribute_leaf.field-0 c.in_ok-attribute_leaf-2.field-0 c.in_ok-attribute_leaf-3.field-0 c.in_ok-place.ensures
    (ap (λ xs. m.row rows.AttributedName (listed cs xs)) c.in_ok-place_all.ensures)
    (c.in_ok-attribute_leaf.ensures cs) (c.in_ok-attribute_leaf-2.ensures cs) (c.in_ok-attribute_leaf-3.ensures cs)
