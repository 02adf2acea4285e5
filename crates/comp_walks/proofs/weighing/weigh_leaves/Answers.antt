use Rattle.std.proofs.Common.{◌∙◌, ap, zero-add}
use Rattle.comp_model.specs.Events.{told_leaves, enters_all}
use Rattle.comp_model.specs.Weight.{weight_of_leaves}
use Rattle.core_model.specs.Weight.{module_weight}
use Rattle.comp_walks.specs.Weigh.{capped, weigh_step}
use Rattle.comp_walks.proofs.WeightTold.{leaves_weighed}
use Rattle.comp_walks.proofs.weighing.weigh_leaves.Goals as goal

pub returns : goal.returns
returns g c =
    let ls = g.T.Node.leaves c.args.node.now in
    c.sum.ensures ∙ c.walk_leaves.ensures ∙ ap (told_leaves (weigh_step module_weight) enters_all ls) c.new-total.ensures ∙ leaves_weighed module_weight ls 0 ∙ ap capped (zero-add (weight_of_leaves module_weight ls))
