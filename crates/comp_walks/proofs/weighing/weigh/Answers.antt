use Rattle.std.proofs.Common.{◌∙◌, ap, zero-add}
use Rattle.comp_model.specs.Events.{told_leaf, enters_all}
use Rattle.comp_model.specs.Weight.{weight_of_leaf}
use Rattle.core_model.specs.Weight.{module_weight}
use Rattle.comp_walks.specs.Weigh.{capped, weigh_step}
use Rattle.comp_walks.proofs.WeightTold.{leaf_weighed}
use Rattle.comp_walks.proofs.weighing.weigh.Goals as goal

pub returns : goal.returns
returns g c =
    let l = g.T.Walk.leaf c.args.part.now in
    c.sum.ensures ∙ c.walk.ensures ∙ ap (told_leaf (weigh_step module_weight) enters_all l) c.new-total.ensures ∙ leaf_weighed module_weight l 0 ∙ ap capped (zero-add (weight_of_leaf module_weight l))
