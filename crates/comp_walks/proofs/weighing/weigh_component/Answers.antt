use Rattle.comp_model.specs.declared.row.ScopeKind.TheVariants as kinds
use Rattle.core_model.specs.Weight.{module_weight}
use Rattle.comp_walks.proofs.WeightTold.{component_weighed}
use Rattle.std.proofs.Common.{◌∙◌}
use Rattle.comp_walks.proofs.weighing.weigh_component.Goals as goal

pub returns : goal.returns
returns g c = c.sum.ensures ∙ component_weighed module_weight kinds.Component _ _ _ _ _ _ _ _ c.new-total.ensures c.add_id.ensures c.add_label.ensures c.tell.ensures c.walk_definitions.ensures
