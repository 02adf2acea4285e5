use Rattle.std.proofs.Common.{◌∙◌, refl}
use Rattle.comp_model.specs.declared.row.ScopeKind.TheVariants as kinds
use Rattle.tree_write.proofs.FewCounted.{few_here}
use Rattle.tree_write.proofs.ItemNames.{component_payload, type_payload}
use Rattle.tree_write.proofs.item_names.scope_names.Goals as goal

pub returns-in_ok-items_of-in-Component : goal.returns-in_ok-items_of-in-Component
returns-in_ok-items_of-in-Component c = λ cores few. component_payload cores c.args.scope.now _ _ c.in-Component.is c.item_name.ensures (λ s. c.in_ok-items_of-in-Component.ensures cores s (few_here cores c.args.scope.now few))

pub returns-in-ComponentType : goal.returns-in-ComponentType
returns-in-ComponentType c = λ cores few. c.no_names.ensures ∙ type_payload cores c.args.scope.now kinds.ComponentType c.in-ComponentType.is refl

pub returns-in-InstanceType : goal.returns-in-InstanceType
returns-in-InstanceType c = λ cores few. c.no_names-in-InstanceType.ensures ∙ type_payload cores c.args.scope.now kinds.InstanceType c.in-InstanceType.is refl

pub returns-in-ModuleType : goal.returns-in-ModuleType
returns-in-ModuleType c = λ cores few. c.no_names-in-ModuleType.ensures ∙ type_payload cores c.args.scope.now kinds.ModuleType c.in-ModuleType.is refl
