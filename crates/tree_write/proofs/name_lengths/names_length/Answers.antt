use Rattle.std.proofs.Common.{refl, ap, arith, length}
use Rattle.comp_model.specs.declared.row.ScopeKind.TheVariants as kinds
use Rattle.tree_write.proofs.ItemNames.{type_payload}
use Rattle.tree_write.proofs.SpaceSums.{all_told}
use Rattle.tree_write.proofs.name_lengths.names_length.Goals as goal

pub returns-in-Component : goal.returns-in-Component
returns-in-Component c = λ cores. all_told cores c.args.scope.now c.item_name.result c.own_length-own.result c.definitions_length.result _ c.in-Component.is c.item_name.ensures c.own_length-own.ensures (c.definitions_length.ensures cores) c.saturating_add.ensures

pub returns-in-ComponentType : goal.returns-in-ComponentType
returns-in-ComponentType c = λ cores. let e = ap length (type_payload cores c.args.scope.now kinds.ComponentType c.in-ComponentType.is refl) in omega (arith, e)

pub returns-in-InstanceType : goal.returns-in-InstanceType
returns-in-InstanceType c = λ cores. let e = ap length (type_payload cores c.args.scope.now kinds.InstanceType c.in-InstanceType.is refl) in omega (arith, e)

pub returns-in-ModuleType : goal.returns-in-ModuleType
returns-in-ModuleType c = λ cores. let e = ap length (type_payload cores c.args.scope.now kinds.ModuleType c.in-ModuleType.is refl) in omega (arith, e)
