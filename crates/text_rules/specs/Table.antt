-- The rule of each row of the text format.
use Rattle.std.specs.Prelude.{Bool, true, false}
use Rattle.comp_model.specs.Core.{own}
use Rattle.wast_grammar.specs.Grammar as g
use Rattle.text_rules.specs.Rule.{Rule, no_case}
use Rattle.text_rules.specs.ValueRules.{val_rule}
use Rattle.text_rules.specs.CoreTypeRules.{module_type_item, core_value, core_type_group}
use Rattle.text_rules.specs.TypeRules.{component_type_item, instance_type_item, type_definition, signature, nameless_signature}
use Rattle.text_rules.specs.CanonRules.{canonical_option, core_func, canon}
use Rattle.text_rules.specs.FieldRules.{component_item}

abbrev pub table : g.Row → Rule
table g.Val = val_rule
table g.ComponentItem = component_item
table g.ComponentTypeItem = component_type_item
table g.InstanceTypeItem = instance_type_item
table g.ModuleTypeItem = module_type_item
table g.CoreFunc = core_func
table g.Canon = canon
table g.CanonicalOption = canonical_option
table g.TypeDefinition = type_definition
table g.Signature = signature
table g.NamelessSignature = nameless_signature
table g.CoreValue = core_value own
table g.CoreTypeDefinition = core_type_group
-- read in core modules alone
table g.CoreField = no_case

-- each row has its rule but that of a field of a core module
abbrev pub in_table : g.Row → Bool
in_table g.CoreField = false
in_table n = true
