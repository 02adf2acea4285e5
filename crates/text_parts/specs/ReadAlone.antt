-- Which rule of the text format each part that is read alone has.
use Rattle.text_rules.specs.Rule as r
use Rattle.text_rules.specs.ValueRules.{prim, inline_val, record_type, record_field, variant_type, variant_case, map_type, tuple_type, flags_type, enum_type, option_type, result_type, stream_type, future_type, fty, function_param, function_result}
use Rattle.text_rules.specs.ReferenceRules.{item_group, core_item, memory_reference}
use Rattle.text_rules.specs.CoreTypeRules.{module_type, core_or_module_type, module_declaration, module_declarations, module_type_alias}
use Rattle.text_rules.specs.TypeRules.{resource_parts, func_use, component_use, instance_use, module_use, value_use, bound, description, nameless_description, component_type_items, instance_type_items, component_declaration, instance_declaration, component_declarations, instance_declarations, export_kind, outer_kind, extern_name, lone_inline_exports, exports}
use Rattle.text_rules.specs.InstanceRules.{inline_import, core_instance_kind, instance_kind, core_argument, core_argument_kind, core_arguments, core_export, core_exports, argument, argument_kind, arguments}
use Rattle.text_rules.specs.CanonRules.{core_alias, inline_alias, func_kind, core_func_kind, lift, options}
use Rattle.text_rules.specs.FieldRules.{whole_component, field_contents, custom_contents, producers_contents}
use Rattle.text_parts.specs.declared.value_parts.ValuePart.{ValuePart}
use Rattle.text_parts.specs.declared.value_parts.ValuePart.TheVariants as value_parts
use Rattle.text_parts.specs.declared.type_parts.TypePart.{TypePart}
use Rattle.text_parts.specs.declared.type_parts.TypePart.TheVariants as type_parts
use Rattle.text_parts.specs.declared.item_parts.ItemPart.{ItemPart}
use Rattle.text_parts.specs.declared.item_parts.ItemPart.TheVariants as item_parts
use Rattle.text_parts.specs.declared.field_parts.FieldPart.{FieldPart}
use Rattle.text_parts.specs.declared.field_parts.FieldPart.TheVariants as field_parts

-- value types and function types
abbrev pub value_part : ValuePart → r.Rule
value_part value_parts.Primitive = prim
value_part value_parts.Inline = inline_val
value_part value_parts.Record = record_type
value_part value_parts.RecordField = record_field
value_part value_parts.Variant = variant_type
value_part value_parts.VariantCase = variant_case
value_part value_parts.Map = map_type
value_part value_parts.Tuple = tuple_type
value_part value_parts.Flags = flags_type
value_part value_parts.Enumeration = enum_type
value_part value_parts.Optional = option_type
value_part value_parts.ResultOf = result_type
value_part value_parts.Stream = stream_type
value_part value_parts.Future = future_type
value_part value_parts.Function = fty
value_part value_parts.FunctionParam = function_param
value_part value_parts.FunctionResult = function_result

-- types, descriptions and declarations
abbrev pub type_part : TypePart → r.Rule
type_part type_parts.Resource = resource_parts
type_part type_parts.FuncUse = func_use
type_part type_parts.ComponentUse = component_use
type_part type_parts.InstanceUse = instance_use
type_part type_parts.ModuleUse = module_use
type_part type_parts.ValueUse = value_use
type_part type_parts.Bound = bound
type_part type_parts.Description = description
type_part type_parts.NamelessDescription = nameless_description
type_part type_parts.ModuleType = module_type
type_part type_parts.ComponentType = component_type_items
type_part type_parts.InstanceType = instance_type_items
type_part type_parts.CoreOrModuleType = core_or_module_type
type_part type_parts.ModuleDeclaration = module_declaration
type_part type_parts.ComponentDeclaration = component_declaration
type_part type_parts.InstanceDeclaration = instance_declaration
type_part type_parts.ModuleDeclarations = module_declarations
type_part type_parts.ComponentDeclarations = component_declarations
type_part type_parts.InstanceDeclarations = instance_declarations

-- references, aliases and names
abbrev pub item_part : ItemPart → r.Rule
item_part item_parts.Named = item_group
item_part item_parts.Core = core_item
item_part item_parts.MemoryOfOption = memory_reference
item_part item_parts.CoreAlias = core_alias
item_part item_parts.InlineAlias = inline_alias
item_part item_parts.ModuleTypeAlias = module_type_alias
item_part item_parts.ExportKind = export_kind
item_part item_parts.OuterKind = outer_kind
item_part item_parts.ExternName = extern_name
item_part item_parts.InlineImport = inline_import
item_part item_parts.InlineExports = lone_inline_exports
item_part item_parts.Exports = exports

-- fields, instances and functions
abbrev pub field_part : FieldPart → r.Rule
field_part field_parts.WholeComponent = whole_component
field_part field_parts.Field = field_contents
field_part field_parts.Custom = custom_contents
field_part field_parts.Producers = producers_contents
field_part field_parts.CoreInstanceKind = core_instance_kind
field_part field_parts.InstanceKind = instance_kind
field_part field_parts.CoreArgument = core_argument
field_part field_parts.CoreArgumentKind = core_argument_kind
field_part field_parts.CoreArguments = core_arguments
field_part field_parts.CoreExport = core_export
field_part field_parts.CoreExports = core_exports
field_part field_parts.Argument = argument
field_part field_parts.ArgumentKind = argument_kind
field_part field_parts.Arguments = arguments
field_part field_parts.FuncKind = func_kind
field_part field_parts.CoreFuncKind = core_func_kind
field_part field_parts.Lift = lift
field_part field_parts.Options = options
