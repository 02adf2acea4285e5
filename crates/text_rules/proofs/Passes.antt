-- The table passes the tests.
use Rattle.std.specs.Prelude.{◌≡◌, true, refl}
use Rattle.wast_grammar.specs.Grammar as g
use Rattle.text_rules.specs.Table.{table, in_table}
use Rattle.text_rules.specs.Tests.{row_passes}

val_passes : row_passes g.Val (table g.Val) ≡ true
val_passes = refl

component_item_passes : row_passes g.ComponentItem (table g.ComponentItem) ≡ true
component_item_passes = refl

component_type_item_passes : row_passes g.ComponentTypeItem (table g.ComponentTypeItem) ≡ true
component_type_item_passes = refl

instance_type_item_passes : row_passes g.InstanceTypeItem (table g.InstanceTypeItem) ≡ true
instance_type_item_passes = refl

module_type_item_passes : row_passes g.ModuleTypeItem (table g.ModuleTypeItem) ≡ true
module_type_item_passes = refl

core_func_passes : row_passes g.CoreFunc (table g.CoreFunc) ≡ true
core_func_passes = refl

canon_passes : row_passes g.Canon (table g.Canon) ≡ true
canon_passes = refl

canonical_option_passes : row_passes g.CanonicalOption (table g.CanonicalOption) ≡ true
canonical_option_passes = refl

type_definition_passes : row_passes g.TypeDefinition (table g.TypeDefinition) ≡ true
type_definition_passes = refl

signature_passes : row_passes g.Signature (table g.Signature) ≡ true
signature_passes = refl

nameless_signature_passes : row_passes g.NamelessSignature (table g.NamelessSignature) ≡ true
nameless_signature_passes = refl

core_value_passes : row_passes g.CoreValue (table g.CoreValue) ≡ true
core_value_passes = refl

core_type_definition_passes : row_passes g.CoreTypeDefinition (table g.CoreTypeDefinition) ≡ true
core_type_definition_passes = refl

pub passes : (n : g.Row) → in_table n ≡ true → row_passes n (table n) ≡ true
passes g.Val h = val_passes
passes g.ComponentItem h = component_item_passes
passes g.ComponentTypeItem h = component_type_item_passes
passes g.InstanceTypeItem h = instance_type_item_passes
passes g.ModuleTypeItem h = module_type_item_passes
passes g.CoreFunc h = core_func_passes
passes g.Canon h = canon_passes
passes g.CanonicalOption h = canonical_option_passes
passes g.TypeDefinition h = type_definition_passes
passes g.Signature h = signature_passes
passes g.NamelessSignature h = nameless_signature_passes
passes g.CoreValue h = core_value_passes
passes g.CoreTypeDefinition h = core_type_definition_passes
passes g.CoreField h = absurd (cc)
