-- The rows of the whole format, and what the checker computes of them: each can be read from left to right, and its tests, and those of a text that is
-- the row alone, decide between its parts.
use Rattle.std.specs.Prelude.{◌≡◌, List, [], ◌∷◌, true, refl}
use Rattle.std.specs.List.{list_all}
use Rattle.wast_grammar.specs.Grammar.{Grammar}
use Rattle.wast_grammar.specs.ValueRows as v
use Rattle.wast_grammar.specs.ValueRows.{name, reference}
use Rattle.wast_grammar.specs.NameRows as n
use Rattle.wast_grammar.specs.Rows.{text_row}
use Rattle.wast_grammar.specs.ReferenceRows as r
use Rattle.wast_grammar.specs.CoreTypeRows as c
use Rattle.wast_grammar.specs.TypeRows as t
use Rattle.wast_grammar.specs.InstanceRows as i
use Rattle.wast_grammar.specs.CanonRows as f
use Rattle.wast_grammar.specs.FieldRows as d
use Rattle.wast_grammar.specs.Lawful.{is_lawful}
use Rattle.wast_grammar.specs.Unfolded.{value_rows, name_rows, core_rows}

-- ids, names and value types
abbrev pub value_type_rows : List Grammar
value_type_rows = v.bytes ∷ v.name ∷ v.reference ∷ v.prim ∷ v.optional_val ∷ v.field_type ∷ v.field_types ∷ v.record_type ∷ v.case_type ∷ v.case_types ∷ v.variant_type ∷ v.optional_number ∷ v.list_type ∷ v.map_type ∷ v.value_types ∷ v.tuple_type ∷ v.flags_type ∷ v.enum_type ∷ v.option_type ∷ v.error_type ∷ v.optional_error ∷ v.result_type ∷ v.own_type ∷ v.borrow_type ∷ v.stream_type ∷ v.future_type ∷ v.nonprim ∷ v.inline_val ∷ v.val ∷ v.param ∷ v.result ∷ v.params ∷ v.optional_async ∷ v.optional_result ∷ v.fty ∷ []

pub value_types_are_lawful : list_all is_lawful value_type_rows ≡ true
unfolding value_rows text_row
value_types_are_lawful = refl

-- names of imports and exports, and the parts of aliases
abbrev pub extern_rows : List Grammar
extern_rows = n.export_kind ∷ n.export_item ∷ n.export_alias ∷ n.outer_kind ∷ n.outer_item ∷ n.outer_alias ∷ n.interface_name ∷ n.plain_name ∷ n.attributes ∷ n.extern_name ∷ n.type_bound ∷ n.value_use ∷ n.inline_import ∷ n.instance_export ∷ n.inline_alias ∷ []

pub externs_are_lawful : list_all is_lawful extern_rows ≡ true
unfolding value_rows name_rows text_row
externs_are_lawful = refl

-- references
abbrev pub reference_rows : List Grammar
reference_rows = r.item_path ∷ r.core_path ∷ r.index_or_item "type" ∷ r.type_item ∷ r.core_type_item ∷ r.item ∷ r.core_item ∷ r.core_words "func" ∷ r.index_or_core "type" ∷ r.core_reference "func" ∷ r.memory_reference ∷ []

pub references_are_lawful : list_all is_lawful reference_rows ≡ true
unfolding reference
references_are_lawful = refl

-- core types
abbrev pub core_type_rows : List Grammar
core_type_rows = c.core_value ∷ c.core_param ∷ c.core_function ∷ c.core_type_group ∷ c.core_types ∷ c.core_use ∷ c.memory_type ∷ c.table_type ∷ c.global_type ∷ c.core_signature ∷ c.module_type_item ∷ c.module_type ∷ c.core_type ∷ c.core_rec ∷ []

pub core_types_are_lawful : list_all is_lawful core_type_rows ≡ true
unfolding reference name text_row
core_types_are_lawful = refl

-- types, imports and exports
abbrev pub type_rows : List Grammar
type_rows = t.resource_type ∷ t.type_definition ∷ t.type_declaration ∷ t.alias ∷ t.func_use ∷ t.component_use ∷ t.instance_use ∷ t.module_use ∷ t.signature ∷ t.nameless_signature ∷ t.import_item ∷ t.exported_type ∷ t.export_item ∷ t.inline_exports ∷ t.component_type_item ∷ t.instance_type_item ∷ []

pub types_are_lawful : list_all is_lawful type_rows ≡ true
unfolding value_rows name_rows text_row
types_are_lawful = refl

-- instances
abbrev pub instance_rows : List Grammar
instance_rows = i.core_bundle_export ∷ i.core_argument ∷ i.core_instance ∷ i.bundle_exports ∷ i.argument ∷ i.instance ∷ []

pub instances_are_lawful : list_all is_lawful instance_rows ≡ true
unfolding value_rows name_rows text_row
instances_are_lawful = refl

-- canonical functions
abbrev pub canon_rows : List Grammar
canon_rows = f.canonical_option ∷ f.options ∷ f.built_in ∷ f.lift ∷ f.core_func ∷ f.func ∷ f.canon ∷ []

pub canons_are_lawful : list_all is_lawful canon_rows ≡ true
unfolding value_rows name_rows text_row
canons_are_lawful = refl

-- fields, and a text
abbrev pub field_rows : List Grammar
field_rows = d.core_field ∷ d.some_core_fields ∷ d.core_module ∷ d.inner_component ∷ d.type_item ∷ d.start ∷ d.custom ∷ d.producers ∷ d.component_item ∷ d.wat_item ∷ []

pub fields_are_lawful : list_all is_lawful field_rows ≡ true
unfolding value_rows name_rows core_rows text_row
fields_are_lawful = refl
