-- All rows of a subject at once, for the `unfolding` line of what computes on them.
use Rattle.std.specs.Prelude.{⊤}
use Rattle.wast_grammar.specs.ValueRows.{bytes, name, reference, prim, optional_val, field_type, field_types, record_type, case_type, case_types, variant_type, optional_number, list_type, map_type, value_types, tuple_type, flags_type, enum_type, option_type, error_type, optional_error, result_type, own_type, borrow_type, stream_type, future_type, nonprim, inline_val, val, param, result, params, optional_async, optional_result, fty}
use Rattle.wast_grammar.specs.NameRows.{export_kind, export_item, export_alias, outer_kind, outer_item, outer_alias, interface_name, plain_name, attributes, extern_name, type_bound, value_use, inline_import, instance_export, inline_alias}
use Rattle.wast_grammar.specs.CoreRows as core
use Rattle.wast_grammar.specs.Rows.{text_row}

-- ids, names and value types
unfoldable pub value_rows : ⊤
unfolding bytes name reference prim optional_val field_type field_types record_type case_type case_types variant_type optional_number list_type map_type value_types tuple_type flags_type enum_type option_type error_type optional_error result_type own_type borrow_type stream_type future_type nonprim inline_val val param result params optional_async optional_result fty
value_rows = tt

-- names of imports and exports, and the parts of aliases
unfoldable pub name_rows : ⊤
unfolding export_kind export_item export_alias outer_kind outer_item outer_alias interface_name plain_name attributes extern_name type_bound value_use inline_import instance_export inline_alias
name_rows = tt

-- core modules
unfoldable pub core_rows : ⊤
unfolding core.heap_type core.optional_null core.reference_parts core.reference_type core.other_reference core.value_type core.with_id core.with_name core.parameter_item core.params core.results core.locals core.function_type core.type_index core.signature core.type_use core.other_type core.type_definition core.type_field core.type_fields core.integer_32 core.integer_64 core.operation core.other_start core.other_operation core.instruction core.instructions core.limits core.segment core.limits_start core.any_reference core.table_start core.type_start core.segment_start core.limits_end core.memory_type core.type_end core.element_type core.table_type core.global_type core.names core.memory_or_tag core.table_or_other core.signature_parts core.item_signature core.import_names core.import_field core.inline_exports core.inline_import core.optional_import core.head core.memory_head core.memory_parts core.memory_field core.table_head core.limits_and_type core.table_parts core.table_field core.imported_func core.locals_and_body core.defined_func core.func_rest core.func_parts core.func_field core.imported_global core.defined_global core.global_rest core.global_parts core.global_field core.export_kind core.exported_item core.export_field core.other_field core.memory_or_other core.table_or_memory core.last_field core.export_or_more core.global_or_more core.func_or_more core.import_or_more core.module_field core.note_group core.noted_group core.field_group
core_rows = tt

-- what the rows that have names are made of
unfoldable pub named_rows : ⊤
unfolding value_rows name_rows core_rows text_row
named_rows = tt
