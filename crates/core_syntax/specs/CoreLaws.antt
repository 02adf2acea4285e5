-- The rows of core modules can be read from left to right, and their tests, and those of a text that is the row alone, decide between its parts.
use Rattle.std.specs.Prelude.{◌≡◌, true, List, refl}
use Rattle.wast_grammar.specs.Classes.{opening}
use Rattle.wast_grammar.specs.Grammar.{Grammar, Value, before, folded, whole, group}
use Rattle.wast_grammar.specs.Rows.{bytes, reference, name, optional_number}
use Rattle.wast_grammar.specs.Shape.{sound, consumes}
use Rattle.wast_grammar.specs.Clear.{clear}
use Rattle.wast_grammar.specs.CoreRows.{heap_type, optional_null, reference_parts, reference_type, other_reference, value_type, parameter, with_id, with_name, parameter_item, params, results, locals, function_type, type_index, signature, type_use, other_type, type_definition, type_field, type_fields, rec_group, integer_32, integer_64, operation, operation_words, other_operation, other_start, instruction, instructions, limits, segment, limits_start, any_reference, table_start, type_start, segment_start, limits_end, memory_type, type_end, element_type, table_type, global_type, names, memory_or_tag, table_or_other, signature_parts, item_signature, import_names, import_field, inline_exports, inline_import, optional_import, head, memory_head, memory_parts, memory_field, table_head, limits_and_type, table_parts, table_field, imported_func, locals_and_body, defined_func, func_rest, func_parts, func_field, imported_global, defined_global, global_rest, global_parts, global_field, export_kind, exported_item, export_field, other_field, last_field, memory_or_other, table_or_memory, export_or_more, global_or_more, func_or_more, import_or_more, module_field, note_group, noted_group, field_group, field_groups, strings, module_kind, module_row, producer, producer_groups, producers}

-- a row can be read from left to right, and its tests decide where it is the whole text
abbrev pub Readable : Grammar → Type 0
Readable g = (sound g ≡ true) × (clear (whole g) ≡ true)

pub readable_heap_type : Readable heap_type
unfolding heap_type reference
readable_heap_type = (refl, refl)

pub readable_reference_type : Readable reference_type
unfolding reference_type reference_parts optional_null heap_type reference
readable_reference_type = (refl, refl)

pub sound_value_type : sound value_type ≡ true
unfolding value_type reference_type other_reference reference_parts optional_null heap_type reference
sound_value_type = refl

pub clear_value_type : clear (whole value_type) ≡ true
unfolding value_type reference_type other_reference reference_parts optional_null heap_type reference
clear_value_type = refl

pub readable_parameter : Readable parameter
unfolding parameter value_type reference_type other_reference reference_parts optional_null heap_type reference name
readable_parameter = (refl, refl)

pub sound_parameter_item : sound parameter_item ≡ true
unfolding parameter_item with_id with_name value_type reference_type other_reference reference_parts optional_null heap_type reference name
sound_parameter_item = refl

pub readable_function_type : Readable function_type
unfolding function_type params results parameter_item with_id with_name value_type reference_type other_reference reference_parts optional_null heap_type reference name
readable_function_type = (refl, refl)

pub readable_type_use : Readable type_use
unfolding type_use type_index signature function_type params results parameter_item with_id with_name value_type reference_type other_reference reference_parts optional_null heap_type reference name
readable_type_use = (refl, refl)

pub readable_type_definition : Readable type_definition
unfolding type_definition other_type function_type params results parameter_item with_id with_name value_type reference_type other_reference reference_parts optional_null heap_type reference name
readable_type_definition = (refl, refl)

pub readable_type_field : Readable type_field
unfolding type_field type_definition other_type function_type params results parameter_item with_id with_name value_type reference_type other_reference reference_parts optional_null heap_type reference name
readable_type_field = (refl, refl)

pub readable_rec_group : Readable rec_group
unfolding rec_group type_fields type_field type_definition other_type function_type params results parameter_item with_id with_name value_type reference_type other_reference reference_parts optional_null heap_type reference name
readable_rec_group = (refl, refl)

-- an item of a group has a token
pub has_token_value_type : consumes value_type ≡ true
unfolding value_type reference_type other_reference reference_parts optional_null heap_type reference name
has_token_value_type = refl

pub has_token_parameter_item : consumes parameter_item ≡ true
unfolding parameter_item with_id with_name value_type reference_type other_reference reference_parts optional_null heap_type reference name
has_token_parameter_item = refl

-- the group of a type definition can be read from left to right
pub sound_type_group : sound (group type_field) ≡ true
unfolding type_field type_definition other_type function_type params results parameter_item with_id with_name value_type reference_type other_reference reference_parts optional_null heap_type reference name
sound_type_group = refl

pub readable_instruction : Readable instruction
unfolding instruction operation other_operation other_start integer_32 integer_64 reference
readable_instruction = (refl, refl)

pub readable_instructions : Readable instructions
unfolding instructions operation other_operation other_start integer_32 integer_64 reference
readable_instructions = (refl, refl)

-- so can instructions behind open groups, whatever these are
pub sound_folded : (us : List Value) → sound (folded us operation_words operation other_operation) ≡ true
unfolding operation other_operation other_start integer_32 integer_64 reference
sound_folded us = refl

pub sound_in_group : sound (before opening operation) ≡ true
unfolding operation integer_32 integer_64 reference
sound_in_group = refl

pub sound_operation : sound operation ≡ true
unfolding operation integer_32 integer_64 reference
sound_operation = refl

pub sound_other_operation : sound other_operation ≡ true
unfolding other_operation other_start
sound_other_operation = refl

pub has_token_operation : consumes operation ≡ true
unfolding operation integer_32 integer_64 reference
has_token_operation = refl

pub has_token_other_operation : consumes other_operation ≡ true
unfolding other_operation other_start
has_token_other_operation = refl

pub readable_item_signature : Readable item_signature
unfolding item_signature signature_parts table_or_other memory_or_tag names global_type table_type element_type type_end memory_type limits_end segment_start type_start table_start any_reference limits_start segment limits optional_number type_use type_index signature function_type params results parameter_item with_id with_name value_type reference_type other_reference reference_parts optional_null heap_type reference name
readable_item_signature = (refl, refl)

pub readable_import_field : Readable import_field
unfolding import_field import_names item_signature signature_parts table_or_other memory_or_tag names global_type table_type element_type type_end memory_type limits_end segment_start type_start table_start any_reference limits_start segment limits optional_number type_use type_index signature function_type params results parameter_item with_id with_name value_type reference_type other_reference reference_parts optional_null heap_type reference name
readable_import_field = (refl, refl)

pub readable_memory_field : Readable memory_field
unfolding memory_field memory_parts memory_head limits optional_number head names inline_exports inline_import optional_import import_names name
readable_memory_field = (refl, refl)

pub readable_table_field : Readable table_field
unfolding table_field table_parts limits_and_type table_head limits optional_number head names inline_exports inline_import optional_import import_names value_type reference_type other_reference reference_parts optional_null heap_type reference name
readable_table_field = (refl, refl)

pub readable_func_field : Readable func_field
unfolding func_field func_parts func_rest defined_func locals_and_body imported_func locals head names inline_exports inline_import optional_import import_names instructions operation other_operation other_start integer_32 integer_64 type_use type_index signature function_type params results parameter_item with_id with_name value_type reference_type other_reference reference_parts optional_null heap_type reference name
readable_func_field = (refl, refl)

pub readable_global_field : Readable global_field
unfolding global_field global_parts global_rest defined_global imported_global global_type head names inline_exports inline_import optional_import import_names instructions operation other_operation other_start integer_32 integer_64 value_type reference_type other_reference reference_parts optional_null heap_type reference name
readable_global_field = (refl, refl)

pub readable_export_kind : Readable export_kind
unfolding export_kind
readable_export_kind = (refl, refl)

pub readable_export_field : Readable export_field
unfolding export_field exported_item export_kind reference
readable_export_field = (refl, refl)

pub readable_module_field : Readable (module_field true)
unfolding module_field import_or_more func_or_more global_or_more export_or_more table_or_memory memory_or_other other_field last_field export_field exported_item export_kind import_field item_signature signature_parts table_or_other memory_or_tag type_field type_definition other_type memory_head table_head func_field func_parts func_rest defined_func locals_and_body imported_func locals global_field global_parts global_rest defined_global imported_global global_type head names inline_exports inline_import optional_import import_names instructions operation other_operation other_start integer_32 integer_64 table_type element_type type_end memory_type limits_end segment_start type_start table_start any_reference limits_start segment limits optional_number type_use type_index signature function_type params results parameter_item with_id with_name value_type reference_type other_reference reference_parts optional_null heap_type reference name
readable_module_field = (refl, refl)

pub sound_field_group : sound field_group ≡ true
unfolding field_group noted_group note_group module_field import_or_more func_or_more global_or_more export_or_more table_or_memory memory_or_other other_field last_field export_field exported_item export_kind import_field item_signature signature_parts table_or_other memory_or_tag type_field type_definition other_type memory_head table_head func_field func_parts func_rest defined_func locals_and_body imported_func locals global_field global_parts global_rest defined_global imported_global global_type head names inline_exports inline_import optional_import import_names instructions operation other_operation other_start integer_32 integer_64 table_type element_type type_end memory_type limits_end segment_start type_start table_start any_reference limits_start segment limits optional_number type_use type_index signature function_type params results parameter_item with_id with_name value_type reference_type other_reference reference_parts optional_null heap_type reference name
sound_field_group = refl

pub has_token_field_group : consumes field_group ≡ true
unfolding field_group noted_group note_group module_field import_or_more func_or_more global_or_more export_or_more table_or_memory memory_or_other other_field last_field export_field exported_item export_kind import_field item_signature signature_parts table_or_other memory_or_tag type_field type_definition other_type memory_head table_head func_field func_parts func_rest defined_func locals_and_body imported_func locals global_field global_parts global_rest defined_global imported_global global_type head names inline_exports inline_import optional_import import_names instructions operation other_operation other_start integer_32 integer_64 table_type element_type type_end memory_type limits_end segment_start type_start table_start any_reference limits_start segment limits optional_number type_use type_index signature function_type params results parameter_item with_id with_name value_type reference_type other_reference reference_parts optional_null heap_type reference name
has_token_field_group = refl

pub sound_field_groups : sound field_groups ≡ true
unfolding field_groups field_group noted_group note_group module_field import_or_more func_or_more global_or_more export_or_more table_or_memory memory_or_other other_field last_field export_field exported_item export_kind import_field item_signature signature_parts table_or_other memory_or_tag type_field type_definition other_type memory_head table_head func_field func_parts func_rest defined_func locals_and_body imported_func locals global_field global_parts global_rest defined_global imported_global global_type head names inline_exports inline_import optional_import import_names instructions operation other_operation other_start integer_32 integer_64 table_type element_type type_end memory_type limits_end segment_start type_start table_start any_reference limits_start segment limits optional_number type_use type_index signature function_type params results parameter_item with_id with_name value_type reference_type other_reference reference_parts optional_null heap_type reference name
sound_field_groups = refl

pub readable_module_row : Readable module_row
unfolding module_row module_kind strings bytes field_groups field_group noted_group note_group module_field import_or_more func_or_more global_or_more export_or_more table_or_memory memory_or_other other_field last_field export_field exported_item export_kind import_field item_signature signature_parts table_or_other memory_or_tag type_field type_definition other_type memory_head table_head func_field func_parts func_rest defined_func locals_and_body imported_func locals global_field global_parts global_rest defined_global imported_global global_type head names inline_exports inline_import optional_import import_names instructions operation other_operation other_start integer_32 integer_64 table_type element_type type_end memory_type limits_end segment_start type_start table_start any_reference limits_start segment limits optional_number type_use type_index signature function_type params results parameter_item with_id with_name value_type reference_type other_reference reference_parts optional_null heap_type reference name
readable_module_row = (refl, refl)

pub readable_producers : Readable producers
unfolding producers producer_groups producer
readable_producers = (refl, refl)
