-- What is shown passes the test of the table.
use Rattle.std.specs.Prelude.{◌≡◌, refl, Bool, true, false, ◌&&◌, ◌||◌, List}
use Rattle.comp_model.specs.declared.Space.{Space}
use Rattle.comp_model.specs.declared.row.Row.{Row}
use Rattle.comp_model.specs.Core.{CoreValue}
use Rattle.comp_model.specs.Model.{Leaf, Node, Nodes, no_node, one_node, Defs, Scope, scope_of}
use Rattle.comp_model.specs.declared.row.ScopeKind.{ScopeKind}
use Prim.Native.String.{String}
use Rattle.print_table.specs.Lines as line
use Rattle.print_table.specs.Lines.{Field, definition_line, definition_in}
use Rattle.print_table.specs.TextOf.{kind_words, core_kind_words, outer_kind_words}
use Rattle.print_table.specs.HasText.{has_words, is_reference, line_has, leaf_has, node_has, nodes_have, definitions_have, has_text, leaf_holds_module, definition_holds_module, definitions_hold_module, holds_module}
use Rattle.print_table.specs.HasText as test
use Rattle.print_table.specs.Printable as s
use Rattle.print_table.specs.Printable.{IsText, ValuePrintable, MaybePrintable, Kind, CoreKind, OuterKind, NamedPrintable, CasePrintable, LonePrintable, NamePrintable, CoreValuePrintable, Each, CoreFunctionPrintable, CoreArgumentPrintable, CoreExportPrintable, ArgumentPrintable, ExportPrintable, StartArgumentPrintable, OptionPrintable, DescriptionPrintable, MaybeNumber, ReferencePrintable, EntityPrintable, HoldsTypes, MaybeDescription, MaybeFunction, DefPrintable, DefsPrintable, IsPrintable}

both : (a b : Bool) → a ≡ true → b ≡ true → (a && b) ≡ true
both true b p q = q
both false b p q = p

only : (a : Bool) → a ≡ true → (a && true) ≡ true
only a p = both a true p refl

-- ---- leaves

value_has : {l : Leaf} → ValuePrintable l → leaf_has l line.value ≡ true
value_has (s.a_primitive h) = refl
value_has (s.an_index h) = refl

maybe_has : {l : Leaf} → MaybePrintable l → leaf_has l (line.optional line.value) ≡ true
maybe_has s.MaybePrintable.none = refl
maybe_has (s.MaybePrintable.some h) = value_has h

maybe_in : (x : String) {l : Leaf} → MaybePrintable l → leaf_has l (line.optional_in x line.value) ≡ true
maybe_in x s.MaybePrintable.none = refl
maybe_in x (s.MaybePrintable.some h) = value_has h

number_has : {l : Leaf} → MaybeNumber l → leaf_has l (line.optional line.number) ≡ true
number_has s.MaybeNumber.none = refl
number_has (s.MaybeNumber.some h) = refl

function_in : (x : String) {l : Leaf} → MaybeFunction l → leaf_has l (line.optional_in x line.number) ≡ true
function_in x s.MaybeFunction.none = refl
function_in x (s.MaybeFunction.some h) = refl

kind_has : {k : Space} → Kind k → has_words (kind_words k) ≡ true
kind_has s.Kind.core_module = refl
kind_has s.Kind.func = refl
kind_has s.Kind.value = refl
kind_has s.Kind.type = refl
kind_has s.Kind.component = refl
kind_has s.Kind.instance = refl

core_kind_has : {k : Space} → CoreKind k → has_words (core_kind_words k) ≡ true
core_kind_has s.CoreKind.func = refl
core_kind_has s.CoreKind.table = refl
core_kind_has s.CoreKind.memory = refl
core_kind_has s.CoreKind.global = refl
core_kind_has s.CoreKind.a_tag = refl

outer_kind_has : {k : Space} → OuterKind k → has_words (outer_kind_words k) ≡ true
outer_kind_has s.OuterKind.core_module = refl
outer_kind_has s.OuterKind.core_type = refl
outer_kind_has s.OuterKind.type = refl
outer_kind_has s.OuterKind.component = refl

reference_has : {v : CoreValue} → ReferencePrintable v → is_reference v ≡ true
reference_has s.ReferencePrintable.func = refl
reference_has s.ReferencePrintable.extern = refl
reference_has (s.ReferencePrintable.index h) = refl

-- ---- rows in rows

each_has : {P : Node → Type 0} → ((n : Node) → P n → node_has n ≡ true) → (ns : Nodes) → Each P ns → nodes_have ns ≡ true
each_has f no_node h = refl
each_has f (one_node n ns) (h, hs) = both _ _ (f n h) (each_has f ns hs)

named_has : (n : Node) → NamedPrintable n → node_has n ≡ true
named_has n (s.named t v) = both _ _ t.utf8 (only _ (value_has v))

case_has : (n : Node) → CasePrintable n → node_has n ≡ true
case_has n (s.case t v) = both _ _ t.utf8 (only _ (maybe_has v))

lone_has : (n : Node) → LonePrintable n → node_has n ≡ true
lone_has n (s.lone v) = only _ (value_has v)

name_has : (n : Node) → NamePrintable n → node_has n ≡ true
name_has n (s.name t) = only _ t.utf8

core_value_has : (n : Node) → CoreValuePrintable n → node_has n ≡ true
core_value_has n (s.a_value v) = refl

core_function_has : (n : Node) → CoreFunctionPrintable n → node_has n ≡ true
core_function_has n (s.function {ps = ps} {rs = rs} a b) = both _ _ (each_has core_value_has ps a) (only _ (each_has core_value_has rs b))

core_argument_has : (n : Node) → CoreArgumentPrintable n → node_has n ≡ true
core_argument_has n (s.CoreArgumentPrintable.with t i) = only _ t.utf8

core_export_has : (n : Node) → CoreExportPrintable n → node_has n ≡ true
core_export_has n (s.CoreExportPrintable.export t k i) = both _ _ t.utf8 (only _ (core_kind_has k))

argument_has : (n : Node) → ArgumentPrintable n → node_has n ≡ true
argument_has n (s.ArgumentPrintable.with t k i) = both _ _ t.utf8 (only _ (kind_has k))

export_has : (n : Node) → ExportPrintable n → node_has n ≡ true
export_has n (s.ExportPrintable.export t k i) = both _ _ t.utf8 (only _ (kind_has k))

start_argument_has : (n : Node) → StartArgumentPrintable n → node_has n ≡ true
start_argument_has n (s.StartArgumentPrintable.argument i) = refl

option_has : (n : Node) → OptionPrintable n → node_has n ≡ true
option_has n s.OptionPrintable.utf8 = refl
option_has n s.OptionPrintable.utf16 = refl
option_has n s.OptionPrintable.latin1_utf16 = refl
option_has n s.OptionPrintable.async = refl
option_has n (s.OptionPrintable.memory i) = refl
option_has n (s.OptionPrintable.realloc i) = refl
option_has n (s.OptionPrintable.post_return i) = refl
option_has n (s.OptionPrintable.callback i) = refl

description_has : {n : Node} → DescriptionPrintable n → node_has n ≡ true
description_has (s.module_of i) = refl
description_has (s.func_of i) = refl
description_has (s.component_of i) = refl
description_has (s.instance_of i) = refl
description_has (s.equal_to i) = refl
description_has s.resource = refl

maybe_description_has : {l : Leaf} → MaybeDescription l → leaf_has l (line.optional line.one) ≡ true
maybe_description_has s.MaybeDescription.none = refl
maybe_description_has (s.MaybeDescription.some h) = description_has h

entity_has : {n : Node} → EntityPrintable n → node_has n ≡ true
entity_has (s.EntityPrintable.func i) = refl
entity_has (s.EntityPrintable.table v n l) = both _ _ (number_has l) (only _ (reference_has v))
entity_has (s.EntityPrintable.memory n l) = only _ (number_has l)
entity_has (s.EntityPrintable.constant v) = refl
entity_has (s.EntityPrintable.mutable v) = refl

-- ---- definitions

in_types : {k : ScopeKind} (t : Row) (gs : List (Field → Bool)) → HoldsTypes k → line_has (definition_line t) gs ≡ true → line_has (definition_in k t) gs ≡ true
in_types t gs s.HoldsTypes.a_component h = h
in_types t gs s.HoldsTypes.a_component_type h = h
in_types t gs s.HoldsTypes.an_instance_type h = h

mutual
  definition_has : {k : ScopeKind} {n : Node} → DefPrintable k n → test.definition_has k n ≡ true
  definition_has (s.DefPrintable.primitive a b) = in_types _ _ a refl
  definition_has (s.DefPrintable.record_type {ns = nsx} a b) = in_types _ _ a (only _ (each_has named_has nsx b))
  definition_has (s.DefPrintable.variant_type {ns = nsx} a b) = in_types _ _ a (only _ (each_has case_has nsx b))
  definition_has (s.DefPrintable.list_type a b) = in_types _ _ a (only _ (value_has b))
  definition_has (s.DefPrintable.fixed_length_list_type a b c) = in_types _ _ a (only _ (value_has b))
  definition_has (s.DefPrintable.tuple_type {ns = nsx} a b) = in_types _ _ a (only _ (each_has lone_has nsx b))
  definition_has (s.DefPrintable.flags_type {ns = nsx} a b) = in_types _ _ a (only _ (each_has name_has nsx b))
  definition_has (s.DefPrintable.enum_type {ns = nsx} a b) = in_types _ _ a (only _ (each_has name_has nsx b))
  definition_has (s.DefPrintable.option_type a b) = in_types _ _ a (only _ (value_has b))
  definition_has (s.DefPrintable.result_type a b c) = in_types _ _ a (both _ _ (maybe_has b) (only _ (maybe_in "error" c)))
  definition_has (s.DefPrintable.own_type a b) = in_types _ _ a refl
  definition_has (s.DefPrintable.borrow_type a b) = in_types _ _ a refl
  definition_has (s.DefPrintable.stream_type a b) = in_types _ _ a (only _ (maybe_has b))
  definition_has (s.DefPrintable.future_type a b) = in_types _ _ a (only _ (maybe_has b))
  definition_has (s.DefPrintable.plain_function {ns = nsx} a b c) = in_types _ _ a (both _ _ (each_has named_has nsx b) (only _ (maybe_in "result" c)))
  definition_has (s.DefPrintable.async_function {ns = nsx} a b c) = in_types _ _ a (both _ _ (each_has named_has nsx b) (only _ (maybe_in "result" c)))
  definition_has (s.DefPrintable.component_type a b) = in_types _ _ a (only _ (definitions_had b))
  definition_has (s.DefPrintable.instance_type a b) = in_types _ _ a (only _ (definitions_had b))
  definition_has (s.DefPrintable.resource_type a b c) = in_types _ _ a (only _ (function_in "dtor" c))
  definition_has (s.DefPrintable.core_function_type {ps = psx} {rs = rsx} a b c) = in_types _ _ a (both _ _ (each_has core_value_has psx b) (only _ (each_has core_value_has rsx c)))
  definition_has (s.DefPrintable.core_rec {ns = nsx} a b) = in_types _ _ a (only _ (each_has core_function_has nsx b))
  definition_has (s.DefPrintable.module_type a b) = in_types _ _ a (only _ (definitions_had b))
  definition_has (s.DefPrintable.alias_export a b c d) = in_types _ _ a (both _ _ c.utf8 (only _ (kind_has d)))
  definition_has (s.DefPrintable.alias_core_export a b c d) = in_types _ _ a (both _ _ c.utf8 (only _ (core_kind_has d)))
  definition_has (s.DefPrintable.alias_outer a b c d) = in_types _ _ a (only _ (outer_kind_has d))
  definition_has (s.DefPrintable.core_instantiate {ns = nsx} a b) = only _ (each_has core_argument_has nsx b)
  definition_has (s.DefPrintable.core_bundle {ns = nsx} a) = only _ (each_has core_export_has nsx a)
  definition_has (s.DefPrintable.component a) = only _ (definitions_had a)
  definition_has (s.DefPrintable.instantiate {ns = nsx} a b) = only _ (each_has argument_has nsx b)
  definition_has (s.DefPrintable.bundle {ns = nsx} a) = only _ (each_has export_has nsx a)
  definition_has (s.DefPrintable.lift {ns = nsx} a b c) = only _ (each_has option_has nsx c)
  definition_has (s.DefPrintable.lower {ns = nsx} a b) = only _ (each_has option_has nsx b)
  definition_has s.DefPrintable.task_cancel = refl
  definition_has s.DefPrintable.subtask_drop = refl
  definition_has s.DefPrintable.error_context_drop = refl
  definition_has s.DefPrintable.waitable_set_new = refl
  definition_has s.DefPrintable.waitable_set_drop = refl
  definition_has s.DefPrintable.waitable_join = refl
  definition_has s.DefPrintable.backpressure_inc = refl
  definition_has s.DefPrintable.backpressure_dec = refl
  definition_has s.DefPrintable.thread_available_parallelism = refl
  definition_has (s.DefPrintable.resource_new a) = refl
  definition_has (s.DefPrintable.resource_drop a) = refl
  definition_has (s.DefPrintable.resource_rep a) = refl
  definition_has (s.DefPrintable.stream_new a) = refl
  definition_has (s.DefPrintable.stream_drop_readable a) = refl
  definition_has (s.DefPrintable.stream_drop_writable a) = refl
  definition_has (s.DefPrintable.future_new a) = refl
  definition_has (s.DefPrintable.future_drop_readable a) = refl
  definition_has (s.DefPrintable.future_drop_writable a) = refl
  definition_has (s.DefPrintable.stream_read {ns = nsx} a b) = only _ (each_has option_has nsx b)
  definition_has (s.DefPrintable.stream_write {ns = nsx} a b) = only _ (each_has option_has nsx b)
  definition_has (s.DefPrintable.future_read {ns = nsx} a b) = only _ (each_has option_has nsx b)
  definition_has (s.DefPrintable.future_write {ns = nsx} a b) = only _ (each_has option_has nsx b)
  definition_has (s.DefPrintable.stream_cancel_read_0 a) = refl
  definition_has (s.DefPrintable.stream_cancel_read_1 a) = refl
  definition_has (s.DefPrintable.stream_cancel_write_0 a) = refl
  definition_has (s.DefPrintable.stream_cancel_write_1 a) = refl
  definition_has (s.DefPrintable.future_cancel_read_0 a) = refl
  definition_has (s.DefPrintable.future_cancel_read_1 a) = refl
  definition_has (s.DefPrintable.future_cancel_write_0 a) = refl
  definition_has (s.DefPrintable.future_cancel_write_1 a) = refl
  definition_has s.DefPrintable.subtask_cancel_0 = refl
  definition_has s.DefPrintable.subtask_cancel_1 = refl
  definition_has (s.DefPrintable.error_context_new {ns = nsx} a) = only _ (each_has option_has nsx a)
  definition_has (s.DefPrintable.error_context_debug_message {ns = nsx} a) = only _ (each_has option_has nsx a)
  definition_has (s.DefPrintable.context_get a b) = refl
  definition_has (s.DefPrintable.context_set a b) = refl
  definition_has (s.DefPrintable.task_return {ns = nsx} a b) = both _ _ (maybe_in "result" a) (only _ (each_has option_has nsx b))
  definition_has (s.DefPrintable.thread_spawn_ref a) = refl
  definition_has (s.DefPrintable.thread_spawn_indirect a b) = refl
  definition_has (s.DefPrintable.start {ns = nsx} a b) = only _ (each_has start_argument_has nsx b)
  definition_has (s.DefPrintable.import a b) = both _ _ a.utf8 (only _ (description_has b))
  definition_has (s.DefPrintable.import_in_type a b) = both _ _ a.utf8 (only _ (description_has b))
  definition_has (s.DefPrintable.export a b c d) = both _ _ a.utf8 (both _ _ (kind_has c) (only _ (maybe_description_has b)))
  definition_has (s.DefPrintable.export_in_component_type a b) = both _ _ a.utf8 (only _ (description_has b))
  definition_has (s.DefPrintable.export_in_instance_type a b) = both _ _ a.utf8 (only _ (description_has b))
  definition_has (s.DefPrintable.custom a b) = only _ a.utf8
  definition_has (s.DefPrintable.module_function_type {ps = psx} {rs = rsx} a b) = both _ _ (each_has core_value_has psx a) (only _ (each_has core_value_has rsx b))
  definition_has (s.DefPrintable.module_rec {ns = nsx} a) = only _ (each_has core_function_has nsx a)
  definition_has (s.DefPrintable.module_alias a b) = refl
  definition_has (s.DefPrintable.module_import a b c) = both _ _ a.utf8 (both _ _ b.utf8 (only _ (entity_has c)))
  definition_has (s.DefPrintable.module_export a b) = both _ _ a.utf8 (only _ (entity_has b))

  definitions_had : {k : ScopeKind} {ds : Defs} → DefsPrintable k ds → definitions_have k ds ≡ true
  definitions_had s.DefsPrintable.no_more = refl
  definitions_had (s.DefsPrintable.one_more d ds) = both _ _ (definition_has d) (definitions_had ds)

-- what is shown has a text, as the test has it
pub printable_has_text : (b : Scope) → IsPrintable b → has_text b ≡ true
printable_has_text (scope_of k id label ds) (s.IsPrintable.of_definitions h) = definitions_had h

-- ---- no core module

neither : (a b : Bool) → a ≡ false → b ≡ false → (a || b) ≡ false
neither true b p q = p
neither false b p q = q

last : (a : Bool) → a ≡ false → (a || false) ≡ false
last a p = neither a false p refl

value_none : {l : Leaf} → ValuePrintable l → leaf_holds_module l ≡ false
value_none (s.a_primitive h) = refl
value_none (s.an_index h) = refl

maybe_none : {l : Leaf} → MaybePrintable l → leaf_holds_module l ≡ false
maybe_none s.MaybePrintable.none = refl
maybe_none (s.MaybePrintable.some h) = refl

function_none : {l : Leaf} → MaybeFunction l → leaf_holds_module l ≡ false
function_none s.MaybeFunction.none = refl
function_none (s.MaybeFunction.some h) = refl

description_none : {l : Leaf} → MaybeDescription l → leaf_holds_module l ≡ false
description_none s.MaybeDescription.none = refl
description_none (s.MaybeDescription.some h) = refl

mutual
  definition_none : {k : ScopeKind} {n : Node} → DefPrintable k n → definition_holds_module n ≡ false
  definition_none (s.DefPrintable.primitive a b) = refl
  definition_none (s.DefPrintable.record_type a b) = refl
  definition_none (s.DefPrintable.variant_type a b) = refl
  definition_none (s.DefPrintable.list_type a b) = last _ (value_none b)
  definition_none (s.DefPrintable.fixed_length_list_type a b c) = last _ (value_none b)
  definition_none (s.DefPrintable.tuple_type a b) = refl
  definition_none (s.DefPrintable.flags_type a b) = refl
  definition_none (s.DefPrintable.enum_type a b) = refl
  definition_none (s.DefPrintable.option_type a b) = last _ (value_none b)
  definition_none (s.DefPrintable.result_type a b c) = neither _ _ (maybe_none b) (last _ (maybe_none c))
  definition_none (s.DefPrintable.own_type a b) = refl
  definition_none (s.DefPrintable.borrow_type a b) = refl
  definition_none (s.DefPrintable.stream_type a b) = last _ (maybe_none b)
  definition_none (s.DefPrintable.future_type a b) = last _ (maybe_none b)
  definition_none (s.DefPrintable.plain_function a b c) = last _ (maybe_none c)
  definition_none (s.DefPrintable.async_function a b c) = last _ (maybe_none c)
  definition_none (s.DefPrintable.component_type a b) = last _ (definitions_none b)
  definition_none (s.DefPrintable.instance_type a b) = last _ (definitions_none b)
  definition_none (s.DefPrintable.resource_type a b c) = last _ (function_none c)
  definition_none (s.DefPrintable.core_function_type a b c) = refl
  definition_none (s.DefPrintable.core_rec a b) = refl
  definition_none (s.DefPrintable.module_type a b) = last _ (definitions_none b)
  definition_none (s.DefPrintable.alias_export a b c d) = refl
  definition_none (s.DefPrintable.alias_core_export a b c d) = refl
  definition_none (s.DefPrintable.alias_outer a b c d) = refl
  definition_none (s.DefPrintable.core_instantiate a b) = refl
  definition_none (s.DefPrintable.core_bundle a) = refl
  definition_none (s.DefPrintable.component a) = last _ (definitions_none a)
  definition_none (s.DefPrintable.instantiate a b) = refl
  definition_none (s.DefPrintable.bundle a) = refl
  definition_none (s.DefPrintable.lift a b c) = refl
  definition_none (s.DefPrintable.lower a b) = refl
  definition_none s.DefPrintable.task_cancel = refl
  definition_none s.DefPrintable.subtask_drop = refl
  definition_none s.DefPrintable.error_context_drop = refl
  definition_none s.DefPrintable.waitable_set_new = refl
  definition_none s.DefPrintable.waitable_set_drop = refl
  definition_none s.DefPrintable.waitable_join = refl
  definition_none s.DefPrintable.backpressure_inc = refl
  definition_none s.DefPrintable.backpressure_dec = refl
  definition_none s.DefPrintable.thread_available_parallelism = refl
  definition_none (s.DefPrintable.resource_new a) = refl
  definition_none (s.DefPrintable.resource_drop a) = refl
  definition_none (s.DefPrintable.resource_rep a) = refl
  definition_none (s.DefPrintable.stream_new a) = refl
  definition_none (s.DefPrintable.stream_drop_readable a) = refl
  definition_none (s.DefPrintable.stream_drop_writable a) = refl
  definition_none (s.DefPrintable.future_new a) = refl
  definition_none (s.DefPrintable.future_drop_readable a) = refl
  definition_none (s.DefPrintable.future_drop_writable a) = refl
  definition_none (s.DefPrintable.stream_read a b) = refl
  definition_none (s.DefPrintable.stream_write a b) = refl
  definition_none (s.DefPrintable.future_read a b) = refl
  definition_none (s.DefPrintable.future_write a b) = refl
  definition_none (s.DefPrintable.stream_cancel_read_0 a) = refl
  definition_none (s.DefPrintable.stream_cancel_read_1 a) = refl
  definition_none (s.DefPrintable.stream_cancel_write_0 a) = refl
  definition_none (s.DefPrintable.stream_cancel_write_1 a) = refl
  definition_none (s.DefPrintable.future_cancel_read_0 a) = refl
  definition_none (s.DefPrintable.future_cancel_read_1 a) = refl
  definition_none (s.DefPrintable.future_cancel_write_0 a) = refl
  definition_none (s.DefPrintable.future_cancel_write_1 a) = refl
  definition_none s.DefPrintable.subtask_cancel_0 = refl
  definition_none s.DefPrintable.subtask_cancel_1 = refl
  definition_none (s.DefPrintable.error_context_new a) = refl
  definition_none (s.DefPrintable.error_context_debug_message a) = refl
  definition_none (s.DefPrintable.context_get a b) = refl
  definition_none (s.DefPrintable.context_set a b) = refl
  definition_none (s.DefPrintable.task_return a b) = last _ (maybe_none a)
  definition_none (s.DefPrintable.thread_spawn_ref a) = refl
  definition_none (s.DefPrintable.thread_spawn_indirect a b) = refl
  definition_none (s.DefPrintable.start a b) = refl
  definition_none (s.DefPrintable.import a b) = refl
  definition_none (s.DefPrintable.import_in_type a b) = refl
  definition_none (s.DefPrintable.export a b c d) = last _ (description_none b)
  definition_none (s.DefPrintable.export_in_component_type a b) = refl
  definition_none (s.DefPrintable.export_in_instance_type a b) = refl
  definition_none (s.DefPrintable.custom a b) = refl
  definition_none (s.DefPrintable.module_function_type a b) = refl
  definition_none (s.DefPrintable.module_rec a) = refl
  definition_none (s.DefPrintable.module_alias a b) = refl
  definition_none (s.DefPrintable.module_import a b c) = refl
  definition_none (s.DefPrintable.module_export a b) = refl

  definitions_none : {k : ScopeKind} {ds : Defs} → DefsPrintable k ds → definitions_hold_module ds ≡ false
  definitions_none s.DefsPrintable.no_more = refl
  definitions_none (s.DefsPrintable.one_more d ds) = neither _ _ (definition_none d) (definitions_none ds)

pub printable_holds_none : (b : Scope) → IsPrintable b → holds_module b ≡ false
printable_holds_none (scope_of k id label ds) (s.IsPrintable.of_definitions h) = definitions_none h
