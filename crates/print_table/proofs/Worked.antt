-- Texts of components, row by row.
use Rattle.std.specs.Prelude.{◌≡◌, ℕ, List, [], ◌∷◌, refl, codes, None, true, false}
use Prim.Native.String.{String}
use Rattle.comp_model.specs.declared.Space.TheVariants as space
use Rattle.comp_model.specs.declared.row.Row.TheVariants as rows
use Rattle.comp_model.specs.Core.{counted, i32, ref_func, ref_extern, ref_index}
use Rattle.comp_model.specs.Model as m
use Rattle.comp_model.specs.declared.row.ScopeKind.TheVariants as kinds
use Rattle.comp_model.specs.Model.{Node, Nodes, no_node, one_node, Def, define, Defs, no_def, one_def, no_names, Scope, scope_of, Leaf, ref, present, absent, number, nodes, index, Target}
use Rattle.comp_model.specs.declared.row.ScopeKind.{ScopeKind}
use Rattle.comp_model.specs.Makers as make
use Rattle.std.specs.Fmt.{digits}
use Rattle.std.specs.Str.{is_utf8, chars}
use Rattle.std.specs.Char.{encode_utf8}
use Rattle.print_table.specs.TextOf.{text_of}
use Rattle.print_table.specs.HasText.{has_text, holds_module}

abbrev defs : List Node → Defs
defs [] = no_def
defs (n ∷ ns) = one_def (define no_names n) (defs ns)

abbrev node_list : List Node → Nodes
node_list [] = no_node
node_list (n ∷ ns) = one_node n (node_list ns)

abbrev of_kind : ScopeKind → List Node → Scope
of_kind k ns = scope_of k None None (defs ns)

abbrev component : List Node → Scope
component ns = of_kind kinds.Component ns

abbrev text : String → Leaf
text x = m.text (codes x)

abbrev a_type : ℕ → Leaf
a_type n = ref space.Ty (index n)

-- a component of one definition, and its text
abbrev Prints : Node → String → Type 0
Prints n x = text_of (component (n ∷ [])) ≡ codes x

-- an import of a function, and a list of itself
example_import : text_of (component (make.function_type 0 no_node absent ∷ make.import_row (text "i") (make.described_by rows.FuncDescription (index 0)) ∷ [])) ≡ codes "(component (type (func)) (import \"i\" (func (type 0))))"
unfolding digits
example_import = refl

example_list : Prints (make.list_type (a_type 0)) "(component (type (list 0)))"
unfolding digits
example_list = refl

-- a name section is left out, there and in a component in it
example_names : text_of (component (make.component (component (make.custom (codes "component-name") [] ∷ make.primitive 0x7d ∷ [])) ∷ make.custom (codes "component-name") (1 ∷ []) ∷ [])) ≡ codes "(component (component (type u8)))"
unfolding digits
example_names = refl

-- core instances
core_instantiate : Prints (make.core_instantiate (index 3) (node_list (make.core_argument (codes "a") (index 4) ∷ make.core_argument (codes "b") (index 10) ∷ []))) "(component (core instance (instantiate 3 (with \"a\" (instance 4)) (with \"b\" (instance 10)))))"
unfolding digits
core_instantiate = refl

core_bundle : Prints (make.core_bundle (node_list (make.core_bundle_export (codes "d") space.CoreFunc (index 0) ∷ make.core_bundle_export (codes "t") space.CoreTag (index 1) ∷ []))) "(component (core instance (export \"d\" (func 0)) (export \"t\" (tag 1))))"
unfolding digits
core_bundle = refl

-- core types
core_function_type : Prints (make.core_function_type (node_list (make.core_value_type i32 ∷ make.core_value_type (ref_func true) ∷ make.core_value_type (ref_func false) ∷ [])) (node_list (make.core_value_type (ref_index true 7) ∷ [])))
    "(component (core type (func (param i32) (param funcref) (param (ref func)) (result (ref null 7)))))"
unfolding digits
core_function_type = refl

core_rec : Prints (make.core_rec (node_list (make.core_function_type no_node no_node ∷ make.core_function_type no_node (node_list (make.core_value_type (ref_extern true) ∷ [])) ∷ []))) "(component (core rec (type (func)) (type (func (result externref)))))"
unfolding digits
core_rec = refl

module_type : Prints
    (make.module_type (of_kind kinds.ModuleType
    (make.core_function_type no_node no_node
    ∷ make.core_rec (node_list (make.core_function_type no_node no_node ∷ []))
    ∷ make.alias_outer (counted 0 1) (index 2) space.CoreType
    ∷ make.module_import (codes "a") (codes "b") (make.func_entity (index 0))
    ∷ make.module_export (codes "t") (make.table_entity (ref_func true) 1 (present (number 2)))
    ∷ make.module_export (codes "u") (make.table_entity (ref_index false 2) 0 absent)
    ∷ make.module_export (codes "m") (make.memory_entity 1 absent)
    ∷ make.module_export (codes "g") (make.global_entity i32 1)
    ∷ make.module_export (codes "h") (make.global_entity (ref_extern true) 0) ∷ [])))
    "(component (core type (module (type (func)) (rec (type (func))) (alias outer 1 2 (type)) (import \"a\" \"b\" (func (type 0))) (export \"t\" (table 1 2 funcref)) (export \"u\" (table 0 (ref 2))) (export \"m\" (memory 1)) (export \"g\" (global (mut i32))) (export \"h\" (global externref)))))"
unfolding digits
module_type = refl

-- components, instances and aliases
inner_component : Prints (make.component (component (make.primitive 0x7f ∷ []))) "(component (component (type bool)))"
unfolding digits
inner_component = refl

instantiate : Prints (make.instantiate (index 1) (node_list (make.argument (codes "m") space.CoreModule (index 2) ∷ make.argument (codes "v") space.Value (index 3) ∷ []))) "(component (instance (instantiate 1 (with \"m\" (core module 2)) (with \"v\" (value 3)))))"
unfolding digits
instantiate = refl

bundle : Prints (make.bundle (node_list (make.bundle_export (text "f") space.Func (index 2) ∷ make.bundle_export (text "i") space.Instance (index 0) ∷ []))) "(component (instance (export \"f\" (func 2)) (export \"i\" (instance 0))))"
unfolding digits
bundle = refl

no_bundle : Prints (make.bundle no_node) "(component (instance))"
unfolding digits
no_bundle = refl

alias_export : Prints (make.alias_export (index 5) (codes "x") space.Component) "(component (alias export 5 \"x\" (component)))"
unfolding digits
alias_export = refl

alias_core_export : Prints (make.alias_core_export (index 5) (codes "x") space.CoreMemory) "(component (alias core export 5 \"x\" (core memory)))"
unfolding digits
alias_core_export = refl

alias_outer : Prints (make.alias_outer (counted 0 9) (index 9) space.Ty) "(component (alias outer 9 9 (type)))"
unfolding digits
alias_outer = refl

alias_outer_core : Prints (make.alias_outer (counted 0 1) (index 0) space.CoreModule) "(component (alias outer 1 0 (core module)))"
unfolding digits
alias_outer_core = refl

-- types
types : text_of (component
    (make.record_type (node_list (make.named_type (codes "a") (number 0x73) ∷ make.named_type (codes "b") (a_type 4) ∷ []))
    ∷ make.variant_type (node_list (make.case_type None (codes "c") absent ∷ make.case_type None (codes "d") (present (number 0x64)) ∷ []))
    ∷ make.fixed_length_list_type (number 0x76) 12
    ∷ make.tuple_type (node_list (make.lone_type (number 0x75) ∷ make.lone_type (a_type 0) ∷ []))
    ∷ make.flags_type (node_list (make.lone_name (codes "x") ∷ make.lone_name (codes "y") ∷ []))
    ∷ make.enum_type (node_list (make.lone_name (codes "z") ∷ []))
    ∷ make.option_type (number 0x74)
    ∷ make.result_type absent absent
    ∷ make.result_type (present (number 0x7e)) (present (a_type 3))
    ∷ make.own_type (index 1)
    ∷ make.borrow_type (index 2)
    ∷ make.stream_type absent
    ∷ make.future_type (present (number 0x7c)) ∷ []))
    ≡ codes "(component (type (record (field \"a\" string) (field \"b\" 4))) (type (variant (case \"c\") (case \"d\" error-context))) (type (list f32 12)) (type (tuple f64 0)) (type (flags \"x\" \"y\")) (type (enum \"z\")) (type (option char)) (type (result)) (type (result s8 (error 3))) (type (own 1)) (type (borrow 2)) (type (stream)) (type (future s16)))"
unfolding digits
types = refl

function_type : Prints (make.function_type 1 (node_list (make.named_type (codes "p") (number 0x7b) ∷ [])) (present (number 0x7a))) "(component (type (func async (param \"p\" u16) (result s32))))"
unfolding digits
function_type = refl

component_type : Prints
    (make.component_type (of_kind kinds.ComponentType (make.primitive 0x79 ∷ make.import_row (text "i") (make.described_by rows.TypeEq (index 0)) ∷ make.export_type (text "e") make.sub_resource ∷ [])))
    "(component (type (component (type u32) (import \"i\" (type (eq 0))) (export \"e\" (type (sub resource))))))"
unfolding digits
component_type = refl

instance_type : Prints
    (make.instance_type (of_kind kinds.InstanceType
    (make.core_function_type no_node no_node ∷ make.alias_outer (counted 0 1) (index 0) space.CoreType ∷ make.export_type (text "e") (make.module_description (index 0)) ∷ [])))
    "(component (type (instance (core type (func)) (alias outer 1 0 (core type)) (export \"e\" (core module (type 0))))))"
unfolding digits
instance_type = refl

resource_type : text_of (component (make.resource_type i32 absent ∷ make.resource_type i32 (present (ref space.CoreFunc (index 3))) ∷ [])) ≡ codes "(component (type (resource (rep i32))) (type (resource (rep i32) (dtor 3))))"
unfolding digits
resource_type = refl

-- canonical functions
lift : Prints
    (make.lift (index 0) (index 1) (node_list (make.plain_option rows.OptionUtf8 ∷ make.option_memory (index 2) ∷ make.option_of_function rows.OptionRealloc (index 3) ∷ make.plain_option rows.OptionAsync ∷ [])))
    "(component (canon lift (core func 1) string-encoding=utf8 (memory 2) (realloc 3) async (func (type 0))))"
unfolding digits
lift = refl

lower : Prints (make.lower (index 4) (node_list (make.plain_option rows.OptionLatin1Utf16 ∷ make.option_of_function rows.OptionPostReturn (index 3) ∷ make.option_of_function rows.OptionCallback (index 5) ∷ make.plain_option rows.OptionUtf16 ∷ [])))
    "(component (canon lower (func 4) string-encoding=latin1+utf16 (post-return 3) (callback 5) string-encoding=utf16 (core func)))"
unfolding digits
lower = refl

built_ins : text_of (component
    (make.of_type rows.ResourceNew (index 0) ∷ make.of_type rows.ResourceDrop (index 0) ∷ make.of_type rows.ResourceRep (index 0)
    ∷ make.built_in rows.TaskCancel ∷ make.subtask_cancel 1 ∷ make.built_in rows.SubtaskDrop
    ∷ make.task_return (present (number 0x7d)) (node_list (make.plain_option rows.OptionUtf8 ∷ [])) ∷ make.task_return absent no_node
    ∷ make.of_context rows.ContextGet i32 1 ∷ make.of_context rows.ContextSet i32 0 ∷ []))
    ≡ codes "(component (canon resource.new 0 (core func)) (canon resource.drop 0 (core func)) (canon resource.rep 0 (core func)) (canon task.cancel (core func)) (canon subtask.cancel async (core func)) (canon subtask.drop (core func)) (canon task.return (result u8) string-encoding=utf8 (core func)) (canon task.return (core func)) (canon context.get i32 1 (core func)) (canon context.set i32 0 (core func)))"
unfolding digits
built_ins = refl

streams : text_of (component
    (make.of_type rows.StreamNew (index 1) ∷ make.of_type_with rows.StreamRead (index 1) (node_list (make.option_memory (index 0) ∷ [])) ∷ make.of_type_with rows.StreamWrite (index 1) no_node
    ∷ make.of_type_async rows.StreamCancelRead (index 1) 1 ∷ make.of_type_async rows.StreamCancelWrite (index 1) 0
    ∷ make.of_type rows.StreamDropReadable (index 1) ∷ make.of_type rows.StreamDropWritable (index 1) ∷ []))
    ≡ codes "(component (canon stream.new 1 (core func)) (canon stream.read 1 (memory 0) (core func)) (canon stream.write 1 (core func)) (canon stream.cancel-read 1 async (core func)) (canon stream.cancel-write 1 (core func)) (canon stream.drop-readable 1 (core func)) (canon stream.drop-writable 1 (core func)))"
unfolding digits
streams = refl

futures : text_of (component
    (make.of_type rows.FutureNew (index 1) ∷ make.of_type_with rows.FutureRead (index 1) no_node ∷ make.of_type_with rows.FutureWrite (index 1) no_node
    ∷ make.of_type_async rows.FutureCancelRead (index 1) 0 ∷ make.of_type_async rows.FutureCancelWrite (index 1) 1
    ∷ make.of_type rows.FutureDropReadable (index 1) ∷ make.of_type rows.FutureDropWritable (index 1) ∷ []))
    ≡ codes "(component (canon future.new 1 (core func)) (canon future.read 1 (core func)) (canon future.write 1 (core func)) (canon future.cancel-read 1 (core func)) (canon future.cancel-write 1 async (core func)) (canon future.drop-readable 1 (core func)) (canon future.drop-writable 1 (core func)))"
unfolding digits
futures = refl

further : text_of (component
    (make.of_options rows.ErrorContextNew (node_list (make.plain_option rows.OptionUtf8 ∷ [])) ∷ make.of_options rows.ErrorContextDebugMessage no_node ∷ make.built_in rows.ErrorContextDrop
    ∷ make.built_in rows.WaitableSetNew ∷ make.built_in rows.WaitableSetDrop ∷ make.built_in rows.WaitableJoin ∷ make.built_in rows.BackpressureInc ∷ make.built_in rows.BackpressureDec
    ∷ make.thread_spawn_ref (index 0) ∷ make.thread_spawn_indirect (index 0) (index 1) ∷ make.built_in rows.ThreadAvailableParallelism ∷ []))
    ≡ codes "(component (canon error-context.new string-encoding=utf8 (core func)) (canon error-context.debug-message (core func)) (canon error-context.drop (core func)) (canon waitable-set.new (core func)) (canon waitable-set.drop (core func)) (canon waitable.join (core func)) (canon backpressure.inc (core func)) (canon backpressure.dec (core func)) (canon thread.spawn-ref 0 (core func)) (canon thread.spawn-indirect 0 1 (core func)) (canon thread.available-parallelism (core func)))"
unfolding digits
further = refl

-- start, imports and exports, custom sections
start : Prints (make.start (index 0) (node_list (make.start_argument (index 1) ∷ make.start_argument (index 2) ∷ [])) (m.result_count 2)) "(component (start 0 (value 1) (value 2) (result (value)) (result (value))))"
unfolding digits
start = refl

imports : text_of (component
    (make.import_row (text "m") (make.module_description (index 0))
    ∷ make.import_row (text "c") (make.described_by rows.ComponentDescription (index 1))
    ∷ make.import_row (text "i") (make.described_by rows.InstanceDescription (index 2)) ∷ []))
    ≡ codes "(component (import \"m\" (core module (type 0))) (import \"c\" (component (type 1))) (import \"i\" (instance (type 2))))"
unfolding digits
imports = refl

exports : text_of (component
    (make.export_row (text "f") absent space.Func (index 0)
    ∷ make.export_row (text "t") (present (m.node (make.described_by rows.TypeEq (index 1)))) space.Ty (index 2) ∷ []))
    ≡ codes "(component (export \"f\" (func 0)) (export \"t\" (type 2) (type (eq 1))))"
unfolding digits
exports = refl

custom : Prints (make.custom (codes "a\"\\b") (0 ∷ 10 ∷ 0x41 ∷ 0x7e ∷ 0x7f ∷ 0xff ∷ [])) "(component (@custom \"a\\22\\5cb\" \"\\00\\0aA~\\7f\\ff\"))"
unfolding digits
custom = refl

-- ---- without a text

core_memory_exported : has_text (component (make.export_row (text "m") absent space.CoreMemory (index 0) ∷ [])) ≡ false
unfolding is_utf8 chars encode_utf8
core_memory_exported = refl

core_instance_aliased : has_text (component (make.alias_export (index 0) (codes "x") space.CoreFunc ∷ [])) ≡ false
unfolding is_utf8 chars encode_utf8
core_instance_aliased = refl

type_of_a_core_bundle : has_text (component (make.core_bundle (node_list (make.core_bundle_export (codes "x") space.CoreType (index 0) ∷ [])) ∷ [])) ≡ false
unfolding is_utf8 chars encode_utf8
type_of_a_core_bundle = refl

function_of_outside : has_text (component (make.alias_outer (counted 0 1) (index 0) space.Func ∷ [])) ≡ false
function_of_outside = refl

table_of_numbers : has_text (component (make.module_type (of_kind kinds.ModuleType (make.module_export (codes "t") (make.table_entity i32 0 absent) ∷ [])) ∷ [])) ≡ false
unfolding is_utf8 chars encode_utf8
table_of_numbers = refl

table_of_functions : has_text (component (make.module_type (of_kind kinds.ModuleType (make.module_export (codes "t") (make.table_entity (ref_func true) 0 absent) ∷ [])) ∷ [])) ≡ true
unfolding is_utf8 chars encode_utf8
table_of_functions = refl

module_type_in_one : has_text (component (make.module_type (of_kind kinds.ModuleType (make.module_type (of_kind kinds.ModuleType []) ∷ [])) ∷ [])) ≡ false
module_type_in_one = refl

name_of_a_custom : has_text (component (make.custom (0xff ∷ []) [] ∷ [])) ≡ false
unfolding is_utf8 chars encode_utf8
name_of_a_custom = refl

bytes_of_a_custom : has_text (component (make.custom (codes "x") (0xff ∷ []) ∷ [])) ≡ true
unfolding is_utf8 chars encode_utf8
bytes_of_a_custom = refl

module_in_an_inner_one : holds_module (component (make.component (component (make.core_module (m.module_bytes []) ∷ [])) ∷ [])) ≡ true
module_in_an_inner_one = refl
