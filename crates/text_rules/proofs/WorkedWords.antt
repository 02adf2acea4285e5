-- Each word that is one of several: what it leaves.
use Rattle.std.specs.Prelude.{List, [], ◌∷◌, false, refl, codes, None, negsuc}
use Prim.Native.String.{String}
use Rattle.comp_model.specs.declared.Space.TheVariants as space
use Rattle.comp_model.specs.Core as core
use Rattle.comp_model.specs.Core.{counted}
use Rattle.comp_model.specs.Model as m
use Rattle.comp_model.specs.Model.{number, absent, present, numeral, no_node}
use Rattle.comp_model.specs.CoreModules as c
use Rattle.comp_model.specs.declared.row.Row.TheVariants as rows
use Rattle.comp_model.specs.Makers as make
use Rattle.text_rules.specs.Made.{nodes_from}
use Rattle.text_rules.specs.FieldRules.{component_item}
use Rattle.text_rules.proofs.Texts.{LongCome, Texts, AllCome, answer, one, at, by_name, import_of, nameless, not_inline, no_use, a_local, core_function, core_module}

-- each primitive type with its byte (Component Model, binary format, Type Definitions)
abbrev primitive_types : Texts
primitive_types =
    ("(type bool)", one (at 1 (make.primitive 0x7f)))
    ∷ ("(type s8)", one (at 1 (make.primitive 0x7e)))
    ∷ ("(type u8)", one (at 1 (make.primitive 0x7d)))
    ∷ ("(type s16)", one (at 1 (make.primitive 0x7c)))
    ∷ ("(type u16)", one (at 1 (make.primitive 0x7b)))
    ∷ ("(type s32)", one (at 1 (make.primitive 0x7a)))
    ∷ ("(type u32)", one (at 1 (make.primitive 0x79)))
    ∷ ("(type s64)", one (at 1 (make.primitive 0x78)))
    ∷ ("(type u64)", one (at 1 (make.primitive 0x77)))
    ∷ ("(type f32)", one (at 1 (make.primitive 0x76)))
    ∷ ("(type float32)", one (at 1 (make.primitive 0x76)))
    ∷ ("(type f64)", one (at 1 (make.primitive 0x75)))
    ∷ ("(type float64)", one (at 1 (make.primitive 0x75)))
    ∷ ("(type char)", one (at 1 (make.primitive 0x74)))
    ∷ ("(type string)", one (at 1 (make.primitive 0x73)))
    ∷ ("(type error-context)", one (at 1 (make.primitive 0x64)))
    ∷ []

-- value types with and without what may be missing
abbrev value_types : Texts
value_types =
    ("(type (own $r))", one (at 1 (make.own_type (by_name 11 "r"))))
    ∷ ("(type (borrow $r))", one (at 1 (make.borrow_type (by_name 14 "r"))))
    ∷ ("(type (list u8))", one (at 1 (make.list_type (number 0x7d))))
    ∷ ("(type (option u8))", one (at 1 (make.option_type (number 0x7d))))
    ∷ ("(type (stream))", one (at 1 (make.stream_type absent)))
    ∷ ("(type (stream u8))", one (at 1 (make.stream_type (present (number 0x7d)))))
    ∷ ("(type (future))", one (at 1 (make.future_type absent)))
    ∷ ("(type (future u8))", one (at 1 (make.future_type (present (number 0x7d)))))
    ∷ ("(type (result))", one (at 1 (make.result_type absent absent)))
    ∷ ("(type (result u8))", one (at 1 (make.result_type (present (number 0x7d)) absent)))
    ∷ ("(type (result u8 (error s8)))", one (at 1 (make.result_type (present (number 0x7d)) (present (number 0x7e)))))
    ∷ ("(type (variant (case \"a\") (case \"b\" u8)))", one (at 1 (make.variant_type (nodes_from (make.case_type None (codes "a") absent ∷ make.case_type None (codes "b") (present (number 0x7d)) ∷ [])))))
    ∷ ("(type (func))", one (at 1 (make.function_type 0 no_node absent)))
    ∷ []

-- aliases of exports, of each kind
abbrev export_aliases : Texts
export_aliases =
    ("(alias export 0 \"a\" (core module))", one (at 1 (make.alias_export (numeral 14 0) (codes "a") space.CoreModule)))
    ∷ ("(alias export 0 \"a\" (func))", one (at 1 (make.alias_export (numeral 14 0) (codes "a") space.Func)))
    ∷ ("(alias export 0 \"a\" (value))", one (at 1 (make.alias_export (numeral 14 0) (codes "a") space.Value)))
    ∷ ("(alias export 0 \"a\" (type))", one (at 1 (make.alias_export (numeral 14 0) (codes "a") space.Ty)))
    ∷ ("(alias export 0 \"a\" (component))", one (at 1 (make.alias_export (numeral 14 0) (codes "a") space.Component)))
    ∷ ("(alias export 0 \"a\" (instance))", one (at 1 (make.alias_export (numeral 14 0) (codes "a") space.Instance)))
    ∷ []

-- of core exports
abbrev core_export_aliases : Texts
core_export_aliases =
    ("(alias core export 0 \"a\" (core func))", one (at 1 (make.alias_core_export (numeral 19 0) (codes "a") space.CoreFunc)))
    ∷ ("(alias core export 0 \"a\" (core table))", one (at 1 (make.alias_core_export (numeral 19 0) (codes "a") space.CoreTable)))
    ∷ ("(alias core export 0 \"a\" (core memory))", one (at 1 (make.alias_core_export (numeral 19 0) (codes "a") space.CoreMemory)))
    ∷ ("(alias core export 0 \"a\" (core global))", one (at 1 (make.alias_core_export (numeral 19 0) (codes "a") space.CoreGlobal)))
    ∷ ("(alias core export 0 \"a\" (core tag))", one (at 1 (make.alias_core_export (numeral 19 0) (codes "a") space.CoreTag)))
    ∷ []

-- of items of scopes around
abbrev outer_aliases : Texts
outer_aliases =
    ("(alias outer 1 2 (core module))", one (at 1 (make.alias_outer (counted 1 1) (numeral 15 2) space.CoreModule)))
    ∷ ("(alias outer 1 2 (core type))", one (at 1 (make.alias_outer (counted 1 1) (numeral 15 2) space.CoreType)))
    ∷ ("(alias outer 1 2 (type))", one (at 1 (make.alias_outer (counted 1 1) (numeral 15 2) space.Ty)))
    ∷ ("(alias outer 1 2 (component))", one (at 1 (make.alias_outer (counted 1 1) (numeral 15 2) space.Component)))
    ∷ []

-- exports of items of each kind
abbrev exported_items : Texts
exported_items =
    ("(export \"a\" (core module 0))", one (at 1 (make.export_row (m.text (codes "a")) absent space.CoreModule (numeral 25 0))))
    ∷ ("(export \"a\" (func 0))", one (at 1 (make.export_row (m.text (codes "a")) absent space.Func (numeral 18 0))))
    ∷ ("(export \"a\" (value 0))", one (at 1 (make.export_row (m.text (codes "a")) absent space.Value (numeral 19 0))))
    ∷ ("(export \"a\" (type 0))", one (at 1 (make.export_row (m.text (codes "a")) absent space.Ty (numeral 18 0))))
    ∷ ("(export \"a\" (component 0))", one (at 1 (make.export_row (m.text (codes "a")) absent space.Component (numeral 23 0))))
    ∷ ("(export \"a\" (instance 0))", one (at 1 (make.export_row (m.text (codes "a")) absent space.Instance (numeral 22 0))))
    ∷ []

-- imports by each description
abbrev descriptions : Texts
descriptions =
    ("(import \"a\" (core module (type 0)))", one (at 1 (import_of "a" (make.module_description (numeral 31 0)))))
    ∷ ("(import \"a\" (func (type 0)))", one (at 1 (import_of "a" (make.described_by rows.FuncDescription (numeral 24 0)))))
    ∷ ("(import \"a\" (component (type 0)))", one (at 1 (import_of "a" (make.described_by rows.ComponentDescription (numeral 29 0)))))
    ∷ ("(import \"a\" (instance (type 0)))", one (at 1 (import_of "a" (make.described_by rows.InstanceDescription (numeral 28 0)))))
    ∷ ("(import \"a\" (value (type 0)))", one (at 1 (import_of "a" (make.described_by rows.ValueDescription (numeral 25 0)))))
    ∷ ("(import \"a\" (type (eq 0)))", one (at 1 (import_of "a" (make.described_by rows.TypeEq (numeral 22 0)))))
    ∷ ("(import \"a\" (type (sub resource)))", one (at 1 (import_of "a" make.sub_resource)))
    ∷ []

-- each instruction that is written, in a core function
abbrev instructions_text : List String
instructions_text =
    "(core module (func unreachable nop return drop i32.add i32.sub i32.mul call 0 local.get 1 local.set 2"
    ∷ "local.tee 3 global.get 4 global.set 5 i32.const -1 i64.const -1))"
    ∷ []

abbrev instructions_left : m.Def
instructions_left = at 1 (core_module nameless (c.func_field 14 nameless not_inline no_use []
    (c.unreachable
    ∷ c.nop
    ∷ c.return
    ∷ c.drop
    ∷ c.i32_add
    ∷ c.i32_sub
    ∷ c.i32_mul
    ∷ c.call (c.number 76 0)
    ∷ c.local_get (c.number 88 1)
    ∷ c.local_set (c.number 100 2)
    ∷ c.local_tee (c.number 112 3)
    ∷ c.global_get (c.number 125 4)
    ∷ c.global_set (c.number 138 5)
    ∷ c.i32_const (negsuc 0)
    ∷ c.i64_const (negsuc 0)
    ∷ [])
    ∷ []))

-- exports of a core module, and each number type there
abbrev core_fields_by_words : Texts
core_fields_by_words =
    ("(core module (export \"a\" (func 0)) (export \"b\" (table 1)) (export \"c\" (memory 2)) (export \"d\" (global 3)))", one (at 1 (core_module nameless (c.export_field 14 (codes "a") space.CoreFunc (c.number 31 0) ∷ c.export_field 36 (codes "b") space.CoreTable (c.number 54 1) ∷ c.export_field 59 (codes "c") space.CoreMemory (c.number 78 2) ∷ c.export_field 83 (codes "d") space.CoreGlobal (c.number 102 3) ∷ []))))
    ∷ ("(core module (type (func (param i32 i64 f32 f64 v128))))", one (at 1 (core_module nameless (c.type_field 14 nameless (c.function (core_function (a_local nameless core.i32 ∷ a_local nameless core.i64 ∷ a_local nameless core.f32 ∷ a_local nameless core.f64 ∷ a_local nameless core.v128 ∷ []) [])) ∷ []))))
    ∷ []

-- each text comes to what stands beside it
all_come :
    (AllCome component_item false (primitive_types ∷ value_types ∷ export_aliases ∷ core_export_aliases ∷ outer_aliases ∷ exported_items ∷ descriptions ∷ core_fields_by_words ∷ []))
    × (LongCome component_item false ((instructions_text, one instructions_left) ∷ []))
unfolding answer
all_come = ((refl, (refl, (refl, (refl, (refl, (refl, (refl, (refl, tt)))))))), (refl, tt))
