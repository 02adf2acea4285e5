-- Each kind of field, of declaration and of text: what it leaves, or the offset of the token that does not fit.
use Rattle.std.specs.Prelude.{List, [], ◌∷◌, true, false, refl, codes, Some, None, pos, negsuc}
use Prim.Native.String.{String}
use Rattle.comp_model.specs.declared.Space.TheVariants as space
use Rattle.comp_model.specs.Core as core
use Rattle.comp_model.specs.Core.{outward, own, at_place, counted, named}
use Rattle.comp_model.specs.Model as m
use Rattle.comp_model.specs.declared.row.ScopeKind.TheVariants as kinds
use Rattle.comp_model.specs.Model.{number, ref, absent, present, node, result_ids, numeral, inline, bundle, no_leaf, ◌▸◌, row, no_node, scope_of}
use Rattle.comp_model.specs.CoreModules as c
use Rattle.comp_model.specs.declared.row.Row.TheVariants as rows
use Rattle.comp_model.specs.Makers as make
use Rattle.text_rules.specs.Made.{nodes_from, defs_from}
use Rattle.text_rules.specs.FieldRules.{wat_item, component_item}
use Rattle.text_rules.proofs.Texts.{ComeToThese, LongCome, Texts, AllCome, answer, unfit, one, an_id, named_at, at, at_id, of_kind, plain_func, by_name, path_by, path_at, nameless, with_id, not_inline, no_use, a_local, core_function, by_index, by_both, exporting, limits, core_module, import_of, of_named}

-- core modules: imports, and fields of each kind
abbrev core_modules : Texts
core_modules = (
  "(core module $m (@name \"l\") (export \"e\") (import \"i\") (type $t))",
  one (named_at 1 (Some (an_id 13 "m") ∷ []) (Some (codes "l") ∷ []) (codes "e" ∷ [])
      (import_of "i" (make.module_description (by_name 60 "t")))),
)
    ∷ (
      "(core module (import (interface \"a:b/c\")) (type 1 \"x\"))",
      one (at 1 (import_of "a:b/c" (make.module_description (path_at 48 1 ("x" ∷ []))))),
    )
    ∷ (
      "(core module (import \"i\") (type $t (func)))",
      one (at 1
          (import_of "i"
          (make.module_description (inline (make.module_type (of_kind kinds.ModuleType (at_id 27 (an_id 32 "t") (make.core_function_type no_node no_node) ∷ []))))))),
    )
    ∷ (
      "(core module $m (@name \"l\") (export \"e\") (import \"a\" \"b\" (func)) (func (export \"x\")) (@custom \"c\"))",
      one (named_at 1 (Some (an_id 13 "m") ∷ []) (Some (codes "l") ∷ []) (codes "e" ∷ [])
          (core_module (record { id = Some (an_id 13 "m"); label = Some (codes "l") })
          (c.import_field 42 (codes "a") (codes "b") nameless (c.func no_use)
          ∷ c.func_field 66 nameless (exporting (codes "x" ∷ [])) no_use [] []
          ∷ c.other_field 85 ∷ []))),
    )
    ∷ []

abbrev core_module_of_all_fields_text : List String
core_module_of_all_fields_text =
    "(core module (type $t (func (param $p i32) (param i64) (result f32))) (type (struct)) (import \"a\""
    ∷ "\"b\" (global $g (@name \"l\") (mut (ref null $t)))) (import \"a\" \"c\" (table 1 2 funcref)) (import \"a\""
    ∷ "\"d\" (memory 3)) (import \"a\" \"e\" (tag)) (func $f (export \"x\") (import \"a\" \"f\") (type $t)) (func"
    ∷ "(type 0) (param i32) (local $l i32) (local i64 f64) (i32.add (i32.const -1) (i64.const -2)) block"
    ∷ "1) (table $u 0 externref) (memory (import \"m\" \"n\") 1 2) (global $h (mut i32) i32.const 7) (global"
    ∷ "(import \"o\" \"p\") i32) (export \"q\" (memory 0)) (export \"r\" (table $u)) (memory i64 1) (elem func 0)"
    ∷ "(table 1 anyref) (global i32 global.get $h drop))"
    ∷ []

abbrev core_module_of_all_fields_left : m.Def
core_module_of_all_fields_left = at 1
    (core_module nameless
    (c.type_field 14 (with_id (an_id 19 "t")) (c.function (core_function (a_local (with_id (an_id 35 "p")) core.i32 ∷ a_local nameless core.i64 ∷ []) (core.f32 ∷ [])))
    ∷ c.type_field 71 nameless (c.other_type 77)
    ∷ c.import_field 87 (codes "a") (codes "b")
    (record { id = Some (an_id 110 "g"); label = Some (codes "l") }) (c.global (core.ref_name true own (an_id 140 "t")) true)
    ∷ c.import_field 148 (codes "a") (codes "c") nameless (c.table (limits 1 (Some 2)) (core.ref_func true))
    ∷ c.import_field 185 (codes "a") (codes "d") nameless (c.memory (limits 3 None))
    ∷ c.import_field 213 (codes "a") (codes "e") nameless (c.other_entity 229)
    ∷ c.func_field 236 (with_id (an_id 241 "f"))
    (record { exports = codes "x" ∷ []; imported = Some ((codes "a"), (codes "f")) }) (by_index (c.named (an_id 280 "t"))) [] []
    ∷ c.func_field 286 nameless not_inline (by_both (c.number 297 0) (core_function (a_local nameless core.i32 ∷ []) []))
    (a_local (with_id (an_id 319 "l")) core.i32 ∷ a_local nameless core.i64 ∷ a_local nameless core.f64 ∷ []) (c.i32_const (negsuc 0) ∷ c.i64_const (negsuc 1) ∷ c.i32_add ∷ c.other_instruction 383 ∷ [])
    ∷ c.table_field 393 (with_id (an_id 399 "u")) not_inline (limits 0 None) (core.ref_extern true)
    ∷ c.memory_field 416 nameless (record { exports = []; imported = Some ((codes "m"), (codes "n")) }) (limits 1 (Some 2))
    ∷ c.global_field 446 (with_id (an_id 453 "h")) not_inline core.i32 true (c.i32_const (pos 7) ∷ [])
    ∷ c.global_field 480 nameless (record { exports = []; imported = Some ((codes "o"), (codes "p")) }) core.i32 false []
    ∷ c.export_field 510 (codes "q") space.CoreMemory (c.number 529 0)
    ∷ c.export_field 534 (codes "r") space.CoreTable (c.named (an_id 552 "u"))
    ∷ c.other_field 558
    ∷ c.other_field 573
    ∷ c.other_field 587
    ∷ c.global_field 604 nameless not_inline core.i32 false (c.global_get (c.named (an_id 626 "h")) ∷ c.drop ∷ []) ∷ []))

-- core instances
abbrev core_instances : Texts
core_instances = (
  "(core instance (instantiate (module $i \"a\" \"m\") (with \"x\" (instance $j)) (with \"y\" (instance)) (with \"z\" (instance 3))))",
  one (at 1
      (make.core_instantiate (path_by 36 "i" ("a" ∷ "m" ∷ [])) (nodes_from
      (make.core_argument (codes "x") (by_name 68 "j")
      ∷ make.core_argument (codes "y") (bundle (make.core_bundle no_node))
      ∷ make.core_argument (codes "z") (numeral 115 3) ∷ [])))),
)
    ∷ ("(core instance)", one (at 1 (make.core_bundle no_node)))
    ∷ []

abbrev core_instance_of_exports_text : List String
core_instance_of_exports_text =
    "(core instance $i (@name \"l\") (export \"a\" (func $f)) (export \"b\" (table 1)) (export \"c\" (memory $i"
    ∷ "\"m\")) (export \"d\" (global $g)) (export \"e\" (tag 2 \"t\")))"
    ∷ []

abbrev core_instance_of_exports_left : m.Def
core_instance_of_exports_left = named_at 1 (Some (an_id 15 "i") ∷ []) (Some (codes "l") ∷ []) [] (make.core_bundle (nodes_from
    (make.core_bundle_export (codes "a") space.CoreFunc (by_name 48 "f")
    ∷ make.core_bundle_export (codes "b") space.CoreTable (numeral 72 1)
    ∷ make.core_bundle_export (codes "c") space.CoreMemory (path_by 96 "i" ("m" ∷ []))
    ∷ make.core_bundle_export (codes "d") space.CoreGlobal (by_name 125 "g")
    ∷ make.core_bundle_export (codes "e") space.CoreTag (path_at 147 2 ("t" ∷ [])) ∷ [])))

-- core types, groups of them and the types of core modules
abbrev core_types : Texts
core_types = (
  "(core type (func (param (ref func) (ref null func) (ref extern) (ref null extern) (ref null 3) anyref (ref null any) (ref any))))",
  one (at 1
      (make.core_function_type
      (nodes_from
      (make.core_value_type (core.ref_func false)
      ∷ make.core_value_type (core.ref_func true)
      ∷ make.core_value_type (core.ref_extern false)
      ∷ make.core_value_type (core.ref_extern true)
      ∷ make.core_value_type (core.ref_numeral true 92 3)
      ∷ make.core_value_type core.other_value
      ∷ make.core_value_type core.other_value
      ∷ make.core_value_type core.other_value ∷ [])) no_node)),
)
    ∷ ("(core type $s (struct (field i32) (x \"y\")))", one (at_id 1 (an_id 11 "s") (row rows.OtherCoreType no_leaf)))
    ∷ ("(core type (func (param $p i32 i32)))", unfit 31)
    ∷ ("(core type (func (result i32) (param i32)))", unfit 30)
    ∷ (
      "(core rec (type $a (func (param (ref null $a)))) (type (@name \"b\") (sub (func))) (type (func)))",
      one (named_at 1 (Some (an_id 16 "a") ∷ None ∷ None ∷ []) (None ∷ Some (codes "b") ∷ None ∷ []) [] (make.core_rec (nodes_from
          (make.core_function_type (nodes_from (make.core_value_type (core.ref_name true own (an_id 42 "a")) ∷ [])) no_node
          ∷ row rows.OtherCoreType no_leaf
          ∷ make.core_function_type no_node no_node ∷ [])))),
    )
    ∷ ("(core rec)", one (at 1 (make.core_rec no_node)))
    ∷ ("(core type (module (import \"a\" \"b\" (table 1 2 3 funcref))))", unfit 46)
    ∷ []

abbrev core_function_type_text : List String
core_function_type_text =
    "(core type $f (@name \"l\") (func (param $p i32) (param $q (@name \"q\") i64) (param (@name \"r\") f32)"
    ∷ "(param f64 v128) (param) (result funcref) (result externref (ref $t))))"
    ∷ []

abbrev core_function_type_left : m.Def
core_function_type_left = named_at 1 (Some (an_id 11 "f") ∷ []) (Some (codes "l") ∷ []) []
    (make.core_function_type
    (nodes_from
    (make.core_value_type core.i32
    ∷ make.core_value_type core.i64
    ∷ make.core_value_type core.f32
    ∷ make.core_value_type core.f64
    ∷ make.core_value_type core.v128 ∷ [])) (nodes_from (make.core_value_type (core.ref_func true) ∷ make.core_value_type (core.ref_extern true) ∷ make.core_value_type (core.ref_name false own (an_id 163 "t")) ∷ [])))

abbrev module_type_text : List String
module_type_text =
    "(core type $m (module (type $t (@name \"l\") (func)) (rec (type (func)) (type $u (func))) (alias"
    ∷ "outer $o $x (type $y)) (import \"a\" \"b\" (func $f (type $t) (param i32))) (import \"a\" \"c\" (func"
    ∷ "(param i32))) (import \"a\" \"d\" (table $t 1 2 funcref)) (import \"a\" \"e\" (memory 3)) (import \"a\" \"f\""
    ∷ "(global (mut i64))) (export \"g\" (global $g (@name \"x\") (ref $t))) (export \"h\" (tag (param i32)))"
    ∷ "(import \"a\" \"i\" (memory i64 1)) (import \"a\" \"j\" (memory 1 2 shared)) (import \"a\" \"k\" (table 1"
    ∷ "anyref)) (import \"a\" \"l\" (table 1 i64)) (export \"m\" (memory 0 9))))"
    ∷ []

abbrev module_type_left : m.Def
module_type_left = at_id 1 (an_id 11 "m") (make.module_type
    (of_named kinds.ModuleType (an_id 11 "m")
    (named_at 23 (Some (an_id 28 "t") ∷ []) (Some (codes "l") ∷ []) [] (make.core_function_type no_node no_node)
    ∷ named_at 52 (None ∷ Some (an_id 76 "u") ∷ []) (None ∷ None ∷ []) []
    (make.core_rec (nodes_from (make.core_function_type no_node no_node ∷ make.core_function_type no_node no_node ∷ [])))
    ∷ at_id 89 (an_id 113 "y")
    (make.alias_outer (named 89 (an_id 101 "o"))
    (m.name (at_place (named 89 (an_id 101 "o"))) (an_id 104 "x")) space.CoreType)
    ∷ at 119 (make.module_import (codes "a") (codes "b") (make.func_entity (m.name own (an_id 149 "t"))))
    ∷ at 168
    (make.module_import (codes "a") (codes "c")
    (make.func_entity (inline (make.core_function_type (nodes_from (make.core_value_type core.i32 ∷ [])) no_node))))
    ∷ at 204 (make.module_import (codes "a") (codes "d") (make.table_entity (core.ref_func true) 1 (present (number 2))))
    ∷ at 244 (make.module_import (codes "a") (codes "e") (make.memory_entity 3 absent))
    ∷ at 272 (make.module_import (codes "a") (codes "f") (make.global_entity core.i64 1))
    ∷ at 320 (make.module_export (codes "g") (make.global_entity (core.ref_name false own (an_id 347 "t")) 0))
    ∷ at 366 (make.module_export (codes "h") (row rows.OtherEntity no_leaf))
    ∷ at 385 (make.module_import (codes "a") (codes "i") (row rows.OtherEntity no_leaf))
    ∷ at 417 (make.module_import (codes "a") (codes "j") (row rows.OtherEntity no_leaf))
    ∷ at 454 (make.module_import (codes "a") (codes "k") (row rows.OtherEntity no_leaf))
    ∷ at 488 (make.module_import (codes "a") (codes "l") (row rows.OtherEntity no_leaf))
    ∷ at 531 (make.module_export (codes "m") (make.memory_entity 0 (present (number 9)))) ∷ [])))

-- components
abbrev components : Texts
components = (
  "(component $c (@name \"l\") (export \"e\") (import \"i\") (type $t \"u\"))",
  one (named_at 1 (Some (an_id 11 "c") ∷ []) (Some (codes "l") ∷ []) (codes "e" ∷ [])
      (import_of "i" (make.described_by rows.ComponentDescription (path_by 58 "t" ("u" ∷ []))))),
)
    ∷ (
      "(component (import \"i\") (type $t u8) (import \"x\" (type (sub resource))))",
      one (at 1
          (import_of "i"
          (make.described_by rows.ComponentDescription (inline (make.component_type
          (of_kind kinds.ComponentType
          (at_id 25 (an_id 30 "t") (make.primitive 0x7d) ∷ at 38 (import_of "x" make.sub_resource) ∷ []))))))),
    )
    ∷ (
      "(component $c (@name \"l\") (export \"e\") (export \"f\" (func 0)) (type u8))",
      one (named_at 1 (Some (an_id 11 "c") ∷ []) (Some (codes "l") ∷ []) (codes "e" ∷ []) (make.component
          (scope_of kinds.Component (Some (an_id 11 "c")) (Some (codes "l")) (defs_from (at 40 (make.export_row (m.text (codes "f")) absent space.Func (numeral 57 0)) ∷ at 62 (make.primitive 0x7d) ∷ []))))),
    )
    ∷ []

-- instances
abbrev instances : Texts
instances = (
  "(instance $i (export \"a\") (import \"i\") (type $t))",
  one (named_at 1 (Some (an_id 10 "i") ∷ []) [] (codes "a" ∷ [])
      (import_of "i" (make.described_by rows.InstanceDescription (by_name 45 "t")))),
)
    ∷ (
      "(instance (import \"i\") (type $t (func)) (export \"f\" (func (type $t))))",
      one (at 1
          (import_of "i"
          (make.described_by rows.InstanceDescription (inline (make.instance_type
          (of_kind kinds.InstanceType
          (at_id 24 (an_id 29 "t") (make.function_type 0 no_node absent)
          ∷ at 41 (make.export_type (m.text (codes "f")) (make.described_by rows.FuncDescription (by_name 64 "t"))) ∷ []))))))),
    )
    ∷ []

abbrev instance_of_a_component_text : List String
instance_of_a_component_text =
    "(instance $i (instantiate (component $j \"c\") (with \"a\" (func $f)) (with \"b\" (core module $k \"x\""
    ∷ "\"m\")) (with \"c\" (value 1)) (with \"d\" (type $t)) (with \"e\" (component $c)) (with \"f\" (instance $i"
    ∷ "\"z\")) (with \"g\" (instance (export \"x\" (func $f)))) (with \"h\" (instance))))"
    ∷ []

abbrev instance_of_a_component_left : m.Def
instance_of_a_component_left = at_id 1 (an_id 10 "i")
    (make.instantiate (path_by 37 "j" ("c" ∷ [])) (nodes_from
    (make.argument (codes "a") space.Func (by_name 61 "f")
    ∷ make.argument (codes "b") space.CoreModule (path_by 89 "k" ("x" ∷ "m" ∷ []))
    ∷ make.argument (codes "c") space.Value (numeral 119 1)
    ∷ make.argument (codes "d") space.Ty (by_name 139 "t")
    ∷ make.argument (codes "e") space.Component (by_name 165 "c")
    ∷ make.argument (codes "f") space.Instance (path_by 190 "i" ("z" ∷ []))
    ∷ make.argument (codes "g") space.Instance
    (bundle (make.bundle (nodes_from (make.bundle_export (m.text (codes "x")) space.Func (by_name 237 "f") ∷ []))))
    ∷ make.argument (codes "h") space.Instance (bundle (make.bundle no_node)) ∷ [])))

abbrev instance_of_exports_text : List String
instance_of_exports_text =
    "(instance (export \"a\") (export $x (@name \"l\") \"b\" (func $f \"p\") (func (type 0))) (export (interface"
    ∷ "\"c:d/e\") (implements \"x\") (instance 2)))"
    ∷ []

abbrev instance_of_exports_left : m.Def
instance_of_exports_left = named_at 1 [] [] (codes "a" ∷ []) (make.bundle (nodes_from
    (make.bundle_export (m.text (codes "b")) space.Func (path_by 56 "f" ("p" ∷ []))
    ∷ make.bundle_export
    (node (row rows.AttributedName (m.text (codes "c:d/e") ▸ present (m.text (codes "x")) ▸ absent ▸ absent ▸ no_leaf))) space.Instance (numeral 136 2) ∷ [])))

-- aliases
abbrev aliases : Texts
aliases = (
  "(alias core export $i \"a\" (core memory $m (@name \"l\")))",
  one (named_at 1 (Some (an_id 39 "m") ∷ []) (Some (codes "l") ∷ []) []
      (make.alias_core_export (by_name 19 "i") (codes "a") space.CoreMemory)),
)
    ∷ ("(alias core export 0 \"a\" (core tag))", one (at 1 (make.alias_core_export (numeral 19 0) (codes "a") space.CoreTag)))
    ∷ (
      "(alias export $i \"a\" (core module $m))",
      one (at_id 1 (an_id 34 "m") (make.alias_export (by_name 14 "i") (codes "a") space.CoreModule)),
    )
    ∷ (
      "(alias outer 1 $t (core type $u))",
      one (at_id 1 (an_id 29 "u") (make.alias_outer (counted 1 1) (m.name (at_place (counted 1 1)) (an_id 15 "t")) space.CoreType)),
    )
    ∷ ("(alias core export $i \"a\" (func))", unfit 27)
    ∷ []

-- resources, and types of components and instances
abbrev scoped_types : Texts
scoped_types = (
  "(type $r (export \"r\") (export \"s\") (resource (rep i32) (dtor (core func $f))))",
  one (named_at 1 (Some (an_id 6 "r") ∷ []) [] (codes "r" ∷ codes "s" ∷ [])
      (make.resource_type core.i32 (present (ref space.CoreFunc (by_name 72 "f"))))),
)
    ∷ (
      "(type (resource (rep (ref $t)) (dtor $f)))",
      one (at 1 (make.resource_type (core.ref_name false outward (an_id 26 "t")) (present (ref space.CoreFunc (by_name 37 "f"))))),
    )
    ∷ ("(type (resource (rep i64)))", one (at 1 (make.resource_type core.i64 absent)))
    ∷ ("(type (resource (rep i32) (dtor (func $i \"d\"))))", unfit 33)
    ∷ ("(type (instance (export \"f\" (func $f (result (own $r)))) (import \"i\" (func))))", unfit 58)
    ∷ []

abbrev component_type_text : List String
component_type_text =
    "(type $c (component (core type $m (module)) (core rec (type (func))) (type $r (resource (rep i32)))"
    ∷ "(alias outer 1 2 (type)) (import \"i\" (core module (type $m))) (export \"e\" (type $x (eq $r)))))"
    ∷ []

abbrev component_type_left : m.Def
component_type_left = at_id 1 (an_id 6 "c") (make.component_type
    (of_named kinds.ComponentType (an_id 6 "c")
    (at_id 21 (an_id 31 "m") (make.module_type (of_named kinds.ModuleType (an_id 31 "m") []))
    ∷ named_at 45 (None ∷ []) (None ∷ []) [] (make.core_rec (nodes_from (make.core_function_type no_node no_node ∷ [])))
    ∷ at_id 70 (an_id 75 "r") (make.resource_type core.i32 absent)
    ∷ at 101 (make.alias_outer (counted 101 1) (numeral 115 2) space.Ty)
    ∷ at 126 (import_of "i" (make.module_description (by_name 156 "m")))
    ∷ at_id 163 (an_id 180 "x") (make.export_type (m.text (codes "e")) (make.described_by rows.TypeEq (by_name 187 "r"))) ∷ [])))

-- resources, and types of components and instances, read with older forms
abbrev scoped_types_in_older_forms : Texts
scoped_types_in_older_forms = (
  "(type (resource (rep i32) (dtor (func $i \"d\"))))",
  one (at 1 (make.resource_type core.i32 (present (ref space.CoreFunc (path_by 38 "i" ("d" ∷ [])))))),
)
    ∷ []

-- value types and function types
abbrev types : Texts
types = (
  "(type (record (field \"a\" u8) (field \"b\" $t)))",
  one (at 1 (make.record_type
      (nodes_from (make.named_type (codes "a") (number 0x7d) ∷ make.named_type (codes "b") (ref space.Ty (by_name 40 "t")) ∷ [])))),
)
    ∷ (
      "(type (map string (list u8 4)))",
      one (at 1 (row rows.MapType (number 0x73 ▸ ref space.Ty (inline (make.fixed_length_list_type (number 0x7d) 4)) ▸ no_leaf))),
    )
    ∷ (
      "(type (tuple u8 (option $t) (result (error u8))))",
      one (at 1 (make.tuple_type (nodes_from
          (make.lone_type (number 0x7d)
          ∷ make.lone_type (ref space.Ty (inline (make.option_type (ref space.Ty (by_name 24 "t")))))
          ∷ make.lone_type (ref space.Ty (inline (make.result_type absent (present (number 0x7d))))) ∷ [])))),
    )
    ∷ (
      "(type (flags \"a\" \"b\"))",
      one (at 1 (make.flags_type (nodes_from (make.lone_name (codes "a") ∷ make.lone_name (codes "b") ∷ [])))),
    )
    ∷ ("(type (enum \"a\"))", one (at 1 (make.enum_type (nodes_from (make.lone_name (codes "a") ∷ [])))))
    ∷ ("(type (borrow $r))", one (at 1 (make.borrow_type (by_name 14 "r"))))
    ∷ ("(type float64)", one (at 1 (make.primitive 0x75)))
    ∷ (
      "(type (func async (result (future))))",
      one (at 1 (make.function_type 1 no_node (present (ref space.Ty (inline (make.future_type absent)))))),
    )
    ∷ []

-- imports
abbrev imports : Texts
imports = (
  "(import \"a\" (core module $m (@name \"l\") (type $t \"x\")))",
  one (named_at 1 (Some (an_id 25 "m") ∷ []) (Some (codes "l") ∷ []) []
      (import_of "a" (make.module_description (path_by 46 "t" ("x" ∷ []))))),
)
    ∷ (
      "(import (interface \"a:b/c\") (version-suffix \"1\") (external-id \"z\") (component $c (type $t \"x\" \"y\")))",
      one (at_id 1 (an_id 78 "c")
          (make.import_row
          (node
          (row rows.AttributedName
          (m.text (codes "a:b/c") ▸ absent ▸ present (m.text (codes "1")) ▸ present (m.text (codes "z")) ▸ no_leaf))) (make.described_by rows.ComponentDescription (path_by 87 "t" ("x" ∷ "y" ∷ []))))),
    )
    ∷ (
      "(import \"a\" (external-id \"e\") (implements \"i\") (func))",
      one (at 1
          (make.import_row
          (node
          (row rows.AttributedName
          (m.text (codes "a") ▸ present (m.text (codes "i")) ▸ absent ▸ present (m.text (codes "e")) ▸ no_leaf))) plain_func)),
    )
    ∷ ("(import \"a\" (instance (type $t)))", one (at 1 (import_of "a" (make.described_by rows.InstanceDescription (by_name 28 "t")))))
    ∷ (
      "(import \"a\" (value $v (list u8)))",
      one (at_id 1 (an_id 19 "v") (import_of "a" (make.described_by rows.ValueDescription (inline (make.list_type (number 0x7d)))))),
    )
    ∷ ("(import \"a\" (type $t (sub resource)))", one (at_id 1 (an_id 18 "t") (import_of "a" make.sub_resource)))
    ∷ ("(import \"a\" (func (type 0 x)))", unfit 26)
    ∷ []

-- exports
abbrev exports : Texts
exports = (
  "(export $e (@name \"l\") \"a\" (core module $i \"x\" \"y\") (core module (type $t)))",
  one (named_at 1 (Some (an_id 8 "e") ∷ []) (Some (codes "l") ∷ []) []
      (make.export_row (m.text (codes "a"))
      (present (node (make.module_description (by_name 71 "t")))) space.CoreModule (path_by 40 "i" ("x" ∷ "y" ∷ [])))),
)
    ∷ (
      "(export \"a\" (type $t) (type (eq 0)))",
      one (at 1
          (make.export_row (m.text (codes "a")) (present (node (make.described_by rows.TypeEq (numeral 32 0)))) space.Ty (by_name 18 "t"))),
    )
    ∷ (
      "(export \"a\" (instance $i) (instance (export \"f\" (func))))",
      one (at 1
          (make.export_row (m.text (codes "a"))
          (present (node
          (make.described_by rows.InstanceDescription (inline (make.instance_type (of_kind kinds.InstanceType (at 37 (make.export_type (m.text (codes "f")) plain_func) ∷ []))))))) space.Instance (by_name 22 "i"))),
    )
    ∷ ("(export \"a\" (func $f) (func $x (result u8)))", unfit 28)
    ∷ []

-- the start
abbrev starts : Texts
starts = (
  "(start $f (value 1) (value $i \"v\") (result (value $a)) (result (value)))",
  one (named_at 1 (Some (an_id 50 "a") ∷ None ∷ []) [] []
      (make.start (by_name 7 "f")
      (nodes_from (make.start_argument (numeral 17 1) ∷ make.start_argument (path_by 27 "i" ("v" ∷ [])) ∷ [])) (result_ids (Some (an_id 50 "a") ∷ None ∷ [])))),
)
    ∷ ("(start $f (result (value)) (value 1))", unfit 28)
    ∷ []

-- custom sections and producers
abbrev custom_sections : Texts
custom_sections =
    ("(@custom \"x\" \"ab\" \"\\ff\" \"c\")", one (at 0 (make.custom (codes "x") (0x61 ∷ 0x62 ∷ 0xff ∷ 0x63 ∷ []))))
    ∷ ("(@custom \"x\")", one (at 0 (make.custom (codes "x") [])))
    ∷ (
      "(@producers (sdk \"s\" \"1\") (language \"a\" \"2\") (processed-by \"p\" \"3\") (language \"b\" \"4\"))",
      one (at 0
          (make.producers
          (nodes_from (make.producer (codes "a") (codes "2") ∷ make.producer (codes "b") (codes "4") ∷ [])) (nodes_from (make.producer (codes "s") (codes "1") ∷ [])) (nodes_from (make.producer (codes "p") (codes "3") ∷ [])))),
    )
    ∷ ("(@producers (other \"a\" \"b\"))", unfit 13)
    ∷ []

-- texts: names, binary forms, and what stands behind a text
abbrev whole_texts : Texts
whole_texts = (
  "(component $c (@name \"l\") (@producers))",
  one (named_at 1 (Some (an_id 11 "c") ∷ []) (Some (codes "l") ∷ []) [] (make.component
      (scope_of kinds.Component (Some (an_id 11 "c")) (Some (codes "l")) (defs_from (at 26 (make.producers no_node no_node no_node) ∷ []))))),
)
    ∷ (
      "(module $m (@name \"l\") binary \"\\00asm\")",
      one (named_at 1 (Some (an_id 8 "m") ∷ []) (Some (codes "l") ∷ []) []
          (row rows.CoreModule (m.text (0 ∷ 0x61 ∷ 0x73 ∷ 0x6d ∷ []) ▸ no_leaf))),
    )
    ∷ ("(component binary \"a\" (type u8))", unfit 22)
    ∷ ("(component) (component)", unfit 12)
    ∷ []

-- each text comes to what stands beside it
all_come :
    (AllCome component_item false (core_modules ∷ core_instances ∷ core_types ∷ components ∷ instances ∷ aliases ∷ scoped_types ∷ types ∷ imports ∷ exports ∷ starts ∷ custom_sections ∷ []))
    × (ComeToThese component_item true scoped_types_in_older_forms)
    × (ComeToThese wat_item false whole_texts)
    × (LongCome component_item false ((core_module_of_all_fields_text, one core_module_of_all_fields_left) ∷ (core_instance_of_exports_text, one core_instance_of_exports_left) ∷ (core_function_type_text, one core_function_type_left) ∷ (module_type_text, one module_type_left) ∷ (instance_of_a_component_text, one instance_of_a_component_left) ∷ (instance_of_exports_text, one instance_of_exports_left) ∷ (component_type_text, one component_type_left) ∷ []))
unfolding answer
all_come = ((refl, (refl, (refl, (refl, (refl, (refl, (refl, (refl, (refl, (refl, (refl, (refl, tt)))))))))))), refl, refl, (refl, (refl, (refl, (refl, (refl, (refl, (refl, tt))))))))
