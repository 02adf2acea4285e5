-- Whole texts: what each leaves.
use Rattle.std.specs.Prelude.{List, [], ◌∷◌, true, false, refl, codes, Some}
use Prim.Native.String.{String}
use Rattle.comp_model.specs.declared.Space.TheVariants as space
use Rattle.comp_model.specs.Core.{at_place, counted, named}
use Rattle.comp_model.specs.Model as m
use Rattle.comp_model.specs.declared.row.ScopeKind.TheVariants as kinds
use Rattle.comp_model.specs.Model.{number, ref, absent, present, node, result_ids, numeral, inline, bundle, no_leaf, ◌▸◌, row, no_node}
use Rattle.comp_model.specs.CoreModules as c
use Rattle.comp_model.specs.declared.row.Row.TheVariants as rows
use Rattle.comp_model.specs.Makers as make
use Rattle.text_rules.specs.Made.{nodes_from}
use Rattle.text_rules.specs.FieldRules.{wat_item}
use Rattle.text_rules.proofs.Texts.{ComeToThese, LongCome, Texts, answer, unfit, one, an_id, named_at, at, at_id, of_kind, component, plain_func, plain_core_func, by_name, path_by, path_at, nameless, with_id, not_inline, no_use, core_module, import_of, of_named}

-- components, types, imports and exports, aliases, core modules; a second attribute and an end that is missing
abbrev texts : Texts
texts =
    ("(component)", one (at 1 (component [])))
    ∷ (
      "(component binary \"\\00asm\" \"\\0d\\00\\01\\00\")",
      one (at 1 (row rows.Component (m.text (0 ∷ 0x61 ∷ 0x73 ∷ 0x6d ∷ 0x0d ∷ 0 ∷ 1 ∷ 0 ∷ []) ▸ no_leaf))),
    )
    ∷ ("(component (import \"i\" (func)))", one (at 1 (component (at 12 (import_of "i" plain_func) ∷ []))))
    ∷ (
      "(component (type (export \"t\") u8) (type s8))",
      one (at 1 (component (named_at 12 [] [] (codes "t" ∷ []) (make.primitive 0x7d) ∷ at 35 (make.primitive 0x7e) ∷ []))),
    )
    ∷ (
      "(component (type $t u8) (component (type (list $t)) (type (list $t))))",
      one (at 1 (component
          (at_id 12 (an_id 17 "t") (make.primitive 0x7d)
          ∷ at 25 (component
          (at 36 (make.list_type (ref space.Ty (by_name 47 "t"))) ∷ at 53 (make.list_type (ref space.Ty (by_name 64 "t"))) ∷ [])) ∷ []))),
    )
    ∷ (
      "(component (component $c) (instance $i (instantiate $c)) (export \"x\" (func $i \"a\" \"b\")))",
      one (at 1 (component
          (at_id 12 (an_id 22 "c") (make.component (of_named kinds.Component (an_id 22 "c") []))
          ∷ at_id 27 (an_id 36 "i") (make.instantiate (by_name 52 "c") no_node)
          ∷ at 58 (make.export_row (m.text (codes "x")) absent space.Func (path_by 75 "i" ("a" ∷ "b" ∷ []))) ∷ []))),
    )
    ∷ (
      "(component (type $a (list $b)) (type $b u8))",
      one (at 1 (component
          (at_id 12 (an_id 17 "a") (make.list_type (ref space.Ty (by_name 26 "b"))) ∷ at_id 32 (an_id 37 "b") (make.primitive 0x7d) ∷ []))),
    )
    ∷ (
      "(component (type $a (list $a)))",
      one (at 1 (component (at_id 12 (an_id 17 "a") (make.list_type (ref space.Ty (by_name 26 "a"))) ∷ []))),
    )
    ∷ (
      "(component (import \"i\" (func)) (type u8) (export \"t\" (type 0)))",
      one (at 1 (component
          (at 12 (import_of "i" plain_func)
          ∷ at 32 (make.primitive 0x7d)
          ∷ at 42 (make.export_row (m.text (codes "t")) absent space.Ty (numeral 59 0)) ∷ []))),
    )
    ∷ (
      "(component (type (list 1)) (type u8))",
      one (at 1 (component (at 12 (make.list_type (ref space.Ty (numeral 23 1))) ∷ at 28 (make.primitive 0x7d) ∷ []))),
    )
    ∷ (
      "(component (type $t u8) (component (type (list $t)) (type $t s8)))",
      one (at 1 (component
          (at_id 12 (an_id 17 "t") (make.primitive 0x7d)
          ∷ at 25 (component (at 36 (make.list_type (ref space.Ty (by_name 47 "t"))) ∷ at_id 53 (an_id 58 "t") (make.primitive 0x7e) ∷ [])) ∷ []))),
    )
    ∷ (
      "(component (import \"a\" (func)) (import \"b\" (func)))",
      one (at 1 (component (at 12 (import_of "a" plain_func) ∷ at 32 (import_of "b" plain_func) ∷ []))),
    )
    ∷ (
      "(component (core type (module (import \"a\" \"b\" (func)) (import \"a\" \"c\" (func)))))",
      one (at 1 (component
          (at 12 (make.module_type
          (of_kind kinds.ModuleType
          (at 31 (make.module_import (codes "a") (codes "b") (make.func_entity plain_core_func))
          ∷ at 55 (make.module_import (codes "a") (codes "c") (make.func_entity plain_core_func)) ∷ []))) ∷ []))),
    )
    ∷ (
      "(component (core type (module (type (func)) (import \"a\" \"b\" (func)))))",
      one (at 1 (component
          (at 12 (make.module_type
          (of_kind kinds.ModuleType
          (at 31 (make.core_function_type no_node no_node)
          ∷ at 45 (make.module_import (codes "a") (codes "b") (make.func_entity plain_core_func)) ∷ []))) ∷ []))),
    )
    ∷ (
      "(component (import \"f\" (func $f (result u8))) (start $f (result (value $v))) (export \"o\" (value $v)))",
      one (at 1 (component
          (at_id 12 (an_id 29 "f")
          (import_of "f" (make.described_by rows.FuncDescription (inline (make.function_type 0 no_node (present (number 0x7d))))))
          ∷ at_id 47 (an_id 71 "v") (make.start (by_name 53 "f") no_node (result_ids (Some (an_id 71 "v") ∷ [])))
          ∷ at 78 (make.export_row (m.text (codes "o")) absent space.Value (by_name 96 "v")) ∷ []))),
    )
    ∷ (
      "(component (type (stream (future))))",
      one (at 1 (component (at 12 (make.stream_type (present (ref space.Ty (inline (make.future_type absent))))) ∷ []))),
    )
    ∷ (
      "(component (func $f (@name \"g\") (import \"i\")))",
      one (at 1 (component (named_at 12 (Some (an_id 17 "f") ∷ []) (Some (codes "g") ∷ []) [] (import_of "i" plain_func) ∷ []))),
    )
    ∷ (
      "(component (alias outer 9 9 (type)))",
      one (at 1 (component (at 12 (make.alias_outer (counted 12 9) (numeral 26 9) space.Ty) ∷ []))),
    )
    ∷ ("(component (type (list 4294967295)))", one (at 1 (component (at 12 (make.list_type (ref space.Ty (numeral 23 4294967295))) ∷ []))))
    ∷ ("(component (type (list 4294967296)))", unfit 23)
    ∷ ("(component (core func (canon lower (func 0) (realloc (func 0)))))", unfit 54)
    ∷ (
      "(component (import \"f\" (func $f)) (component (export \"g\" (func $f))))",
      one (at 1 (component
          (at_id 12 (an_id 29 "f") (import_of "f" plain_func)
          ∷ at 35 (component (at 46 (make.export_row (m.text (codes "g")) absent space.Func (by_name 63 "f")) ∷ [])) ∷ []))),
    )
    ∷ (
      "(component (import \"i\" (instance $i)) (component (export \"g\" (func $i \"a\"))))",
      one (at 1 (component
          (at_id 12 (an_id 33 "i")
          (import_of "i" (make.described_by rows.InstanceDescription (inline (make.instance_type (of_kind kinds.InstanceType [])))))
          ∷ at 39 (component (at 50 (make.export_row (m.text (codes "g")) absent space.Func (path_by 67 "i" ("a" ∷ []))) ∷ [])) ∷ []))),
    )
    ∷ (
      "(component (import \"i\" (instance $i)) (component (alias export $i \"a\" (func))))",
      one (at 1 (component
          (at_id 12 (an_id 33 "i")
          (import_of "i" (make.described_by rows.InstanceDescription (inline (make.instance_type (of_kind kinds.InstanceType [])))))
          ∷ at 39 (component (at 50 (make.alias_export (by_name 63 "i") (codes "a") space.Func) ∷ [])) ∷ []))),
    )
    ∷ (
      "(component $a (component (alias outer 2 $x (type))))",
      one (at_id 1 (an_id 11 "a") (make.component
          (of_named kinds.Component (an_id 11 "a")
          (at 15 (component (at 26 (make.alias_outer (counted 26 2) (m.name (at_place (counted 26 2)) (an_id 40 "x")) space.Ty) ∷ [])) ∷ [])))),
    )
    ∷ (
      "(component (component (alias outer $q $x (type))))",
      one (at 1 (component
          (at 12 (component
          (at 23
          (make.alias_outer (named 23 (an_id 35 "q"))
          (m.name (at_place (named 23 (an_id 35 "q"))) (an_id 38 "x")) space.Ty) ∷ [])) ∷ []))),
    )
    ∷ (
      "(component (type $t u8) (type $t s8))",
      one (at 1 (component (at_id 12 (an_id 17 "t") (make.primitive 0x7d) ∷ at_id 25 (an_id 30 "t") (make.primitive 0x7e) ∷ []))),
    )
    ∷ (
      "(component (type (variant (case $a \"x\") (case $a \"y\"))))",
      one (at 1 (component
          (at 12 (make.variant_type (nodes_from
          (make.case_type (Some (an_id 32 "a")) (codes "x") absent ∷ make.case_type (Some (an_id 46 "a")) (codes "y") absent ∷ []))) ∷ []))),
    )
    ∷ ("(component (type (list $x)))", one (at 1 (component (at 12 (make.list_type (ref space.Ty (by_name 23 "x"))) ∷ []))))
    ∷ (
      "(component (core instance (instantiate 0 (with \"a\" (instance 0 \"x\")))))",
      one (at 1 (component
          (at 12 (make.core_instantiate (numeral 39 0) (nodes_from (make.core_argument (codes "a") (path_at 61 0 ("x" ∷ [])) ∷ []))) ∷ []))),
    )
    ∷ ("(component (import \"a\" (implements \"x\") (implements \"y\") (func)))", unfit 41)
    ∷ (
      "(component (import \"a\" (implements \"x\") (func)))",
      one (at 1 (component
          (at 12
          (make.import_row
          (node (row rows.AttributedName (m.text (codes "a") ▸ present (m.text (codes "x")) ▸ absent ▸ absent ▸ no_leaf))) plain_func) ∷ []))),
    )
    ∷ ("", unfit 0)
    ∷ ("(component (type u8)", unfit 20)
    ∷ ("(module)", one (at 1 (core_module nameless [])))
    ∷ ("(func)", one (at 0 (core_module nameless (c.func_field 1 nameless not_inline no_use [] [] ∷ []))))
    ∷ (
      "(component (core module (func call $x)))",
      one (at 1 (component
          (at 12 (core_module nameless (c.func_field 25 nameless not_inline no_use [] (c.call (c.named (an_id 35 "x")) ∷ []) ∷ [])) ∷ []))),
    )
    ∷ []

abbrev row_15_text : List String
row_15_text =
    "(component (core module $m) (core func $f (canon resource.drop 0)) (core instance (instantiate $m"
    ∷ "(with \"e\" (instance (export \"d\" (func $f)))))))"
    ∷ []

abbrev row_15_left : m.Def
row_15_left = at 1 (component
    (at_id 12 (an_id 24 "m") (core_module (with_id (an_id 24 "m")) [])
    ∷ at_id 29 (an_id 39 "f") (make.of_type rows.ResourceDrop (numeral 63 0))
    ∷ at 68
    (make.core_instantiate (by_name 95 "m") (nodes_from
    (make.core_argument (codes "e") (bundle (make.core_bundle (nodes_from (make.core_bundle_export (codes "d") space.CoreFunc (by_name 136 "f") ∷ [])))) ∷ []))) ∷ []))

-- components, types, imports and exports, aliases, core modules; a second attribute and an end that is missing, read with older forms
abbrev texts_in_older_forms : Texts
texts_in_older_forms = (
  "(component (core func (canon lower (func 0) (realloc (func 0)))))",
  one (at 1 (component (at 12 (make.lower (numeral 41 0) (nodes_from (make.option_of_function rows.OptionRealloc (numeral 59 0) ∷ []))) ∷ []))),
)
    ∷ []

-- each text comes to what stands beside it
all_come :
    (ComeToThese wat_item false texts)
    × (ComeToThese wat_item true texts_in_older_forms)
    × (LongCome wat_item false ((row_15_text, one row_15_left) ∷ []))
unfolding answer
all_come = (refl, refl, (refl, tt))
