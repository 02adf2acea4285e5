-- The bytes of core modules behind the preamble, worked out by hand from the WebAssembly binary format; the text stands above each.
use Rattle.std.specs.Prelude.{pos, negsuc, codes}
use Rattle.std.proofs.Common.{◌≡◌, true, false, [], ◌∷◌, refl}
use Rattle.comp_model.specs.declared.Space.TheVariants.{CoreFunc, CoreTable, CoreMemory, CoreGlobal}
use Rattle.comp_model.specs.Core as core
use Rattle.comp_model.specs.CoreModules as c
use Rattle.comp_model.specs.CoreModules.{number, type_field, import_field, func_field, table_field, memory_field, global_field, export_field}
use Rattle.core_model.specs.Items.{no_naming}
use Rattle.comp_model.specs.Leb.{leb}
use Rattle.core_model.specs.Module.{core_bytes, module_with}
use Rattle.core_model.proofs.Shorthands.{name, called, labelled, both_names, local, type_named, function_of, no_use, by_index, by_signature, by_both, at_least, between, plain, exporting, importing, passing_on, behind_preamble}

-- (module)
empty_module : core_bytes (module_with no_naming [])
    ≡ behind_preamble (codes "")
unfolding leb
empty_module = refl

-- (module $m)
named_module : core_bytes (module_with (called 8 (codes "m")) [])
    ≡ behind_preamble (codes "00 09 04 6e 61 6d 65 00 02 01 6d")
unfolding leb
named_module = refl

-- (component $app (core module $m (memory (export "mem") 1) (func (export "realloc") (param i32 i32 i32 i32) (result i32) i32.const 0) (func (export "greet") (param $p i32) (param i32) (result i32) local.get $p)))
realistic_module : core_bytes (module_with (called 0 (codes "m")) ((memory_field 37 no_naming (exporting ((codes "mem") ∷ [])) (at_least 1))
    ∷ (func_field 67 no_naming (exporting ((codes "realloc") ∷ [])) (by_signature ((local no_naming core.i32) ∷ (local no_naming core.i32) ∷ (local no_naming core.i32) ∷ (local no_naming core.i32) ∷ []) (core.i32 ∷ [])) [] ((c.i32_const (pos 0)) ∷ []))
    ∷ (func_field 152 no_naming (exporting ((codes "greet") ∷ [])) (by_signature ((local (called 181 (codes "p")) core.i32) ∷ (local no_naming core.i32) ∷ []) (core.i32 ∷ [])) [] ((c.local_get (name 230 (codes "p"))) ∷ []))
    ∷ []))
    ≡ behind_preamble (codes "01 0f 02 60 04 7f 7f 7f 7f 01 7f 60 02 7f 7f 01 7f 03 03 02 00 01 05 03 01 00 01 07 19 03 03 6d 65 6d 02 00 07 72 65 61 6c 6c 6f 63 00 00 05 67 72 65 65 74 00 01 0a 0b 02 04 00 41 00 0b 04 00 20 00 0b 00 11 04 6e 61 6d 65 00 02 01 6d 02 06 01 01 01 00 01 70")
unfolding leb
realistic_module = refl

-- (module (func (param i64)) (func) (func (param i64)) (func (result i32)))
types_in_order_of_first_use : core_bytes (module_with no_naming ((func_field 9 no_naming plain (by_signature ((local no_naming core.i64) ∷ []) []) [] [])
    ∷ (func_field 28 no_naming plain no_use [] [])
    ∷ (func_field 35 no_naming plain (by_signature ((local no_naming core.i64) ∷ []) []) [] [])
    ∷ (func_field 54 no_naming plain (by_signature [] (core.i32 ∷ [])) [] [])
    ∷ []))
    ≡ behind_preamble (codes "01 0c 03 60 01 7e 00 60 00 00 60 00 01 7f 03 05 04 00 01 00 02 0a 0d 04 02 00 0b 02 00 0b 02 00 0b 02 00 0b")
unfolding leb
types_in_order_of_first_use = refl

-- (module (func (param i32)) (type (func)) (func))
added_type_behind_later_written : core_bytes (module_with no_naming ((func_field 9 no_naming plain (by_signature ((local no_naming core.i32) ∷ []) []) [] [])
    ∷ (type_field 28 no_naming (function_of [] []))
    ∷ (func_field 42 no_naming plain no_use [] [])
    ∷ []))
    ≡ behind_preamble (codes "01 08 02 60 00 00 60 01 7f 00 03 03 02 01 00 0a 07 02 02 00 0b 02 00 0b")
unfolding leb
added_type_behind_later_written = refl

-- (module (type (func)) (type (func)) (func))
first_of_two_equal_types : core_bytes (module_with no_naming ((type_field 9 no_naming (function_of [] []))
    ∷ (type_field 23 no_naming (function_of [] []))
    ∷ (func_field 37 no_naming plain no_use [] [])
    ∷ []))
    ≡ behind_preamble (codes "01 07 02 60 00 00 60 00 00 03 02 01 00 0a 04 01 02 00 0b")
unfolding leb
first_of_two_equal_types = refl

-- (module (func (type 0) (param i32)) (type (func (param i32))))
use_before_its_type : core_bytes (module_with no_naming ((func_field 9 no_naming plain (by_both (number 20 0) ((local no_naming core.i32) ∷ []) []) [] [])
    ∷ (type_field 37 no_naming (function_of ((local no_naming core.i32) ∷ []) []))
    ∷ []))
    ≡ behind_preamble (codes "01 05 01 60 01 7f 00 03 02 01 00 0a 04 01 02 00 0b")
unfolding leb
use_before_its_type = refl

-- (module (type $t (func)) (func (type $t)))
use_behind_its_type_by_name : core_bytes (module_with no_naming ((type_field 9 (called 14 (codes "t")) (function_of [] []))
    ∷ (func_field 26 no_naming plain (by_index (name 37 (codes "t"))) [] [])
    ∷ []))
    ≡ behind_preamble (codes "01 04 01 60 00 00 03 02 01 00 0a 04 01 02 00 0b 00 0b 04 6e 61 6d 65 04 04 01 00 01 74")
unfolding leb
use_behind_its_type_by_name = refl

-- (module (func (type 1) (local $x i32) local.get $x) (func (param i32 i32)) (type (func)))
use_of_an_added_type : core_bytes (module_with no_naming ((func_field 9 no_naming plain (by_index (number 20 1)) ((local (called 30 (codes "x")) core.i32) ∷ []) ((c.local_get (name 48 (codes "x"))) ∷ []))
    ∷ (func_field 53 no_naming plain (by_signature ((local no_naming core.i32) ∷ (local no_naming core.i32) ∷ []) []) [] [])
    ∷ (type_field 76 no_naming (function_of [] []))
    ∷ []))
    ≡ behind_preamble (codes "01 09 02 60 00 00 60 02 7f 7f 00 03 03 02 01 01 0a 0b 02 06 01 01 7f 20 02 0b 02 00 0b 00 0d 04 6e 61 6d 65 02 06 01 00 01 02 01 78")
unfolding leb
use_of_an_added_type = refl

-- (module (func (type 9) (local $y i64) local.get $y))
use_of_no_type : core_bytes (module_with no_naming ((func_field 9 no_naming plain (by_index (number 20 9)) ((local (called 30 (codes "y")) core.i64) ∷ []) ((c.local_get (name 48 (codes "y"))) ∷ []))
    ∷ []))
    ≡ behind_preamble (codes "03 02 01 09 0a 08 01 06 01 01 7e 20 00 0b 00 0d 04 6e 61 6d 65 02 06 01 00 01 00 01 79")
unfolding leb
use_of_no_type = refl

-- (module (func (local i32 i32) (local i32) (local i64) (local i32)))
joined_locals : core_bytes (module_with no_naming ((func_field 9 no_naming plain no_use ((local no_naming core.i32) ∷ (local no_naming core.i32) ∷ (local no_naming core.i32) ∷ (local no_naming core.i64) ∷ (local no_naming core.i32) ∷ []) [])
    ∷ []))
    ≡ behind_preamble (codes "01 04 01 60 00 00 03 02 01 00 0a 0a 01 08 03 03 7f 01 7e 01 7f 0b")
unfolding leb
joined_locals = refl

-- (module (func (param i32) (local i32)))
parameters_are_not_joined_to_locals : core_bytes (module_with no_naming ((func_field 9 no_naming plain (by_signature ((local no_naming core.i32) ∷ []) []) ((local no_naming core.i32) ∷ []) [])
    ∷ []))
    ≡ behind_preamble (codes "01 05 01 60 01 7f 00 03 02 01 00 0a 06 01 04 01 01 7f 0b")
unfolding leb
parameters_are_not_joined_to_locals = refl

-- (module (export "a" (func 1)) (func (export "b")) (func (export "c") (export "d")))
exports_in_order_of_fields : core_bytes (module_with no_naming ((export_field 9 (codes "a") CoreFunc (number 26 1))
    ∷ (func_field 31 no_naming (exporting ((codes "b") ∷ [])) no_use [] [])
    ∷ (func_field 51 no_naming (exporting ((codes "c") ∷ (codes "d") ∷ [])) no_use [] [])
    ∷ []))
    ≡ behind_preamble (codes "01 04 01 60 00 00 03 03 02 00 00 07 11 04 01 61 00 01 01 62 00 00 01 63 00 01 01 64 00 01 0a 07 02 02 00 0b 02 00 0b")
unfolding leb
exports_in_order_of_fields = refl

-- (module (func $f) (memory $m 1) (table $t 0 funcref) (global $g i32 i32.const 0) (export "f" (func $f)) (export "m" (memory $m)) (export "t" (table $t)) (export "g" (global $g)))
exports_by_name : core_bytes (module_with no_naming ((func_field 9 (called 14 (codes "f")) plain no_use [] [])
    ∷ (memory_field 19 (called 26 (codes "m")) plain (at_least 1))
    ∷ (table_field 33 (called 39 (codes "t")) plain (at_least 0) (core.ref_func true))
    ∷ (global_field 54 (called 61 (codes "g")) plain core.i32 false ((c.i32_const (pos 0)) ∷ []))
    ∷ (export_field 82 (codes "f") CoreFunc (name 99 (codes "f")))
    ∷ (export_field 105 (codes "m") CoreMemory (name 124 (codes "m")))
    ∷ (export_field 130 (codes "t") CoreTable (name 148 (codes "t")))
    ∷ (export_field 154 (codes "g") CoreGlobal (name 173 (codes "g")))
    ∷ []))
    ≡ behind_preamble (codes "01 04 01 60 00 00 03 02 01 00 04 04 01 70 00 00 05 03 01 00 01 06 06 01 7f 00 41 00 0b 07 11 04 01 66 00 00 01 6d 02 00 01 74 01 00 01 67 03 00 0a 04 01 02 00 0b 00 1d 04 6e 61 6d 65 01 04 01 00 01 66 05 04 01 00 01 74 06 04 01 00 01 6d 07 04 01 00 01 67")
unfolding leb
exports_by_name = refl

-- (module (@name "n") (func $f (@name "g") (param (@name "p") i32) (local $l i32)))
labels_before_ids : core_bytes (module_with (labelled (codes "n")) ((func_field 21 (both_names 26 (codes "f") (codes "g")) plain (by_signature ((local (labelled (codes "p")) core.i32) ∷ []) []) ((local (called 72 (codes "l")) core.i32) ∷ []) [])
    ∷ []))
    ≡ behind_preamble (codes "01 05 01 60 01 7f 00 03 02 01 00 0a 06 01 04 01 01 7f 0b 00 1a 04 6e 61 6d 65 00 02 01 6e 01 04 01 00 01 67 02 09 01 00 02 00 01 70 01 01 6c")
unfolding leb
labels_before_ids = refl

-- (module (type $t (func)) (import "a" "b" (func $f)) (table $u 0 funcref) (memory $m 1) (global $g i32 i32.const 0))
each_name_map : core_bytes (module_with no_naming ((type_field 9 (called 14 (codes "t")) (function_of [] []))
    ∷ (import_field 26 (codes "a") (codes "b") (called 47 (codes "f")) (c.func no_use))
    ∷ (table_field 53 (called 59 (codes "u")) plain (at_least 0) (core.ref_func true))
    ∷ (memory_field 74 (called 81 (codes "m")) plain (at_least 1))
    ∷ (global_field 88 (called 95 (codes "g")) plain core.i32 false ((c.i32_const (pos 0)) ∷ []))
    ∷ []))
    ≡ behind_preamble (codes "01 04 01 60 00 00 02 07 01 01 61 01 62 00 00 04 04 01 70 00 00 05 03 01 00 01 06 06 01 7f 00 41 00 0b 00 23 04 6e 61 6d 65 01 04 01 00 01 66 04 04 01 00 01 74 05 04 01 00 01 75 06 04 01 00 01 6d 07 04 01 00 01 67")
unfolding leb
each_name_map = refl

-- (module (type $t (func (param (ref null $t) (ref func) (ref extern) (ref null func) externref v128 f32 f64 i64) (result (ref 5)))))
each_value_type : core_bytes (module_with no_naming ((type_field 9 (called 14 (codes "t")) (function_of ((local no_naming (type_named true 40 (codes "t"))) ∷ (local no_naming (core.ref_func false)) ∷ (local no_naming (core.ref_extern false)) ∷ (local no_naming (core.ref_func true)) ∷ (local no_naming (core.ref_extern true)) ∷ (local no_naming core.v128) ∷ (local no_naming core.f32) ∷ (local no_naming core.f64) ∷ (local no_naming core.i64) ∷ []) ((core.ref_numeral false 125 5) ∷ [])))
    ∷ []))
    ≡ behind_preamble (codes "01 12 01 60 09 63 00 64 70 64 6f 70 6f 7b 7d 7c 7e 01 64 05 00 0b 04 6e 61 6d 65 04 04 01 00 01 74")
unfolding leb
each_value_type = refl

-- (module (func $f (param i32) (local i64) unreachable nop return call $f drop local.get 0 local.set 1 local.tee 1 global.get 0 global.set 9 i32.const -1 i64.const 64 i32.add i32.sub i32.mul))
each_instruction : core_bytes (module_with no_naming ((func_field 9 (called 14 (codes "f")) plain (by_signature ((local no_naming core.i32) ∷ []) []) ((local no_naming core.i64) ∷ []) (c.unreachable ∷ c.nop ∷ c.return ∷ (c.call (name 69 (codes "f"))) ∷ c.drop ∷ (c.local_get (number 87 0)) ∷ (c.local_set (number 99 1)) ∷ (c.local_tee (number 111 1)) ∷ (c.global_get (number 124 0)) ∷ (c.global_set (number 137 9)) ∷ (c.i32_const (negsuc 0)) ∷ (c.i64_const (pos 64)) ∷ c.i32_add ∷ c.i32_sub ∷ c.i32_mul ∷ []))
    ∷ []))
    ≡ behind_preamble (codes "01 05 01 60 01 7f 00 03 02 01 00 0a 1e 01 1c 01 01 7e 00 01 0f 10 00 1a 20 00 21 01 22 01 23 00 24 09 41 7f 42 c0 00 6a 6b 6c 0b 00 0b 04 6e 61 6d 65 01 04 01 00 01 66")
unfolding leb
each_instruction = refl

-- (module (func i32.const 63 i32.const 64 i32.const -64 i32.const -65 i32.const 4294967295 i64.const 128 i64.const -129))
constants : core_bytes (module_with no_naming ((func_field 9 no_naming plain no_use [] ((c.i32_const (pos 63)) ∷ (c.i32_const (pos 64)) ∷ (c.i32_const (negsuc 63)) ∷ (c.i32_const (negsuc 64)) ∷ (c.i32_const (negsuc 0)) ∷ (c.i64_const (pos 128)) ∷ (c.i64_const (negsuc 128)) ∷ []))
    ∷ []))
    ≡ behind_preamble (codes "01 04 01 60 00 00 03 02 01 00 0a 16 01 14 00 41 3f 41 c0 00 41 40 41 bf 7f 41 7f 42 80 01 42 ff 7e 0b")
unfolding leb
constants = refl

-- (module (memory 1 2) (table 0 10 funcref) (memory 128))
limits : core_bytes (module_with no_naming ((memory_field 9 no_naming plain (between 1 2))
    ∷ (table_field 22 no_naming plain (between 0 10) (core.ref_func true))
    ∷ (memory_field 43 no_naming plain (at_least 128))
    ∷ []))
    ≡ behind_preamble (codes "04 05 01 70 01 00 0a 05 07 02 01 01 02 00 80 01")
unfolding leb
limits = refl

-- (module (func call 7))
unchecked_number : core_bytes (module_with no_naming ((func_field 9 no_naming plain no_use [] ((c.call (number 19 7)) ∷ []))
    ∷ []))
    ≡ behind_preamble (codes "01 04 01 60 00 00 03 02 01 00 0a 06 01 04 00 10 07 0b")
unfolding leb
unchecked_number = refl

-- (module (type (func (param $p i32))) (func (type 0) (local $l i32) local.get $l))
parameters_of_its_type_have_no_names : core_bytes (module_with no_naming ((type_field 9 no_naming (function_of ((local (called 27 (codes "p")) core.i32) ∷ []) []))
    ∷ (func_field 38 no_naming plain (by_index (number 49 0)) ((local (called 59 (codes "l")) core.i32) ∷ []) ((c.local_get (name 77 (codes "l"))) ∷ []))
    ∷ []))
    ≡ behind_preamble (codes "01 05 01 60 01 7f 00 03 02 01 00 0a 08 01 06 01 01 7f 20 01 0b 00 0d 04 6e 61 6d 65 02 06 01 00 01 01 01 6c")
unfolding leb
parameters_of_its_type_have_no_names = refl

-- (module (import "a" "f" (func)) (import "a" "t" (table 1 2 externref)) (import "a" "m" (memory 3)) (import "a" "g" (global (mut i64))))
each_import : core_bytes (module_with no_naming ((import_field 9 (codes "a") (codes "f") no_naming (c.func no_use))
    ∷ (import_field 33 (codes "a") (codes "t") no_naming (c.table (between 1 2) (core.ref_extern true)))
    ∷ (import_field 72 (codes "a") (codes "m") no_naming (c.memory (at_least 3)))
    ∷ (import_field 100 (codes "a") (codes "g") no_naming (c.global core.i64 true))
    ∷ []))
    ≡ behind_preamble (codes "01 04 01 60 00 00 02 1e 04 01 61 01 66 00 00 01 61 01 74 01 6f 01 01 02 01 61 01 6d 02 00 03 01 61 01 67 03 7e 01")
unfolding leb
each_import = refl

-- (module (func $f (import "a" "b") (param $p i32)))
parameters_of_imports_have_no_names : core_bytes (module_with no_naming ((func_field 9 (called 14 (codes "f")) (importing (codes "a") (codes "b")) (by_signature ((local (called 41 (codes "p")) core.i32) ∷ []) []) [] [])
    ∷ []))
    ≡ behind_preamble (codes "01 05 01 60 01 7f 00 02 07 01 01 61 01 62 00 00 00 0b 04 6e 61 6d 65 01 04 01 00 01 66")
unfolding leb
parameters_of_imports_have_no_names = refl

-- (module (table $t (export "x") (import "a" "b") 1 2 externref) (global (export "y") (import "c" "d") i32))
exported_imports : core_bytes (module_with no_naming ((table_field 9 (called 15 (codes "t")) (passing_on ((codes "x") ∷ []) (codes "a") (codes "b")) (between 1 2) (core.ref_extern true))
    ∷ (global_field 64 no_naming (passing_on ((codes "y") ∷ []) (codes "c") (codes "d")) core.i32 false [])
    ∷ []))
    ≡ behind_preamble (codes "02 11 02 01 61 01 62 01 6f 01 01 02 01 63 01 64 03 7f 00 07 09 02 01 78 01 00 01 79 03 00 00 0b 04 6e 61 6d 65 05 04 01 00 01 74")
unfolding leb
exported_imports = refl

-- (module (import "a" "b" (func)) (func $g call $h) (func $h call $g) (export "h" (func $h)))
numbers_behind_imports : core_bytes (module_with no_naming ((import_field 9 (codes "a") (codes "b") no_naming (c.func no_use))
    ∷ (func_field 33 (called 38 (codes "g")) plain no_use [] ((c.call (name 46 (codes "h"))) ∷ []))
    ∷ (func_field 51 (called 56 (codes "h")) plain no_use [] ((c.call (name 64 (codes "g"))) ∷ []))
    ∷ (export_field 69 (codes "h") CoreFunc (name 86 (codes "h")))
    ∷ []))
    ≡ behind_preamble (codes "01 04 01 60 00 00 02 07 01 01 61 01 62 00 00 03 03 02 00 00 07 05 01 01 68 00 02 0a 0b 02 04 00 10 02 0b 04 00 10 01 0b 00 0e 04 6e 61 6d 65 01 07 02 01 01 67 02 01 68")
unfolding leb
numbers_behind_imports = refl

-- (module (global $a (mut i32) i32.const 1) (global i32 global.get $a))
globals : core_bytes (module_with no_naming ((global_field 9 (called 16 (codes "a")) plain core.i32 true ((c.i32_const (pos 1)) ∷ []))
    ∷ (global_field 43 no_naming plain core.i32 false ((c.global_get (name 65 (codes "a"))) ∷ []))
    ∷ []))
    ≡ behind_preamble (codes "06 0b 02 7f 01 41 01 0b 7f 00 23 00 0b 00 0b 04 6e 61 6d 65 07 04 01 00 01 61")
unfolding leb
globals = refl

-- (module (func (param $a i32) (param i32) (result i32) (local $b i64) (local $c i64) local.get $c local.set $b local.tee $a))
locals_by_name : core_bytes (module_with no_naming ((func_field 9 no_naming plain (by_signature ((local (called 21 (codes "a")) core.i32) ∷ (local no_naming core.i32) ∷ []) (core.i32 ∷ [])) ((local (called 61 (codes "b")) core.i64) ∷ (local (called 76 (codes "c")) core.i64) ∷ []) ((c.local_get (name 94 (codes "c"))) ∷ (c.local_set (name 107 (codes "b"))) ∷ (c.local_tee (name 120 (codes "a"))) ∷ []))
    ∷ []))
    ≡ behind_preamble (codes "01 07 01 60 02 7f 7f 01 7f 03 02 01 00 0a 0c 01 0a 01 02 7e 20 03 21 02 22 00 0b 00 13 04 6e 61 6d 65 02 0c 01 00 03 00 01 61 02 01 62 03 01 63")
unfolding leb
locals_by_name = refl
