-- The first broken rule of small core modules, with its offset in the text that stands above each.
use Rattle.std.specs.Prelude.{pos, codes}
use Rattle.std.proofs.Common.{◌≡◌, true, false, [], ◌∷◌, None, refl}
use Rattle.comp_model.specs.declared.Space.TheVariants.{CoreFunc, CoreMemory}
use Rattle.comp_model.specs.Core as core
use Rattle.comp_model.specs.CoreModules as c
use Rattle.comp_model.specs.CoreModules.{number, type_field, import_field, func_field, table_field, memory_field, global_field, export_field}
use Rattle.core_model.specs.Items.{no_naming}
use Rattle.comp_model.specs.Core.{import_order, core_duplicate, core_unknown, type_mismatch}
use Rattle.core_model.specs.Rule.{refuse, core_rule}
use Rattle.core_model.proofs.Shorthands.{name, called, local, type_named, function_of, no_use, by_index, by_signature, by_both, at_least, plain, importing}

-- (module (func) (import "a" "b" (func)))
import_behind_function : core_rule ((func_field 9 no_naming plain no_use [] [])
    ∷ (import_field 16 (codes "a") (codes "b") no_naming (c.func no_use))
    ∷ [])
    ≡ refuse import_order 16
import_behind_function = refl

-- (module (memory 1) (global (import "a" "b") i32))
inline_import_behind_memory : core_rule ((memory_field 9 no_naming plain (at_least 1))
    ∷ (global_field 20 no_naming (importing (codes "a") (codes "b")) core.i32 false [])
    ∷ [])
    ≡ refuse import_order 20
inline_import_behind_memory = refl

-- (module (table 0 funcref) (func (import "a" "b")))
inline_import_behind_table : core_rule ((table_field 9 no_naming plain (at_least 0) (core.ref_func true))
    ∷ (func_field 27 no_naming (importing (codes "a") (codes "b")) no_use [] [])
    ∷ [])
    ≡ refuse import_order 27
inline_import_behind_table = refl

-- (module (global i32) (table (import "a" "b") 0 funcref))
inline_import_behind_global : core_rule ((global_field 9 no_naming plain core.i32 false [])
    ∷ (table_field 22 no_naming (importing (codes "a") (codes "b")) (at_least 0) (core.ref_func true))
    ∷ [])
    ≡ refuse import_order 22
inline_import_behind_global = refl

-- (module (func $f) (func $f) (import "a" "b" (func)))
import_order_before_duplicate : core_rule ((func_field 9 (called 14 (codes "f")) plain no_use [] [])
    ∷ (func_field 19 (called 24 (codes "f")) plain no_use [] [])
    ∷ (import_field 29 (codes "a") (codes "b") no_naming (c.func no_use))
    ∷ [])
    ≡ refuse import_order 29
import_order_before_duplicate = refl

-- (module (type $a (func)) (type $a (func)))
types_twice : core_rule ((type_field 9 (called 14 (codes "a")) (function_of [] []))
    ∷ (type_field 26 (called 31 (codes "a")) (function_of [] []))
    ∷ [])
    ≡ refuse core_duplicate 31
types_twice = refl

-- (module (import "a" "b" (func $f)) (func $f))
functions_twice : core_rule ((import_field 9 (codes "a") (codes "b") (called 30 (codes "f")) (c.func no_use))
    ∷ (func_field 36 (called 41 (codes "f")) plain no_use [] [])
    ∷ [])
    ≡ refuse core_duplicate 41
functions_twice = refl

-- (module (table $t 0 funcref) (table $t 1 funcref))
tables_twice : core_rule ((table_field 9 (called 15 (codes "t")) plain (at_least 0) (core.ref_func true))
    ∷ (table_field 30 (called 36 (codes "t")) plain (at_least 1) (core.ref_func true))
    ∷ [])
    ≡ refuse core_duplicate 36
tables_twice = refl

-- (module (memory $m 1) (memory $m 1))
memories_twice : core_rule ((memory_field 9 (called 16 (codes "m")) plain (at_least 1))
    ∷ (memory_field 23 (called 30 (codes "m")) plain (at_least 1))
    ∷ [])
    ≡ refuse core_duplicate 30
memories_twice = refl

-- (module (global $g i32 i32.const 0) (global $g i32 i32.const 0))
globals_twice : core_rule ((global_field 9 (called 16 (codes "g")) plain core.i32 false ((c.i32_const (pos 0)) ∷ []))
    ∷ (global_field 37 (called 44 (codes "g")) plain core.i32 false ((c.i32_const (pos 0)) ∷ []))
    ∷ [])
    ≡ refuse core_duplicate 44
globals_twice = refl

-- (module (func call $x) (memory $m 1) (memory $m 1))
duplicate_before_unknown : core_rule ((func_field 9 no_naming plain no_use [] ((c.call (name 19 (codes "x"))) ∷ []))
    ∷ (memory_field 24 (called 31 (codes "m")) plain (at_least 1))
    ∷ (memory_field 38 (called 45 (codes "m")) plain (at_least 1))
    ∷ [])
    ≡ refuse core_duplicate 45
duplicate_before_unknown = refl

-- (component (core module (func call $x)))
unknown_function : core_rule ((func_field 25 no_naming plain no_use [] ((c.call (name 35 (codes "x"))) ∷ []))
    ∷ [])
    ≡ refuse core_unknown 35
unknown_function = refl

-- (module (type (func (param (ref $t)))))
unknown_in_parameter_of_type : core_rule ((type_field 9 no_naming (function_of ((local no_naming (type_named false 32 (codes "t"))) ∷ []) []))
    ∷ [])
    ≡ refuse core_unknown 32
unknown_in_parameter_of_type = refl

-- (module (type (func (result (ref null $t)))))
unknown_in_result_of_type : core_rule ((type_field 9 no_naming (function_of [] ((type_named true 38 (codes "t")) ∷ [])))
    ∷ [])
    ≡ refuse core_unknown 38
unknown_in_result_of_type = refl

-- (module (import "a" "b" (func (type $t))))
unknown_type_of_import : core_rule ((import_field 9 (codes "a") (codes "b") no_naming (c.func (by_index (name 36 (codes "t")))))
    ∷ [])
    ≡ refuse core_unknown 36
unknown_type_of_import = refl

-- (module (import "a" "b" (table 1 (ref $t))))
unknown_in_table_of_import : core_rule ((import_field 9 (codes "a") (codes "b") no_naming (c.table (at_least 1) (type_named false 38 (codes "t"))))
    ∷ [])
    ≡ refuse core_unknown 38
unknown_in_table_of_import = refl

-- (module (import "a" "b" (global (mut (ref $t)))))
unknown_in_global_of_import : core_rule ((import_field 9 (codes "a") (codes "b") no_naming (c.global (type_named false 42 (codes "t")) true))
    ∷ [])
    ≡ refuse core_unknown 42
unknown_in_global_of_import = refl

-- (module (table 1 (ref null $t)))
unknown_in_table : core_rule ((table_field 9 no_naming plain (at_least 1) (type_named true 27 (codes "t")))
    ∷ [])
    ≡ refuse core_unknown 27
unknown_in_table = refl

-- (module (global (ref $t)))
unknown_in_global : core_rule ((global_field 9 no_naming plain (type_named false 21 (codes "t")) false [])
    ∷ [])
    ≡ refuse core_unknown 21
unknown_in_global = refl

-- (module (global i32 global.get $g))
unknown_global_in_initialiser : core_rule ((global_field 9 no_naming plain core.i32 false ((c.global_get (name 31 (codes "g"))) ∷ []))
    ∷ [])
    ≡ refuse core_unknown 31
unknown_global_in_initialiser = refl

-- (module (global i32 local.get $x))
unknown_local_in_initialiser : core_rule ((global_field 9 no_naming plain core.i32 false ((c.local_get (name 30 (codes "x"))) ∷ []))
    ∷ [])
    ≡ refuse core_unknown 30
unknown_local_in_initialiser = refl

-- (module (func (param $y i32) local.get $x))
unknown_local : core_rule ((func_field 9 no_naming plain (by_signature ((local (called 21 (codes "y")) core.i32) ∷ []) []) [] ((c.local_get (name 39 (codes "x"))) ∷ []))
    ∷ [])
    ≡ refuse core_unknown 39
unknown_local = refl

-- (module (func (local (ref $t))))
unknown_in_local : core_rule ((func_field 9 no_naming plain no_use ((local no_naming (type_named false 26 (codes "t"))) ∷ []) [])
    ∷ [])
    ≡ refuse core_unknown 26
unknown_in_local = refl

-- (module (func (param (ref $t))))
unknown_in_parameter : core_rule ((func_field 9 no_naming plain (by_signature ((local no_naming (type_named false 26 (codes "t"))) ∷ []) []) [] [])
    ∷ [])
    ≡ refuse core_unknown 26
unknown_in_parameter = refl

-- (module (export "e" (memory $m)))
unknown_memory_in_export : core_rule ((export_field 9 (codes "e") CoreMemory (name 28 (codes "m")))
    ∷ [])
    ≡ refuse core_unknown 28
unknown_memory_in_export = refl

-- (module (func $f) (export "e" (memory $f)))
name_of_another_space : core_rule ((func_field 9 (called 14 (codes "f")) plain no_use [] [])
    ∷ (export_field 19 (codes "e") CoreMemory (name 38 (codes "f")))
    ∷ [])
    ≡ refuse core_unknown 38
name_of_another_space = refl

-- (module (func (param $x i32) (param $x i32)))
parameters_twice : core_rule ((func_field 9 no_naming plain (by_signature ((local (called 21 (codes "x")) core.i32) ∷ (local (called 36 (codes "x")) core.i32) ∷ []) []) [] [])
    ∷ [])
    ≡ refuse core_duplicate 36
parameters_twice = refl

-- (module (func (param $x i32) (local $x i64)))
parameter_and_local_twice : core_rule ((func_field 9 no_naming plain (by_signature ((local (called 21 (codes "x")) core.i32) ∷ []) []) ((local (called 36 (codes "x")) core.i64) ∷ []) [])
    ∷ [])
    ≡ refuse core_duplicate 36
parameter_and_local_twice = refl

-- (module (func (local $x i32) (local $x (ref $t))))
name_in_local_before_its_duplicate : core_rule ((func_field 9 no_naming plain no_use ((local (called 21 (codes "x")) core.i32) ∷ (local (called 36 (codes "x")) (type_named false 44 (codes "t"))) ∷ []) [])
    ∷ [])
    ≡ refuse core_unknown 44
name_in_local_before_its_duplicate = refl

-- (module (func (param $x i32) (local $x i64) call $z))
locals_before_instructions : core_rule ((func_field 9 no_naming plain (by_signature ((local (called 21 (codes "x")) core.i32) ∷ []) []) ((local (called 36 (codes "x")) core.i64) ∷ []) ((c.call (name 49 (codes "z"))) ∷ []))
    ∷ [])
    ≡ refuse core_duplicate 36
locals_before_instructions = refl

-- (module (func (import "a" "b") (param $x i32) (param $x i32)))
parameters_twice_in_inline_import : core_rule ((func_field 9 no_naming (importing (codes "a") (codes "b")) (by_signature ((local (called 38 (codes "x")) core.i32) ∷ (local (called 53 (codes "x")) core.i32) ∷ []) []) [] [])
    ∷ [])
    ≡ refuse core_duplicate 53
parameters_twice_in_inline_import = refl

-- (module (func (type 0) (param i32)))
no_written_type : core_rule ((func_field 9 no_naming plain (by_both (number 20 0) ((local no_naming core.i32) ∷ []) []) [] [])
    ∷ [])
    ≡ refuse type_mismatch 20
no_written_type = refl

-- (module (func (type 0) (param)))
empty_group_without_type : core_rule ((func_field 9 no_naming plain (by_both (number 20 0) [] []) [] [])
    ∷ [])
    ≡ refuse type_mismatch 20
empty_group_without_type = refl

-- (module (type $t (func)) (func (type $t) (result i32)))
other_results : core_rule ((type_field 9 (called 14 (codes "t")) (function_of [] []))
    ∷ (func_field 26 no_naming plain (by_both (name 37 (codes "t")) [] (core.i32 ∷ [])) [] [])
    ∷ [])
    ≡ refuse type_mismatch 37
other_results = refl

-- (module (type (func)) (import "a" "b" (func (type 0) (param i32))))
other_parameters_of_import : core_rule ((type_field 9 no_naming (function_of [] []))
    ∷ (import_field 23 (codes "a") (codes "b") no_naming (c.func (by_both (number 50 0) ((local no_naming core.i32) ∷ []) [])))
    ∷ [])
    ≡ refuse type_mismatch 50
other_parameters_of_import = refl

-- (module (func (type 0) (param i32)) (type (func (param (ref $t)))))
mismatch_before_unknown_of_later_type : core_rule ((func_field 9 no_naming plain (by_both (number 20 0) ((local no_naming core.i32) ∷ []) []) [] [])
    ∷ (type_field 37 no_naming (function_of ((local no_naming (type_named false 60 (codes "t"))) ∷ []) []))
    ∷ [])
    ≡ refuse type_mismatch 20
mismatch_before_unknown_of_later_type = refl

-- (module (func (type $t) (param (ref $u))))
index_before_names : core_rule ((func_field 9 no_naming plain (by_both (name 20 (codes "t")) ((local no_naming (type_named false 36 (codes "u"))) ∷ []) []) [] [])
    ∷ [])
    ≡ refuse core_unknown 20
index_before_names = refl

-- (module (func (type 7) (param (ref $u))))
names_before_mismatch : core_rule ((func_field 9 no_naming plain (by_both (number 20 7) ((local no_naming (type_named false 35 (codes "u"))) ∷ []) []) [] [])
    ∷ [])
    ≡ refuse core_unknown 35
names_before_mismatch = refl

-- (module (type (func)) (export "f" (func 0)) (import "a" "b" (func)))
imports_behind_types_and_exports : core_rule ((type_field 9 no_naming (function_of [] []))
    ∷ (export_field 23 (codes "f") CoreFunc (number 40 0))
    ∷ (import_field 45 (codes "a") (codes "b") no_naming (c.func no_use))
    ∷ [])
    ≡ None
imports_behind_types_and_exports = refl

-- (module (func (import "a" "b")) (import "c" "d" (func)))
imports_behind_imports : core_rule ((func_field 9 no_naming (importing (codes "a") (codes "b")) no_use [] [])
    ∷ (import_field 33 (codes "c") (codes "d") no_naming (c.func no_use))
    ∷ [])
    ≡ None
imports_behind_imports = refl

-- (module (memory $a 1) (func $a))
one_id_in_two_spaces : core_rule ((memory_field 9 (called 16 (codes "a")) plain (at_least 1))
    ∷ (func_field 23 (called 28 (codes "a")) plain no_use [] [])
    ∷ [])
    ≡ None
one_id_in_two_spaces = refl

-- (module (import "a" "b" (func (param $x i32) (param $x i32))))
parameters_of_import_twice : core_rule ((import_field 9 (codes "a") (codes "b") no_naming (c.func (by_signature ((local (called 37 (codes "x")) core.i32) ∷ (local (called 52 (codes "x")) core.i32) ∷ []) [])))
    ∷ [])
    ≡ None
parameters_of_import_twice = refl

-- (module (type (func (param $x i32) (param $x i32))))
parameters_of_type_twice : core_rule ((type_field 9 no_naming (function_of ((local (called 27 (codes "x")) core.i32) ∷ (local (called 42 (codes "x")) core.i32) ∷ []) []))
    ∷ [])
    ≡ None
parameters_of_type_twice = refl

-- (module (type $t (func (param (ref $t)))) (func (type $t) (param (ref 0))))
name_and_number_are_one_type : core_rule ((type_field 9 (called 14 (codes "t")) (function_of ((local no_naming (type_named false 35 (codes "t"))) ∷ []) []))
    ∷ (func_field 43 no_naming plain (by_both (name 54 (codes "t")) ((local no_naming (core.ref_numeral false 70 0)) ∷ []) []) [] [])
    ∷ [])
    ≡ None
name_and_number_are_one_type = refl
