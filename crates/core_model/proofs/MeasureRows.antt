-- Weights and uncovered forms of small core modules, and bytes of a module with forms that are never written; the text stands above each.
use Rattle.std.specs.Prelude.{codes}
use Rattle.std.proofs.Common.{◌≡◌, false, [], ◌∷◌, List, Some, None, refl}
use Rattle.comp_model.specs.declared.Space.TheVariants.{CoreFunc, CoreTag}
use Rattle.comp_model.specs.Core as core
use Rattle.comp_model.specs.Leb.{leb}
use Rattle.comp_model.specs.CoreModules as c
use Rattle.comp_model.specs.CoreModules.{number, Field, type_field, import_field, func_field, memory_field, global_field, export_field, other_field}
use Rattle.core_model.specs.Items.{no_naming}
use Rattle.core_model.specs.Rule.{core_rule}
use Rattle.core_model.specs.Module.{core_bytes, module_with}
use Rattle.core_model.specs.Weight.{core_weight, weight_alone}
use Rattle.core_model.specs.Uncovered.{core_uncovered}
use Rattle.core_model.proofs.Shorthands.{name, called, both_names, local, function_of, no_use, by_signature, by_both, at_least, plain, exporting, importing, behind_preamble}

-- (module (func (export "abc") (param $xy (@name "p") i32) (param i32) (result i32) (local $z i64) local.get $xy))
-- a field, an inline export and its 3 bytes, two parameters, a result, a local, an instruction, the ids xy and z, the label p
one_function : core_weight (func_field 9 no_naming (exporting (codes "abc" ∷ []))
    (by_signature (local (both_names 36 (codes "xy") (codes "p")) core.i32 ∷ local no_naming core.i32 ∷ []) (core.i32 ∷ [])) (local (called 91 (codes "z")) core.i64 ∷ []) (c.local_get (name 108 (codes "xy")) ∷ []) ∷ [])
    ≡ 231
one_function = refl

-- (module $m (import "ab" "c" (func $f (param i32))) (type (func (param i32) (result i32))) (export "e" (func $f)))
-- three fields, the texts ab, c and e, the id f, the parameter and result of a type and a parameter of an import; alone 32 and the id m more
imports_and_exports : weight_alone (module_with (called 8 (codes "m")) (import_field 12 (codes "ab") (codes "c") (called 34 (codes "f")) (c.func (by_signature (local no_naming core.i32 ∷ []) []))
    ∷ type_field 54 no_naming (function_of (local no_naming core.i32 ∷ []) (core.i32 ∷ [])) ∷ export_field 93 (codes "e") CoreFunc (name 109 (codes "f")) ∷ []))
    ≡ 230
imports_and_exports = refl

-- (module (func (import "ab" "c")) (memory 1) (start 0))
inline_imports : core_weight (func_field 9 no_naming (importing (codes "ab") (codes "c")) no_use [] [] ∷ memory_field 34 no_naming plain (at_least 1) ∷ other_field 45 ∷ []) ≡ 99
inline_imports = refl

-- (module (func) (start 0) (func (param anyref)))
first_holder : core_uncovered (func_field 9 no_naming plain no_use [] [] ∷ other_field 16 ∷ func_field 26 no_naming plain (by_signature (local no_naming core.other_value ∷ []) []) [] [] ∷ [])
    ≡ Some (record { row = 7; offset = 16 })
first_holder = refl

-- (module (func (param anyref) if end))
lowest_row : core_uncovered (func_field 9 no_naming plain (by_signature (local no_naming core.other_value ∷ []) []) [] (c.other_instruction 29 ∷ []) ∷ [])
    ≡ Some (record { row = 6; offset = 9 })
lowest_row = refl

-- (module (func if end))
other_instructions : core_uncovered (func_field 9 no_naming plain no_use [] (c.other_instruction 14 ∷ []) ∷ []) ≡ Some (record { row = 7; offset = 9 })
other_instructions = refl

-- (module (type (struct)))
other_types : core_uncovered (type_field 9 no_naming (c.other_type 15) ∷ []) ≡ Some (record { row = 6; offset = 9 })
other_types = refl

-- (module (import "a" "b" (tag)))
tags : core_uncovered (import_field 9 (codes "a") (codes "b") no_naming (c.other_entity 25) ∷ []) ≡ Some (record { row = 6; offset = 9 })
tags = refl

-- (module (global anyref nop) (memory i64 1))
other_globals : core_uncovered (global_field 9 no_naming plain core.other_value false (c.nop ∷ []) ∷ other_field 29 ∷ []) ≡ Some (record { row = 6; offset = 9 })
other_globals = refl

-- an export of a tag, which no text spells
exported_tag : core_uncovered (export_field 9 (codes "e") CoreTag (number 22 0) ∷ []) ≡ Some (record { row = 7; offset = 9 })
exported_tag = refl

-- (module (func call 0) (memory 1))
covered : core_uncovered (func_field 9 no_naming plain no_use [] (c.call (number 19 0) ∷ []) ∷ memory_field 23 no_naming plain (at_least 1) ∷ []) ≡ None
covered = refl

-- (module (type (struct)) (type (func (param anyref i32))) (func (type 1) (param anyref i32) (local i32 anyref i32) nop if end) (start 0))
abbrev others : List Field
others = type_field 9 no_naming (c.other_type 15) ∷ type_field 25 no_naming (function_of (local no_naming core.other_value ∷ local no_naming core.i32 ∷ []) [])
    ∷ func_field 58 no_naming plain (by_both (number 69 1) (local no_naming core.other_value ∷ local no_naming core.i32 ∷ []) [])
    (local no_naming core.i32 ∷ local no_naming core.other_value ∷ local no_naming core.i32 ∷ []) (c.nop ∷ c.other_instruction 118 ∷ [])
    ∷ other_field 126 ∷ []

others_accepted : core_rule others ≡ None
others_accepted = refl

-- no byte and no count tells of them, and the index of the second type stays
others_written : core_bytes (module_with no_naming others) ≡ behind_preamble (codes "01 05 01 60 01 7f 00 03 02 01 01 0a 07 01 05 01 02 7f 01 0b")
unfolding leb
others_written = refl
