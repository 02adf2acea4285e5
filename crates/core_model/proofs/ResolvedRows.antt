-- Fields of small core modules, resolved; the text stands above each.
use Rattle.std.specs.Prelude.{codes}
use Rattle.std.proofs.Common.{◌≡◌, true, false, List, [], ◌∷◌, refl}
use Rattle.comp_model.specs.declared.Space.TheVariants.{CoreFunc}
use Rattle.comp_model.specs.Core as core
use Rattle.comp_model.specs.CoreModules as c
use Rattle.comp_model.specs.CoreModules.{number, Field, type_field, func_field, global_field, export_field}
use Rattle.core_model.specs.Items.{no_naming}
use Rattle.core_model.specs.Resolved.{resolved_fields}
use Rattle.core_model.specs.IsResolved.{are_resolved}
use Rattle.core_model.proofs.Shorthands.{name, called, local, type_named, function_of, no_use, by_index, by_signature, by_both, plain}

-- (module (func $f (param $x i32) (result i32) local.get $x call $f) (type $t (func)) (func (type $t) (local $y (ref $t)) local.get $y) (export "f" (func $f)) (func))
abbrev before : List Field
before = func_field 9 (called 14 (codes "f")) plain (by_signature (local (called 24 (codes "x")) core.i32 ∷ []) (core.i32 ∷ [])) [] (c.local_get (name 56 (codes "x")) ∷ c.call (name 64 (codes "f")) ∷ [])
    ∷ type_field 69 (called 74 (codes "t")) (function_of [] [])
    ∷ func_field 86 no_naming plain (by_index (name 97 (codes "t"))) (local (called 108 (codes "y")) (type_named false 116 (codes "t")) ∷ []) (c.local_get (name 131 (codes "y")) ∷ [])
    ∷ export_field 136 (codes "f") CoreFunc (name 153 (codes "f"))
    ∷ func_field 159 no_naming plain no_use [] []
    ∷ []

-- the type of the first function is added behind; the last one uses the written type
abbrev after : List Field
after = func_field 9 (called 14 (codes "f")) plain (by_both (number 0 1) (local (called 24 (codes "x")) core.i32 ∷ []) (core.i32 ∷ [])) [] (c.local_get (number 56 0) ∷ c.call (number 64 0) ∷ [])
    ∷ type_field 69 (called 74 (codes "t")) (function_of [] [])
    ∷ func_field 86 no_naming plain (by_index (number 97 0)) (local (called 108 (codes "y")) (core.ref_numeral false 116 0) ∷ []) (c.local_get (number 131 0) ∷ [])
    ∷ export_field 136 (codes "f") CoreFunc (number 153 0)
    ∷ func_field 159 no_naming plain (by_index (number 0 0)) [] []
    ∷ type_field 0 no_naming (function_of (local no_naming core.i32 ∷ []) (core.i32 ∷ []))
    ∷ []

resolved : resolved_fields before ≡ after
resolved = refl

not_yet : are_resolved before ≡ false
not_yet = refl

afterwards : are_resolved after ≡ true
afterwards = refl

unchanged : resolved_fields after ≡ after
unchanged = refl
