-- What a module weighs bounds how many parts it has.
use Rattle.std.proofs.Common.{◌≡◌, ◌+◌, ◌-◌, ◌^◌, ◌<◌, ◌≤◌, Option, Some, None, List, [], ◌∷◌, length, map, ap, arith}
use Rattle.std.proofs.lemmas.List.{length-map}
use Rattle.comp_model.specs.Weight.{weight_of_all}
use Rattle.comp_model.specs.CoreModules as c
use Rattle.comp_model.specs.CoreModules.{Local, FunctionType, Field}
use Rattle.core_model.specs.Types.{written_params}
use Rattle.core_model.specs.Weight.{weight_of_local, weight_of_signature, weight_of_field, core_weight}
use Rattle.core_syntax.specs.declared.fields.Func.{Func}
use Rattle.core_syntax.specs.Fields.{use_of, local_of, func_of}

field-weighs : (f : Field) → 1 ≤ weight_of_field f
field-weighs (c.type_field o n d) = omega arith
field-weighs (c.import_field o m x n e) = omega arith
field-weighs (c.func_field o n i u ls is) = omega arith
field-weighs (c.table_field o n i l v) = omega arith
field-weighs (c.memory_field o n i l) = omega arith
field-weighs (c.global_field o n i v m is) = omega arith
field-weighs (c.export_field o x s i) = omega arith
field-weighs (c.other_field o) = omega arith

-- fields are no more than their weight
pub fields-weigh : (fs : List Field) → length fs ≤ core_weight fs
fields-weigh [] = omega arith
fields-weigh (f ∷ fs) = omega (arith, field-weighs f, fields-weigh fs)

locals-weigh : (ls : List Local) → length ls ≤ weight_of_all weight_of_local ls
locals-weigh [] = omega arith
locals-weigh (l ∷ ls) = omega (arith, locals-weigh ls)

params-weigh : (t : Option FunctionType) → length (written_params t) ≤ weight_of_signature t
params-weigh None = omega arith
params-weigh (Some t) = omega (arith, locals-weigh t.params)

-- parameters and locals are no more than the weight of their function
pub locals-few : (f : Func) → weight_of_field (func_of f) < 2 ^ 31 → length (written_params (use_of f.ty).signature) + length f.locals.items < 2 ^ 32 - 1
locals-few f h = omega (arith, h, params-weigh (use_of f.ty).signature, locals-weigh (map local_of f.locals.items), length-map f.locals.items local_of)

-- the fields behind one are no heavier than all of them
pub rest-weighs : (f : Field) (rest fs : List Field) → fs ≡ f ∷ rest → core_weight fs < 2 ^ 31 → core_weight rest < 2 ^ 31
rest-weighs f rest fs e h = let w : core_weight fs ≡ weight_of_field f + core_weight rest = ap core_weight e in omega (arith, w, h)
