-- How many types there are, and how many parameters each has: a small part of the weight.
use Rattle.std.proofs.Common.{◌+◌, ◌*◌, ◌<◌, ◌≤◌, ◌^◌, List, length, map, Option, Some, None, arith}
use Rattle.std.proofs.lemmas.List.{length-map}
use Rattle.comp_model.specs.CoreModules as c
use Rattle.comp_model.specs.CoreModules.{FunctionType, Field}
use Rattle.core_model.specs.Types.{all_types, written_params}
use Rattle.core_model.specs.Weight.{weight_of_signature, weight_of_field, core_weight}
use Rattle.core_model.proofs.Counts.{types-counted, params-counted, locals-weigh, types-share}
use Rattle.core_syntax.specs.declared.fields.Func.{Func}
use Rattle.core_syntax.specs.Fields.{local_of, use_of, func_of}
use Rattle.core_resolve.specs.LocalIds.{FewParams}

-- there are few types
pub few-types : (fs : List Field) → core_weight fs < 2 ^ 31 → length (all_types fs) < 2 ^ 31
few-types fs light = let a = types-counted (all_types fs) in let b = types-share fs in omega (arith, a, b, light)

-- and each has few parameters
pub few-params : (fs : List Field) → core_weight fs < 2 ^ 31 → FewParams (all_types fs)
few-params fs light = λ i. let a = params-counted (all_types fs) i in let b = types-share fs in omega (arith, a, b, light)

-- a function has few parameters and locals of its own
params-weigh : (t : Option FunctionType) → 32 * length (written_params t) ≤ weight_of_signature t
params-weigh None = omega arith
params-weigh (Some t) = let e = locals-weigh t.params in omega (arith, e)

pub few-locals : (f : Func) → weight_of_field (func_of f) < 2 ^ 31 → length (written_params (use_of f.ty).signature) + length f.locals.items < 2 ^ 31
few-locals f light =
    let a = params-weigh (use_of f.ty).signature in
    let b = locals-weigh (map local_of f.locals.items) in
    let d = length-map f.locals.items local_of in
    omega (arith, a, b, d, light)
