-- What value types with their names resolved stand for as data of the model.
use Rattle.comp_model.specs.Core as core
use Rattle.comp_model.specs.Core.{CoreValue}
use Rattle.core_names.specs.declared.resolved.ResolvedType.{ResolvedType}
use Rattle.core_names.specs.declared.resolved.ResolvedType.TheVariants.{I32, I64, F32, F64, V128, Func, Extern, Concrete, Other}

abbrev pub value : ResolvedType → CoreValue
value I32 = core.i32
value I64 = core.i64
value F32 = core.f32
value F64 = core.f64
value V128 = core.v128
value (Func nullable) = core.ref_func nullable
value (Extern nullable) = core.ref_extern nullable
value (Concrete nullable index) = core.ref_index nullable index
value Other = core.other_value
