use Rattle.std.proofs.Common.{true, drop, map}
use Rattle.core_syntax.specs.Fields.{param_of}
use Rattle.core_write.specs.Written.{values_of}
use Rattle.comp_wire.specs.Spelled.{core_bytes}
use Rattle.core_fits.proofs.Sizes.{SoFar}
use Rattle.core_fits.proofs.types.params_size.Given as goal

-- with what is left it is the whole
abbrev pub invariant-loop-param : goal.invariant-loop-param
invariant-loop-param l = SoFar l.size (map core_bytes (values_of (map param_of (drop l.param-index l.params)))) true (map core_bytes (values_of (map param_of l.params))) true
