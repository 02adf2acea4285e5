use Rattle.std.proofs.Common.{◌≡◌, ◌+◌, drop, map, length}
use Rattle.core_syntax.specs.Fields.{param_of}
use Rattle.core_write.specs.Written.{values_of}
use Rattle.core_write.proofs.types.count_params.Given as goal

-- with what is left it is the whole count
abbrev pub invariant-loop-param : goal.invariant-loop-param
invariant-loop-param l = l.count + length (values_of (map param_of (drop l.param-index l.params))) ≡ length (values_of (map param_of l.params))
