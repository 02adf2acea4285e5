use Rattle.std.proofs.Common.{◌≡◌, ◌++◌, drop, map}
use Rattle.comp_model.specs.Payloads.{joined}
use Rattle.comp_wire.specs.Spelled.{core_bytes}
use Rattle.core_syntax.specs.Fields.{param_of}
use Rattle.core_write.specs.Written.{values_of}
use Rattle.core_write.proofs.types.push_params.Given as goal

-- what is left completes the list
abbrev pub invariant-loop-param : goal.invariant-loop-param
invariant-loop-param l = l.out.items ++ joined (map core_bytes (values_of (map param_of (drop l.param-index l.params)))) ≡ l.initial.out.items ++ joined (map core_bytes (values_of (map param_of l.params)))
