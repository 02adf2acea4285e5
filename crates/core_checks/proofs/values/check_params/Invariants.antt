use Rattle.std.proofs.Common.{◌≡◌, drop, map}
use Rattle.core_model.specs.Rule.{first_broken, unknown_in_value}
use Rattle.core_syntax.specs.Fields.{param_of}
use Rattle.core_checks.proofs.values.check_params.Given as goal

-- what is left decides
abbrev pub invariant-loop-param : goal.invariant-loop-param
invariant-loop-param l = first_broken (map (λ p. unknown_in_value l.types p.value) (map param_of (drop l.param-index l.params))) ≡ first_broken (map (λ p. unknown_in_value l.types p.value) (map param_of l.params))
