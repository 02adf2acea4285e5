use Rattle.std.proofs.Common.{◌≡◌, drop, map}
use Rattle.std.specs.List.{list_all}
use Rattle.core_model.specs.IsResolved.{value_resolved}
use Rattle.core_syntax.specs.Fields.{param_of}
use Rattle.core_syntax.proofs.resolved.are_params_resolved.Given as goal

-- what is left decides
abbrev pub invariant-loop-param : goal.invariant-loop-param
invariant-loop-param l = list_all (λ p. value_resolved p.value) (map param_of (drop l.param-index l.params)) ≡ list_all (λ p. value_resolved p.value) (map param_of l.params)
