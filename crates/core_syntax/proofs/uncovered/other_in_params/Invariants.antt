use Rattle.std.proofs.Common.{◌≡◌, drop, map}
use Rattle.std.specs.List.{list_any}
use Rattle.core_model.specs.Uncovered.{is_other_value}
use Rattle.core_syntax.specs.Fields.{param_of}
use Rattle.core_syntax.proofs.uncovered.other_in_params.Given as goal

-- what is left decides
abbrev pub invariant-loop-param : goal.invariant-loop-param
invariant-loop-param l = list_any (λ p. is_other_value p.value) (map param_of (drop l.param-index l.params)) ≡ list_any (λ p. is_other_value p.value) (map param_of l.params)
