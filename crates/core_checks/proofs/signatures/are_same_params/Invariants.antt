use Rattle.std.proofs.Common.{◌≡◌, drop, map}
use Rattle.core_model.specs.Types.{resolved_value, same_values}
use Rattle.core_syntax.specs.Fields.{param_of}
use Rattle.core_checks.proofs.signatures.are_same_params.Given as goal

-- what is left decides
abbrev pub invariant-loop-place : goal.invariant-loop-place
invariant-loop-place l =
    same_values (map (λ p. resolved_value l.types p.value) (map param_of (drop l.place l.a))) (map (λ p. resolved_value l.types p.value) (map param_of (drop l.place l.b)))
    ≡ same_values (map (λ p. resolved_value l.types p.value) (map param_of l.a)) (map (λ p. resolved_value l.types p.value) (map param_of l.b))
