use Rattle.std.proofs.Common.{◌≡◌, drop, map}
use Rattle.core_model.specs.Types.{resolved_value, same_values}
use Rattle.core_syntax.specs.Fields.{value_of}
use Rattle.core_checks.proofs.signatures.are_same_results.Given as goal

-- what is left decides
abbrev pub invariant-loop-place : goal.invariant-loop-place
invariant-loop-place l =
    same_values (map (resolved_value l.types) (map value_of (drop l.place l.a))) (map (resolved_value l.types) (map value_of (drop l.place l.b)))
    ≡ same_values (map (resolved_value l.types) (map value_of l.a)) (map (resolved_value l.types) (map value_of l.b))
