use Rattle.std.proofs.Common.{◌≡◌, drop, map}
use Rattle.core_model.specs.Rule.{first_broken, unknown_in_value}
use Rattle.core_syntax.specs.Fields.{value_of}
use Rattle.core_checks.proofs.values.check_results.Given as goal

-- what is left decides
abbrev pub invariant-loop-ty : goal.invariant-loop-ty
invariant-loop-ty l = first_broken (map (unknown_in_value l.types) (map value_of (drop l.ty-index l.results))) ≡ first_broken (map (unknown_in_value l.types) (map value_of l.results))
