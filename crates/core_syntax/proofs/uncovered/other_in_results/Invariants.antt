use Rattle.std.proofs.Common.{◌≡◌, drop, map}
use Rattle.std.specs.List.{list_any}
use Rattle.core_model.specs.Uncovered.{is_other_value}
use Rattle.core_syntax.specs.Fields.{value_of}
use Rattle.core_syntax.proofs.uncovered.other_in_results.Given as goal

-- what is left decides
abbrev pub invariant-loop-ty : goal.invariant-loop-ty
invariant-loop-ty l = list_any is_other_value (map value_of (drop l.ty-index l.results)) ≡ list_any is_other_value (map value_of l.results)
