use Rattle.std.proofs.Common.{◌≡◌, drop, map}
use Rattle.std.specs.List.{list_all}
use Rattle.core_model.specs.IsResolved.{value_resolved}
use Rattle.core_syntax.specs.Fields.{value_of}
use Rattle.core_syntax.proofs.resolved.are_results_resolved.Given as goal

-- what is left decides
abbrev pub invariant-loop-ty : goal.invariant-loop-ty
invariant-loop-ty l = list_all value_resolved (map value_of (drop l.ty-index l.results)) ≡ list_all value_resolved (map value_of l.results)
