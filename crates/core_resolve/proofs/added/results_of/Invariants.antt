use Rattle.std.proofs.Common.{◌≡◌, ◌++◌, drop, map}
use Rattle.core_model.specs.Resolved.{written_value}
use Rattle.core_syntax.specs.Fields.{value_of}
use Rattle.core_names.specs.ResolvedTypes.{value}
use Rattle.core_resolve.proofs.added.results_of.Given as goal

-- what is left completes the list
abbrev pub invariant-loop-ty : goal.invariant-loop-ty
invariant-loop-ty l = map value_of l.results.items ++ map written_value (map value (drop l.ty-index l.types)) ≡ map written_value (map value l.types)
