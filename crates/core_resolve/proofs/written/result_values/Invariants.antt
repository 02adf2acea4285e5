use Rattle.std.proofs.Common.{◌≡◌, ◌++◌, drop, map}
use Rattle.core_model.specs.Types.{resolved_value}
use Rattle.core_syntax.specs.Fields.{value_of}
use Rattle.core_names.specs.ResolvedTypes.{value}
use Rattle.core_resolve.proofs.written.result_values.Given as goal

-- what is left completes the list
abbrev pub invariant-loop-ty : goal.invariant-loop-ty
invariant-loop-ty l = map value l.values.items ++ map (resolved_value l.types) (map value_of (drop l.ty-index l.results)) ≡ map (resolved_value l.types) (map value_of l.results)
