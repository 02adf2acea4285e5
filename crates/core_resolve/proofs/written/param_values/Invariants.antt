use Rattle.std.proofs.Common.{◌≡◌, ◌++◌, drop, map}
use Rattle.core_model.specs.Types.{resolved_value}
use Rattle.core_syntax.specs.Fields.{param_of}
use Rattle.core_names.specs.ResolvedTypes.{value}
use Rattle.core_resolve.proofs.written.param_values.Given as goal

-- what is left completes the list
abbrev pub invariant-loop-param : goal.invariant-loop-param
invariant-loop-param l = map value l.values.items ++ map (λ p. resolved_value l.types p.value) (map param_of (drop l.param-index l.params)) ≡ map (λ p. resolved_value l.types p.value) (map param_of l.params)
