use Rattle.std.proofs.Common.{◌≡◌, ◌++◌, drop, map}
use Rattle.core_model.specs.Types.{nameless}
use Rattle.core_model.specs.Resolved.{written_value}
use Rattle.core_syntax.specs.Fields.{param_of}
use Rattle.core_names.specs.ResolvedTypes.{value}
use Rattle.core_resolve.proofs.added.params_of.Given as goal

-- what is left completes the list
abbrev pub invariant-loop-ty : goal.invariant-loop-ty
invariant-loop-ty l = map param_of l.params.items ++ map (λ x. nameless (written_value x)) (map value (drop l.ty-index l.types)) ≡ map (λ x. nameless (written_value x)) (map value l.types)
