use Rattle.std.proofs.Common.{◌≡◌, map}
use Rattle.core_model.specs.Resolved.{numbered_value}
use Rattle.core_syntax.specs.Fields.{value_of}
use Rattle.core_resolve.proofs.Changed.{changed_from}
use Rattle.core_resolve.proofs.types.number_results.Given as goal

-- what is left completes the change
abbrev pub invariant-loop-ty : goal.invariant-loop-ty
invariant-loop-ty l = changed_from value_of (numbered_value l.types) l.ty-index l.results ≡ map (numbered_value l.types) (map value_of l.initial.results)
