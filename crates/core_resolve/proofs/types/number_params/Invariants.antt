use Rattle.std.proofs.Common.{◌≡◌, map}
use Rattle.core_model.specs.Resolved.{numbered_local}
use Rattle.core_syntax.specs.Fields.{param_of}
use Rattle.core_resolve.proofs.Changed.{changed_from}
use Rattle.core_resolve.proofs.types.number_params.Given as goal

-- what is left completes the change
abbrev pub invariant-loop-param : goal.invariant-loop-param
invariant-loop-param l = changed_from param_of (numbered_local l.types) l.param-index l.params ≡ map (numbered_local l.types) (map param_of l.initial.params)
