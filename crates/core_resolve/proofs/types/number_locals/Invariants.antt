use Rattle.std.proofs.Common.{◌≡◌, map}
use Rattle.core_model.specs.Resolved.{numbered_local}
use Rattle.core_syntax.specs.Fields.{local_of}
use Rattle.core_resolve.proofs.Changed.{changed_from}
use Rattle.core_resolve.proofs.types.number_locals.Given as goal

-- what is left completes the change
abbrev pub invariant-loop-local : goal.invariant-loop-local
invariant-loop-local l = changed_from local_of (numbered_local l.types) l.local-index l.locals ≡ map (numbered_local l.types) (map local_of l.initial.locals)
