use Rattle.std.proofs.Common.{◌≡◌, drop, map}
use Rattle.std.specs.List.{list_all}
use Rattle.core_model.specs.IsResolved.{value_resolved}
use Rattle.core_syntax.specs.Fields.{local_of}
use Rattle.core_syntax.proofs.resolved.are_locals_resolved.Given as goal

-- what is left decides
abbrev pub invariant-loop-local : goal.invariant-loop-local
invariant-loop-local l = list_all (λ p. value_resolved p.value) (map local_of (drop l.local-index l.locals)) ≡ list_all (λ p. value_resolved p.value) (map local_of l.locals)
