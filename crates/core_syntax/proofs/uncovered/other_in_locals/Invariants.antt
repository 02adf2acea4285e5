use Rattle.std.proofs.Common.{◌≡◌, drop, map}
use Rattle.std.specs.List.{list_any}
use Rattle.core_model.specs.Uncovered.{is_other_value}
use Rattle.core_syntax.specs.Fields.{local_of}
use Rattle.core_syntax.proofs.uncovered.other_in_locals.Given as goal

-- what is left decides
abbrev pub invariant-loop-local : goal.invariant-loop-local
invariant-loop-local l = list_any (λ p. is_other_value p.value) (map local_of (drop l.local-index l.locals)) ≡ list_any (λ p. is_other_value p.value) (map local_of l.locals)
