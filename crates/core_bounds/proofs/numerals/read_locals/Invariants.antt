use Rattle.std.proofs.Common.{map, drop}
use Rattle.core_model.specs.Words.{LocalsWord}
use Rattle.core_syntax.specs.Fields.{local_of}
use Rattle.core_bounds.proofs.numerals.read_locals.Given as goal

-- where those that are left are words, all are
abbrev pub invariant-loop-local : goal.invariant-loop-local
invariant-loop-local l = LocalsWord (map local_of (drop l.local-index l.locals)) → LocalsWord (map local_of l.locals)
