use Rattle.std.proofs.Common.{map, drop}
use Rattle.core_model.specs.Words.{ValuesWord}
use Rattle.core_syntax.specs.Fields.{value_of}
use Rattle.core_bounds.proofs.numerals.read_results.Given as goal

-- where those that are left are words, all are
abbrev pub invariant-loop-ty : goal.invariant-loop-ty
invariant-loop-ty l = ValuesWord (map value_of (drop l.ty-index l.results)) → ValuesWord (map value_of l.results)
