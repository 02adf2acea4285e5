use Rattle.std.proofs.Common.{map, drop}
use Rattle.core_model.specs.Words.{LocalsWord}
use Rattle.core_syntax.specs.Fields.{param_of}
use Rattle.core_bounds.proofs.numerals.read_params.Given as goal

-- where those that are left are words, all are
abbrev pub invariant-loop-param : goal.invariant-loop-param
invariant-loop-param l = LocalsWord (map param_of (drop l.param-index l.params)) → LocalsWord (map param_of l.params)
