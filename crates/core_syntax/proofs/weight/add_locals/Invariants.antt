use Rattle.std.proofs.Common.{◌≡◌, ◌+◌, ◌<◌, ◌^◌, drop, map}
use Rattle.comp_model.specs.Weight.{weight_of_all}
use Rattle.core_model.specs.Weight.{weight_of_local}
use Rattle.core_syntax.specs.Fields.{local_of}
use Rattle.core_syntax.specs.Measures.{capped}
use Rattle.core_syntax.proofs.weight.add_locals.Given as goal

-- with what is left it is the whole
abbrev pub invariant-loop-local : goal.invariant-loop-local
invariant-loop-local l = record {
  sum : capped (l.total + weight_of_all weight_of_local (map local_of (drop l.local-index l.locals))) ≡ capped (l.start + weight_of_all weight_of_local (map local_of l.locals));
  within : l.total < 2 ^ 64;
}
