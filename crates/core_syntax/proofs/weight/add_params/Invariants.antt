use Rattle.std.proofs.Common.{◌≡◌, ◌+◌, ◌<◌, ◌^◌, drop, map}
use Rattle.comp_model.specs.Weight.{weight_of_all}
use Rattle.core_model.specs.Weight.{weight_of_local}
use Rattle.core_syntax.specs.Fields.{param_of}
use Rattle.core_syntax.specs.Measures.{capped}
use Rattle.core_syntax.proofs.weight.add_params.Given as goal

-- with what is left it is the whole
abbrev pub invariant-loop-param : goal.invariant-loop-param
invariant-loop-param l = record {
  sum : capped (l.total + weight_of_all weight_of_local (map param_of (drop l.param-index l.params))) ≡ capped (l.start + weight_of_all weight_of_local (map param_of l.params));
  within : l.total < 2 ^ 64;
}
