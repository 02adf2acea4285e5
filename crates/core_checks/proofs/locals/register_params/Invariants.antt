use Rattle.std.proofs.Common.{◌≡◌, ◌+◌, ◌++◌, length, drop, map}
use Rattle.core_model.specs.Types.{ids_of}
use Rattle.core_model.specs.Rule.{first_broken}
use Rattle.core_syntax.specs.Fields.{param_of}
use Rattle.core_checks.specs.Parts.{broken_behind}
use Rattle.core_checks.proofs.locals.register_params.Given as goal

-- what is left completes the ids and decides
abbrev pub invariant-loop-param : goal.invariant-loop-param
invariant-loop-param l = record {
  added : l.names ++ ids_of (map param_of (drop l.param-index l.params)) ≡ l.initial.names ++ ids_of (map param_of l.params);
  count : length l.names ≡ length l.initial.names + l.param-index;
  left : first_broken (broken_behind l.types l.names (map param_of (drop l.param-index l.params))) ≡ first_broken (broken_behind l.types l.initial.names (map param_of l.params));
}
