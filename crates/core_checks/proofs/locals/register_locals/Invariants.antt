use Rattle.std.proofs.Common.{◌≡◌, ◌+◌, ◌++◌, length, drop, map}
use Rattle.core_model.specs.Types.{ids_of}
use Rattle.core_model.specs.Rule.{first_broken}
use Rattle.core_syntax.specs.Fields.{local_of}
use Rattle.core_checks.specs.Parts.{broken_behind}
use Rattle.core_checks.proofs.locals.register_locals.Given as goal

-- what is left completes the ids and decides
abbrev pub invariant-loop-local : goal.invariant-loop-local
invariant-loop-local l = record {
  added : l.names ++ ids_of (map local_of (drop l.local-index l.locals)) ≡ l.initial.names ++ ids_of (map local_of l.locals);
  count : length l.names ≡ length l.initial.names + l.local-index;
  left : first_broken (broken_behind l.types l.names (map local_of (drop l.local-index l.locals))) ≡ first_broken (broken_behind l.types l.initial.names (map local_of l.locals));
}
