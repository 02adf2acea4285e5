use Rattle.std.proofs.Common.{◌≡◌, ◌+◌, ◌++◌, [], true, drop, map, length}
use Rattle.comp_model.specs.Payloads.{joined}
use Rattle.core_model.specs.Bytes.{has_bytes, value, run_bytes, runs}
use Rattle.core_syntax.specs.Fields.{value_of, local_of}
use Rattle.core_write.specs.Runs.{runs_behind}
use Rattle.core_write.specs.Written.{values_of}
use Rattle.core_write.specs.Fits.{FitsRuns}
use Rattle.core_write.proofs.code.push_runs.Given as goal

-- the open run and what is left complete the runs
abbrev pub invariant-loop-local : goal.invariant-loop-local
invariant-loop-local l = record {
  appended : l.out.items ++ joined (map run_bytes (runs_behind l.count (value [] (value_of l.ty)) (values_of (map local_of (drop l.local-index l.locals))))) ≡ l.initial.out.items ++ joined (map run_bytes (runs (values_of (map local_of l.locals))));
  number : l.written + length (runs_behind l.count (value [] (value_of l.ty)) (values_of (map local_of (drop l.local-index l.locals)))) ≡ length (runs (values_of (map local_of l.locals)));
  fits : FitsRuns (runs_behind l.count (value [] (value_of l.ty)) (values_of (map local_of (drop l.local-index l.locals))));
  typed : has_bytes (value [] (value_of l.ty)) ≡ true;
}
