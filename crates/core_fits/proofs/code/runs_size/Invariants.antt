use Rattle.std.proofs.Common.{◌≡◌, ◌≤◌, [], true, drop, map}
use Rattle.core_model.specs.Bytes.{has_bytes, value, runs}
use Rattle.core_syntax.specs.Fields.{value_of, local_of}
use Rattle.core_write.specs.Runs.{runs_behind}
use Rattle.core_write.specs.Written.{values_of}
use Rattle.core_fits.proofs.CodeSized.{RunsSoFar}
use Rattle.core_fits.proofs.code.runs_size.Given as goal

-- the open run and what is left complete the runs
abbrev pub invariant-loop-local : goal.invariant-loop-local
invariant-loop-local l = record {
  size : RunsSoFar l.size (runs_behind l.count (value [] (value_of l.ty)) (values_of (map local_of (drop l.local-index l.locals)))) (runs (values_of (map local_of l.locals)));
  typed : has_bytes (value [] (value_of l.ty)) ≡ true;
  below : l.count ≤ l.local-index;
}
