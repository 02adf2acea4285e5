use Rattle.std.proofs.Common.{◌-◌, ◌≤◌, length}
use Rattle.wast_tokens.specs.Along.{Along}
use Rattle.wast_tokens.specs.Runs.{IsPart}
use Rattle.wast_tokens.proofs.runs.run_end.Given as goal

abbrev pub invariant-loop-end : goal.invariant-loop-end
invariant-loop-end l = record {
  from : l.from ≤ l.end;
  within : l.end ≤ length l.text;
  parts : Along (IsPart l.text) l.from l.end;
}

abbrev pub decreases-loop-end : goal.decreases-loop-end
decreases-loop-end l = length l.text - l.end
