use Rattle.std.proofs.Common.{◌-◌, ◌+◌, ◌≤◌, length}
use Rattle.wast_tokens.specs.Along.{Along}
use Rattle.wast_tokens.specs.Strings.{IsCharacter}
use Rattle.wast_tokens.proofs.strings.string_end.Given as goal

abbrev pub invariant-loop-k : goal.invariant-loop-k
invariant-loop-k l = record {
  from : l.at + 1 ≤ l.k;
  within : l.k ≤ length l.text;
  characters : Along (IsCharacter l.text) (l.at + 1) l.k;
}

abbrev pub decreases-loop-k : goal.decreases-loop-k
decreases-loop-k l = length l.text - l.k
