use Rattle.std.proofs.Common.{◌≡◌, ◌-◌, ◌++◌, ◌≤◌, drop, length}
use Rattle.wast_tokens.specs.Strings.{decoded}
use Rattle.wast_tokens.proofs.strings.push_decoded.Given as goal

abbrev pub invariant-loop-at : goal.invariant-loop-at
invariant-loop-at l = record {
  within : l.at ≤ length l.inside;
  front : l.fn.bytes.items ++ decoded l.inside ≡ l.bytes.items ++ decoded (drop l.at l.inside);
}

abbrev pub decreases-loop-at : goal.decreases-loop-at
decreases-loop-at l = length l.inside - l.at
