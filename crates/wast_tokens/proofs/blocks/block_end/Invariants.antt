use Rattle.std.proofs.Common.{◌-◌, ◌≤◌, ◌↔◌, ℕ, length}
use Rattle.wast_tokens.specs.Blocks.{IsBlock}
use Rattle.wast_tokens.proofs.Depth.{Ends}
use Rattle.wast_tokens.proofs.blocks.block_end.Given as goal

abbrev pub invariant-loop-k : goal.invariant-loop-k
invariant-loop-k l = record {
  bound : l.k ≤ length l.text;
  deep : l.more ≤ l.k;
  same : (c : ℕ) → IsBlock l.text l.at c ↔ Ends l.text l.k l.more c;
}

abbrev pub decreases-loop-k : goal.decreases-loop-k
decreases-loop-k l = length l.text - l.k
