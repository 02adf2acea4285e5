use Rattle.std.proofs.Common.{◌<◌, ◌≤◌, ◌-◌, ℕ, length}
use Rattle.comp_list.specs.Spots.{ends_before, end_of}
use Rattle.comp_list.proofs.spots.count_before.Given as goal

abbrev pub invariant-loop-low : goal.invariant-loop-low
invariant-loop-low l =
    (l.low ≤ l.high) × (l.high ≤ length l.chain)
    × ((k : ℕ) → k < l.low → ends_before l.chain l.index k)
    × ((k : ℕ) → l.high ≤ k → k < length l.chain → l.index < end_of l.chain k)

abbrev pub decreases-loop-low : goal.decreases-loop-low
decreases-loop-low l = l.high - l.low
