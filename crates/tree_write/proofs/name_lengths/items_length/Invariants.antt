use Rattle.std.proofs.Common.{◌≡◌, ◌+◌, ◌*◌, ◌-◌, ◌^◌, length, min}
use Rattle.comp_model.specs.Leb.{uleb}
use Rattle.tree_write.specs.CountedItems.{items_in}
use Rattle.tree_write.proofs.name_lengths.items_length.Given as goal

-- the bytes so far and those of what is left
abbrev pub invariant-loop-high : goal.invariant-loop-high
invariant-loop-high l = min (l.bytes + length (uleb (l.high * 2 ^ 64 + l.low))) (2 ^ 64 - 1) ≡ min (length (uleb (items_in l.fn.items))) (2 ^ 64 - 1)

abbrev pub decreases-loop-high : goal.decreases-loop-high
decreases-loop-high l = l.high
