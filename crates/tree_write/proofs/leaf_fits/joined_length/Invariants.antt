use Rattle.std.proofs.Common.{◌≡◌, ◌+◌, ◌-◌, ◌^◌, ◌<◌, drop, length, min}
use Rattle.comp_tree.specs.Model.{joined}
use Rattle.tree_write.proofs.leaf_fits.joined_length.Given as goal

-- the pieces so far and those from here on
abbrev pub invariant-loop-piece : goal.invariant-loop-piece
invariant-loop-piece l = (min (l.size + length (joined (drop l.piece-index l.pieces))) (2 ^ 64 - 1) ≡ min (length (joined l.pieces)) (2 ^ 64 - 1)) × (l.size < 2 ^ 64)
