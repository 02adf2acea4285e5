use Rattle.std.proofs.Common.{◌≡◌, ◌++◌, drop}
use Rattle.comp_tree.specs.Model.{joined}
use Rattle.wast_component.proofs.bytes.joined_bytes.Given as goal

-- what is left completes the bytes
abbrev pub invariant-loop-piece : goal.invariant-loop-piece
invariant-loop-piece l = l.bytes.items ++ joined (drop l.piece-index l.pieces) ≡ joined l.pieces
