use Rattle.std.proofs.Common.{◌≡◌, ◌+◌, ◌<◌, ◌^◌, drop, length}
use Rattle.comp_walks.specs.Lent.{joined}
use Rattle.comp_walks.specs.Weigh.{capped}
use Rattle.comp_walks.proofs.weighing.Total.add_pieces.Given as goal

abbrev pub invariant-loop-piece : goal.invariant-loop-piece
invariant-loop-piece l = (l.self < 2 ^ 64) × (capped (l.self + length (joined (drop l.piece-index l.pieces))) ≡ capped (l.initial.self + length (joined l.pieces)))
