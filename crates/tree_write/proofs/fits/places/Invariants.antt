use Rattle.std.proofs.Common.{◌≡◌, drop, map, max}
use Rattle.byte_table.specs.Lines.{piece_of}
use Rattle.tree_write.specs.Measured.{places_of}
use Rattle.tree_write.proofs.fits.places.Given as goal

-- the places so far and those of the pieces from here on
abbrev pub invariant-loop-piece : goal.invariant-loop-piece
invariant-loop-piece l = max l.most (places_of (map piece_of (drop l.piece-index l.pieces))) ≡ places_of (map piece_of l.pieces)
