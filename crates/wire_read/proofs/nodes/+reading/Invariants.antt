use Rattle.std.proofs.Common.{◌≡◌, true, ◌+◌, ◌*◌, ℕ, drop, map}
use Rattle.byte_table.specs.Lines.{field_of, part_of, family_of, piece_of}
use Rattle.wire_read.specs.Flat.{is_flat, FlatPieces}
use Rattle.wire_read.proofs.PieceLoops.{PiecesLeft}
use Rattle.wire_read.proofs.RowLoops.{SoFar}
use Rattle.wire_read.proofs.Ranks.{rank, family_rank, piece_rank, pieces_rank}
use Rattle.wire_read.proofs.nodes.+reading.Given as goal

abbrev pub decreases-read_leaf : goal.decreases-read_leaf
decreases-read_leaf l = rank (field_of l.field.now) * 32 + 4

abbrev pub decreases-read_inner : goal.decreases-read_inner
decreases-read_inner l = rank (part_of l.part) * 32 + 5

abbrev pub decreases-read_optional : goal.decreases-read_optional
decreases-read_optional l = (rank (part_of l.part) + 1) * 32 + 3

abbrev pub decreases-read_result : goal.decreases-read_result
decreases-read_result l = (rank (part_of l.part) + 1) * 32 + 3

abbrev pub decreases-read_one : goal.decreases-read_one
decreases-read_one l = (family_rank (family_of l.family) + 1) * 32 + 3

abbrev pub decreases-read_each : goal.decreases-read_each
decreases-read_each l = (family_rank (family_of l.family) + 1) * 32 + 3

abbrev pub decreases-read_list : goal.decreases-read_list
decreases-read_list l = (family_rank (family_of l.family) + 1) * 32 + 2

abbrev pub decreases-read_rows : goal.decreases-read_rows
decreases-read_rows l = family_rank (family_of l.family) * 32 + 31

abbrev pub decreases-read_node : goal.decreases-read_node
decreases-read_node l = family_rank (family_of l.family) * 32 + 30

abbrev pub decreases-read_line : goal.decreases-read_line
decreases-read_line l = family_rank (family_of l.family) * 32 + 29

abbrev pub decreases-read_export_type : goal.decreases-read_export_type
decreases-read_export_type l = 48

abbrev pub decreases-read_by_line : goal.decreases-read_by_line
decreases-read_by_line l = family_rank (family_of l.family) * 32 + 28

abbrev pub decreases-read_pieces : goal.decreases-read_pieces
decreases-read_pieces l = pieces_rank (map piece_of l.pieces.now) * 32 + 10

abbrev pub decreases-read_piece : goal.decreases-read_piece
decreases-read_piece l = piece_rank (piece_of l.piece.now) * 32 + 6

abbrev pub invariant-read_pieces-loop-piece : goal.invariant-read_pieces-loop-piece
invariant-read_pieces-loop-piece l =
    (left : ℕ) → FlatPieces (map piece_of l.pieces) → PiecesLeft (map piece_of l.pieces) (map piece_of (drop l.piece-index l.pieces)) left l.initial.slots l.initial.input l.input l.slots

abbrev pub invariant-read_rows-loop : goal.invariant-read_rows-loop
invariant-read_rows-loop l = (left : ℕ) → is_flat (family_of l.fn.family) ≡ true → SoFar (family_of l.fn.family) left l.count l.counter l.initial.input l.input l.rows.items
