use Rattle.std.proofs.Common.{[], ◌∷◌, ◌∙◌, map, sym, refl, ap, subst, arith}
use Rattle.comp_wire.specs.Table as table
use Rattle.byte_table.specs.Lines.{field_of, part_of, family_of, piece_of}
use Rattle.wire_read.specs.Place.{rest}
use Rattle.wire_read.specs.Flat.{is_flat_field, FlatPieces}
use Rattle.wire_read.specs.Pieces.{PiecesRead, PiecesRefused}
use Rattle.wire_read.specs.Stops.{stop_of}
use Rattle.wire_read.proofs.Ranks.{placed_ranked}
use Rattle.wire_read.proofs.Flat.{flat_closed, flat_there, flat_leaf, line_pieces_flat}
use Rattle.wire_read.proofs.NodeParts.{each_refused, plain_within}
use Rattle.wire_read.proofs.NodeReads.{plain_left, each_read, inner_read, optional_read, result_read, one_read, no_row, no_lead, pieces_refused, node_read}
use Rattle.wire_read.proofs.PieceReads.{leaf_read, leaf_refused, leaf_readable}
use Rattle.wire_read.proofs.PieceLoops.{all_left, piece_read, piece_refused, none_left, piece_falls}
use Rattle.wire_read.proofs.RowLoops.{SoFar, none_yet, one_more, row_refused, all_read}
use Rattle.wire_read.proofs.WrittenOut.{no_export_byte, no_export_name, no_description, export_read}
use Rattle.wire_read.proofs.nodes.+reading.Goals as goal

pub read_list-returns-in-Err : goal.read_list-returns-in-Err
read_list-returns-in-Err t c = λ left k. each_refused (family_of c.args.family) left c.in-Some.count _ _ (stop_of c.in-Err.fault) c.in-Some.ensures (c.in-Err.ensures left k)

pub read_list-returns-in-Ok : goal.read_list-returns-in-Ok
read_list-returns-in-Ok t c = λ left k. each_read (family_of c.args.family) left c.in-Some.count _ _ _ c.in-Ok.rows c.in-Some.ensures (c.in-Ok.ensures left k)

pub read_leaf-returns-in-Some : goal.read_leaf-returns-in-Some
read_leaf-returns-in-Some t c = λ left k.
    let p = plain_left c.args.field.now k c.in_default.not-Optional c.in_default.not-Result c.in_default.not-One c.in_default.not-Each in
    let r = c.in-Some.ensures p in
    (r.0, plain_within _ (field_of c.args.field.now) left p r.0, r.1)

pub read_node-returns-in-None : goal.read_node-returns-in-None
read_node-returns-in-None t c = λ left k. no_row (family_of c.args.family) left _ c.in-None.ensures

pub read_node-returns-in-Some : goal.read_node-returns-in-Some
read_node-returns-in-Some t c = λ left k. c.read_line.ensures left (flat_there (family_of c.args.family) c.in-Some.row (rest c.args.input.now) k c.in-Some.ensures)

pub read_by_line-returns-then-not-read_lead : goal.read_by_line-returns-then-not-read_lead
read_by_line-returns-then-not-read_lead t c = λ left k.
    no_lead (family_of c.args.family) left c.args.row c.pieces_in-placed.result.lead (map piece_of c.pieces_in-placed.result.pieces.now) _ k.2 c.pieces_in-placed.ensures (c.read_lead.ensures.1 c.if-not-read_lead.true)

pub read_by_line-returns-in-Err : goal.read_by_line-returns-in-Err
read_by_line-returns-in-Err t c = λ left k.
    let f = family_of c.args.family in
    let ps = map piece_of c.pieces_in-placed.result.pieces.now in
    let lead = c.pieces_in-placed.result.lead in
    let u = c.args.row in
    pieces_refused f left u lead ps _ _ (stop_of c.in-Err.fault) k.2 c.pieces_in-placed.ensures (c.read_lead.ensures.0 c.if-not-read_lead.false) (c.in-Err.ensures left (line_pieces_flat f u lead ps _ k c.pieces_in-placed.ensures))

pub read_by_line-returns-in-Ok-place : goal.read_by_line-returns-in-Ok-place
read_by_line-returns-in-Ok-place t c = λ left k.
    let f = family_of c.args.family in
    let ps = map piece_of c.pieces_in-placed.result.pieces.now in
    let lead = c.pieces_in-placed.result.lead in
    let u = c.args.row in
    let flat = line_pieces_flat f u lead ps _ k c.pieces_in-placed.ensures in
    node_read f left c.args.row lead ps _ _ _ c.read_pieces.new.slots c.in-Ok-place.leaves k.0 k.2 c.pieces_in-placed.ensures (c.read_lead.ensures.0 c.if-not-read_lead.false)
    (subst (λ s. PiecesRead ps left s c.read_lead.new.input c.read_pieces.new.input c.read_pieces.new.slots) c.new-slots.ensures (c.in-Ok.ensures left flat)) c.in-Ok-place.ensures

pub read_one-returns-in-Ok-place : goal.read_one-returns-in-Ok-place
read_one-returns-in-Ok-place t c = λ left k. one_read (family_of c.args.family) left _ _ c.in-Ok.node c.in-Ok-place.placed c.in-Ok-place.ensures (c.in-Ok.ensures left k)

pub read_piece-returns-in-Err : goal.read_piece-returns-in-Err
read_piece-returns-in-Err t c =
    let f = field_of c.in-Leaf.field in
    subst (λ p. (left : _) → FlatPieces (piece_of p ∷ []) → PiecesRefused (piece_of p ∷ []) left (rest c.args.input.now) (stop_of c.in-Err.fault)) (sym c.in-Leaf.is)
    (λ left k. leaf_refused c.in-Leaf.at f left _ (stop_of c.in-Err.fault) (c.in-Err.ensures left (flat_leaf c.in-Leaf.at f k)))

pub read_piece-returns-in-Ok : goal.read_piece-returns-in-Ok
read_piece-returns-in-Ok t c =
    let f = field_of c.in-Leaf.field in
    subst (λ p. (left : _) → FlatPieces (piece_of p ∷ []) → PiecesRead (piece_of p ∷ []) left c.args.slots.now c.args.input.now c.read_leaf.new.input c.put.new.self) (sym c.in-Leaf.is)
    (λ left k.
    let ok = leaf_readable c.in-Leaf.at f k.0 in
    let r = c.in-Ok.ensures left (flat_leaf c.in-Leaf.at f k) in
    subst (PiecesRead (table.leaf c.in-Leaf.at f ∷ []) left c.args.slots.now c.args.input.now c.read_leaf.new.input) (sym c.put.ensures) (leaf_read c.in-Leaf.at f left c.args.slots.now c.in-Ok.leaf _ _ ok.1 r.0 r.1 r.2))

pub read_pieces-loop-piece-init : goal.read_pieces-loop-piece-init
read_pieces-loop-piece-init t c = λ left k. all_left (map piece_of c.args.pieces.now) left c.args.slots.now c.args.input.now k

pub read_pieces-loop-piece-preserved : goal.read_pieces-loop-piece-preserved
read_pieces-loop-piece-preserved t c = λ left k.
    piece_read (map piece_of c.args.pieces.now) c.args.pieces.now c.loop-piece.piece-index left _ _ _ _ _ c.read_piece.new.slots c.read_piece.new.input c.loop-piece-test.true (c.loop-piece.invariant left k) (c.in-Ok.ensures left)

pub read_pieces-returns-in-Err : goal.read_pieces-returns-in-Err
read_pieces-returns-in-Err t c = λ left k.
    piece_refused (map piece_of c.args.pieces.now) c.args.pieces.now c.loop-piece.piece-index left _ _ _ _ _ (stop_of c.in-Err.fault) c.loop-piece-test.true (c.loop-piece.invariant left k) (c.in-Err.ensures left)

pub read_pieces-returns : goal.read_pieces-returns
read_pieces-returns t c = λ left k.
    none_left (map piece_of c.args.pieces.now) c.args.pieces.now c.loop-piece.piece-index left _ _ _ _ (omega (arith, c.loop-piece-test.false)) (c.loop-piece.invariant left k)

pub read_rows-loop-init : goal.read_rows-loop-init
read_rows-loop-init t c = λ left k. subst (SoFar (family_of c.args.family) left c.args.count 0 c.args.input.now c.args.input.now) (sym c.new-rows.ensures.items) (none_yet (family_of c.args.family) left c.args.count c.args.input.now)

pub read_rows-loop-preserved : goal.read_rows-loop-preserved
read_rows-loop-preserved t c = λ left k.
    one_more (family_of c.args.family) left c.args.count c.loop.counter _ _ _ c.loop.rows.items _ c.in-Ok.node (flat_closed (family_of c.args.family) k) c.loop-test.true c.in-Ok-push.ensures.items (c.loop.invariant left k) (c.in-Ok.ensures left k)

pub read_rows-returns-in-Err : goal.read_rows-returns-in-Err
read_rows-returns-in-Err t c = λ left k. row_refused (family_of c.args.family) left c.args.count c.loop.counter _ _ c.loop.rows.items (stop_of c.in-Err.fault) c.loop-test.true (c.loop.invariant left k) (c.in-Err.ensures left k)

pub read_rows-returns : goal.read_rows-returns
read_rows-returns t c = λ left k.
    all_read (family_of c.args.family) left c.args.count c.loop.counter _ _ c.loop.rows.items c.in-Ok-place_all.placed.now (omega (arith, c.loop-test.false, c.loop.auto.counter-end)) (c.in-Ok-place_all.ensures ∙ c.as_slice.ensures.value) (c.loop.invariant left k)

pub read_export_type-returns-then-not-expect : goal.read_export_type-returns-then-not-expect
read_export_type-returns-then-not-expect t c = λ left k. no_export_byte (family_of c.args.family) left c.args.input.now k (c.expect.ensures.1 c.if-not-expect.true)

pub read_export_type-returns-in-None : goal.read_export_type-returns-in-None
read_export_type-returns-in-None t c = λ left k. no_export_name (family_of c.args.family) left c.args.input.now k _ (c.expect.ensures.0 c.if-not-expect.false) c.in-None.ensures

pub read_export_type-returns-in-Err : goal.read_export_type-returns-in-Err
read_export_type-returns-in-Err t c = λ left k. no_description (family_of c.args.family) left c.args.input.now k _ (c.expect.ensures.0 c.if-not-expect.false) c.in-Some.name _ c.in-Some.ensures (stop_of c.in-Err.fault) (c.in-Err.ensures left refl)

pub read_export_type-returns-in-Ok-place_all : goal.read_export_type-returns-in-Ok-place_all
read_export_type-returns-in-Ok-place_all t c = λ left k.
    export_read (family_of c.args.family) left c.args.input.now k _ (c.expect.ensures.0 c.if-not-expect.false) c.in-Some.name _ c.in-Some.ensures c.in-Ok.description _ c.in-Ok-place_all.leaves (c.in-Ok.ensures left refl) c.in-Ok-place_all.ensures

pub read_inner-returns-in-Ok-place : goal.read_inner-returns-in-Ok-place
read_inner-returns-in-Ok-place t c = λ left k.
    inner_read (field_of c.part_field.result) (part_of c.args.part) left _ _ c.in-Ok.leaf c.in-Ok-place.placed c.part_field.ensures c.in-Ok-place.ensures (c.in-Ok.ensures left (ap is_flat_field c.part_field.ensures ∙ k))

pub read_optional-returns-in-Ok : goal.read_optional-returns-in-Ok
read_optional-returns-in-Ok t c = λ left k. optional_read (part_of c.args.part) left c.in-Some.byte _ _ _ c.in-Ok.inner c.if-byte-eq1.true c.in-Some.ensures (c.in-Ok.ensures left k)

pub read_result-returns-in-Ok : goal.read_result-returns-in-Ok
read_result-returns-in-Ok t c = λ left k. result_read (part_of c.args.part) left c.in-Some.byte _ _ _ c.in-Ok.inner c.if-byte-eq0.true c.in-Some.ensures (c.in-Ok.ensures left k)

pub read_by_line-read_pieces-requires : goal.read_by_line-read_pieces-requires
read_by_line-read_pieces-requires t c =
    let ps = c.pieces_in-placed.result.pieces.now in
    let r = placed_ranked (family_of c.args.family) c.args.row c.pieces_in-placed.result.lead (map piece_of ps) c.pieces_in-placed.ensures in
    (omega (arith, c.decreases, r.0), tt)

pub read_pieces-read_piece-requires : goal.read_pieces-read_piece-requires
read_pieces-read_piece-requires t c = (piece_falls _ _ _ _ c.loop-piece-test.true c.decreases, tt)
