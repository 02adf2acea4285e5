use Rattle.std.proofs.Common.{map, refl, sym, ◌∙◌, ap}
use Rattle.comp_model.specs.Model.{no_def}
use Rattle.comp_scopes.specs.Resolved.{binary_of_defs}
use Rattle.comp_wire.specs.Fits.{pieces_fit, leaf_tests, node_fits, nodes_fit, declarations_fit}
use Rattle.comp_wire.specs.Spelled.{declarations_of}
use Rattle.comp_tree.specs.Lists.{defs_listed}
use Rattle.comp_tree.specs.declared.tree.Def.{Def}
use Rattle.comp_tree.specs.declared.tree.Node.{Node}
use Rattle.byte_table.specs.Lines.{field_of, family_of, piece_of, type_kind}
use Rattle.byte_table.specs.declared.line.Piece.{Piece}
use Rattle.tree_write.specs.Measured.{piece_fits}
use Rattle.tree_write.specs.Wire.{the_encoding, wire_leaves, wire_node, wire_nodes}
use Rattle.tree_write.proofs.Scopes.{wire_whole, wire_one, wire_each}
use Rattle.tree_write.proofs.Tests.{goes_on, goes_on_at, ends, ends_at, all_hold, pieces_one, test_in, test_behind, no_kind, kind_of_outer, no_line, other_count, same_count, many_nodes, part_of_nodes, declarations_one, other_kind, too_many, few_enough}
use Rattle.tree_write.proofs.fits.+fitting.Goals as goal

pub leaf_fits_at-returns-then-at-leaves : goal.leaf_fits_at-returns-then-at-leaves
leaf_fits_at-returns-then-at-leaves g t c =
    c.leaf_fits.ensures ∙ sym (test_in (map g.M.CoreBytes.core_module c.args.modules.now) c.args.leaves.now c.args.at (field_of c.args.field.now) c.index-leaves-at.result c.if-at-leaves.true c.index-leaves-at.is)

pub leaf_fits_at-returns-else-at-leaves : goal.leaf_fits_at-returns-else-at-leaves
leaf_fits_at-returns-else-at-leaves g t c = sym (test_behind (map g.M.CoreBytes.core_module c.args.modules.now) c.args.leaves.now c.args.at (field_of c.args.field.now) c.if-at-leaves.false)

pub outer_fits-returns-in-Some : goal.outer_fits-returns-in-Some
outer_fits-returns-in-Some g t c = kind_of_outer (map g.M.CoreBytes.core_module c.args.modules.now) c.args.leaves.now c.args.at c.in-Some.space _ _ (sym c.kind_at.ensures ∙ c.in-Some.is) c.leaf_fits_at.ensures c.leaf_fits_at-in-Some.ensures

pub outer_fits-returns-in-None : goal.outer_fits-returns-in-None
outer_fits-returns-in-None g t c = no_kind (map g.M.CoreBytes.core_module c.args.modules.now) c.args.leaves.now c.args.at (sym c.kind_at.ensures ∙ c.in-None.is)

pub pieces_fit-loop-piece-preserved : goal.pieces_fit-loop-piece-preserved
pieces_fit-loop-piece-preserved g t c =
    let gs = leaf_tests (wire_leaves (map g.M.CoreBytes.core_module c.args.modules.now) c.args.leaves.now) in
    goes_on_at (λ ps. pieces_fit (map piece_of ps) gs) (λ (p : Piece). piece_fits (piece_of p) gs) refl (λ x xs. pieces_one gs (piece_of x) (map piece_of xs)) c.args.pieces.now c.loop-piece.piece-index _ c.piece_fits.result c.loop-piece-test.true c.piece_fits.ensures c.if-not-piece_fits.false c.loop-piece.invariant

pub pieces_fit-returns-then-not-piece_fits : goal.pieces_fit-returns-then-not-piece_fits
pieces_fit-returns-then-not-piece_fits g t c =
    let gs = leaf_tests (wire_leaves (map g.M.CoreBytes.core_module c.args.modules.now) c.args.leaves.now) in
    ends_at (λ ps. pieces_fit (map piece_of ps) gs) (λ (p : Piece). piece_fits (piece_of p) gs) refl (λ x xs. pieces_one gs (piece_of x) (map piece_of xs)) c.args.pieces.now c.loop-piece.piece-index _ c.piece_fits.result c.loop-piece-test.true c.piece_fits.ensures c.if-not-piece_fits.true c.loop-piece.invariant

pub node_fits-returns-then-not-has_line : goal.node_fits-returns-then-not-has_line
node_fits-returns-then-not-has_line g t c =
    no_line (map g.M.CoreBytes.core_module c.args.modules.now) c.args.node.now.row (family_of c.args.family) c.args.node.now.leaves.now c.pieces_in-placed.result.lead (map piece_of c.pieces_in-placed.result.pieces.now) c.has_line.result
    c.pieces_in-placed.ensures c.has_line.ensures c.if-not-has_line.true

pub node_fits-returns-then-not-has_places : goal.node_fits-returns-then-not-has_places
node_fits-returns-then-not-has_places g t c =
    other_count (map g.M.CoreBytes.core_module c.args.modules.now) c.args.node.now.row (family_of c.args.family) c.args.node.now.leaves.now c.pieces_in-placed.result.lead (map piece_of c.pieces_in-placed.result.pieces.now) c.has_places.result
    c.pieces_in-placed.ensures c.has_places.ensures c.if-not-has_places.true

pub node_fits-returns : goal.node_fits-returns
node_fits-returns g t c =
    c.pieces_fit.ensures
    ∙ same_count (map g.M.CoreBytes.core_module c.args.modules.now) c.args.node.now.row (family_of c.args.family) c.args.node.now.leaves.now c.pieces_in-placed.result.lead (map piece_of c.pieces_in-placed.result.pieces.now) c.has_line.result
    c.pieces_in-placed.ensures c.has_line.ensures c.if-not-has_line.false c.has_places.result c.has_places.ensures c.if-not-has_places.false

pub nodes_fit-returns-then-not-is_word : goal.nodes_fit-returns-then-not-is_word
nodes_fit-returns-then-not-is_word g t c = many_nodes (map g.M.CoreBytes.core_module c.args.modules.now) c.args.nodes.now (family_of c.args.family) _ c.is_word.ensures c.if-not-is_word.true

pub nodes_fit-loop-node-preserved : goal.nodes_fit-loop-node-preserved
nodes_fit-loop-node-preserved g t c =
    let cores = map g.M.CoreBytes.core_module c.args.modules.now in
    let f = family_of c.args.family in
    goes_on_at (λ ns. nodes_fit (wire_nodes cores ns) f) (λ (n : Node). node_fits (wire_node cores n) f) refl (λ x xs. refl) c.args.nodes.now c.loop-node.node-index _ c.node_fits.result c.loop-node-test.true c.node_fits.ensures
    c.if-not-node_fits.false c.loop-node.invariant

pub nodes_fit-returns-then-not-node_fits : goal.nodes_fit-returns-then-not-node_fits
nodes_fit-returns-then-not-node_fits g t c =
    let cores = map g.M.CoreBytes.core_module c.args.modules.now in
    let f = family_of c.args.family in
    part_of_nodes cores c.args.nodes.now f _ _ c.is_word.ensures c.if-not-is_word.false
    (ends_at (λ ns. nodes_fit (wire_nodes cores ns) f) (λ (n : Node). node_fits (wire_node cores n) f) refl (λ x xs. refl) c.args.nodes.now c.loop-node.node-index _ c.node_fits.result c.loop-node-test.true c.node_fits.ensures
    c.if-not-node_fits.true c.loop-node.invariant)

pub nodes_fit-returns : goal.nodes_fit-returns
nodes_fit-returns g t c =
    let cores = map g.M.CoreBytes.core_module c.args.modules.now in
    let f = family_of c.args.family in
    part_of_nodes cores c.args.nodes.now f _ _ c.is_word.ensures c.if-not-is_word.false
    (all_hold (λ ns. nodes_fit (wire_nodes cores ns) f) (λ (n : Node). node_fits (wire_node cores n) f) refl (λ x xs. refl) c.args.nodes.now c.loop-node.node-index c.loop-node-test.false c.loop-node.invariant)

pub type_scope_fits-returns-then-not-is_of_kind : goal.type_scope_fits-returns-then-not-is_of_kind
type_scope_fits-returns-then-not-is_of_kind g t c = other_kind (map g.M.CoreBytes.core_module c.args.modules.now) c.args.scope.now c.args.kind _ c.is_of_kind.ensures c.if-not-is_of_kind.true

pub type_scope_fits-returns-then-not-is_word : goal.type_scope_fits-returns-then-not-is_word
type_scope_fits-returns-then-not-is_word g t c =
    too_many (map g.M.CoreBytes.core_module c.args.modules.now) c.args.scope.now c.args.kind _ _ c.is_of_kind.ensures c.if-not-is_of_kind.false c.is_word.ensures c.if-not-is_word.true

pub type_scope_fits-returns : goal.type_scope_fits-returns
type_scope_fits-returns g t c =
    few_enough (map g.M.CoreBytes.core_module c.args.modules.now) c.args.scope.now c.args.kind _ _ _ c.is_of_kind.ensures c.if-not-is_of_kind.false c.is_word.ensures c.if-not-is_word.false c.declarations_fit.ensures

pub declarations_fit-loop-def-preserved : goal.declarations_fit-loop-def-preserved
declarations_fit-loop-def-preserved g t c =
    let cores = map g.M.CoreBytes.core_module c.args.modules.now in
    let k = c.args.kind in
    let f = declarations_of (type_kind k) in
    goes_on (λ ds. declarations_fit (binary_of_defs the_encoding (defs_listed cores ds) no_def) f) (λ (d : Def). node_fits (wire_node cores d.node) f) refl (λ x xs. declarations_one cores k x xs) c.args.defs.now c.loop-def.def-index c.def-item.result c.node_fits.result
    c.loop-def-test.true c.def-item.is (c.node_fits.ensures ∙ ap (node_fits (wire_node cores c.def-item.result.node)) c.declarations_in-family.ensures) c.if-not-node_fits.false c.loop-def.invariant

pub declarations_fit-returns-then-not-node_fits : goal.declarations_fit-returns-then-not-node_fits
declarations_fit-returns-then-not-node_fits g t c =
    let cores = map g.M.CoreBytes.core_module c.args.modules.now in
    let k = c.args.kind in
    let f = declarations_of (type_kind k) in
    ends (λ ds. declarations_fit (binary_of_defs the_encoding (defs_listed cores ds) no_def) f) (λ (d : Def). node_fits (wire_node cores d.node) f) refl (λ x xs. declarations_one cores k x xs) c.args.defs.now c.loop-def.def-index c.def-item.result c.node_fits.result
    c.loop-def-test.true c.def-item.is (c.node_fits.ensures ∙ ap (node_fits (wire_node cores c.def-item.result.node)) c.declarations_in-family.ensures) c.if-not-node_fits.true c.loop-def.invariant

pub leaf_fits-returns-in-Present : goal.leaf_fits-returns-in-Present
leaf_fits-returns-in-Present g t c = rw c.in-Present.is c.present_fits.ensures

pub leaf_fits-returns-in-One : goal.leaf_fits-returns-in-One
leaf_fits-returns-in-One g t c = rw (c.in-One.is, wire_one (map g.M.CoreBytes.core_module c.args.modules.now) c.args.leaf.now c.in-Node.node c.in-Node.is) c.node_fits.ensures

pub leaf_fits-returns-in-Each : goal.leaf_fits-returns-in-Each
leaf_fits-returns-in-Each g t c = rw (c.in-Each.is, wire_each (map g.M.CoreBytes.core_module c.args.modules.now) c.args.leaf.now c.in-Nodes.nodes c.in-Nodes.is) c.nodes_fit.ensures

pub leaf_fits-returns-in-Scope : goal.leaf_fits-returns-in-Scope
leaf_fits-returns-in-Scope g t c = rw (wire_whole (map g.M.CoreBytes.core_module c.args.modules.now) c.args.leaf.now c.in-Scope.scope c.in-Scope.is) c.scope_fits.ensures
