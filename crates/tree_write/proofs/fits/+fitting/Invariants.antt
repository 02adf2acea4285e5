use Rattle.std.proofs.Common.{◌≡◌, drop, map}
use Rattle.comp_model.specs.Model.{no_def}
use Rattle.comp_scopes.specs.Resolved.{binary_of_defs}
use Rattle.comp_tree.specs.Lists.{defs_listed}
use Rattle.comp_wire.specs.Fits.{pieces_fit, leaf_tests, nodes_fit, declarations_fit}
use Rattle.comp_wire.specs.Spelled.{declarations_of}
use Rattle.byte_table.specs.Lines.{family_of, piece_of, type_kind}
use Rattle.tree_write.specs.Wire.{the_encoding, wire_leaves, wire_nodes}
use Rattle.tree_write.proofs.fits.+fitting.Given as goal

-- all can be written where those from here on can
abbrev pub invariant-pieces_fit-loop-piece : goal.invariant-pieces_fit-loop-piece
invariant-pieces_fit-loop-piece g l =
    pieces_fit (map piece_of (drop l.piece-index l.pieces)) (leaf_tests (wire_leaves (map g.M.CoreBytes.core_module l.modules) l.leaves)) ≡ pieces_fit (map piece_of l.pieces) (leaf_tests (wire_leaves (map g.M.CoreBytes.core_module l.modules) l.leaves))

abbrev pub invariant-nodes_fit-loop-node : goal.invariant-nodes_fit-loop-node
invariant-nodes_fit-loop-node g l =
    nodes_fit (wire_nodes (map g.M.CoreBytes.core_module l.modules) (drop l.node-index l.nodes)) (family_of l.family) ≡ nodes_fit (wire_nodes (map g.M.CoreBytes.core_module l.modules) l.nodes) (family_of l.family)

abbrev pub invariant-declarations_fit-loop-def : goal.invariant-declarations_fit-loop-def
invariant-declarations_fit-loop-def g l =
    declarations_fit (binary_of_defs the_encoding (defs_listed (map g.M.CoreBytes.core_module l.modules) (drop l.def-index l.defs)) no_def) (declarations_of (type_kind l.fn.kind))
    ≡ declarations_fit (binary_of_defs the_encoding (defs_listed (map g.M.CoreBytes.core_module l.modules) l.defs) no_def) (declarations_of (type_kind l.fn.kind))
