use Rattle.std.proofs.Common.{◌≡◌, drop, map}
use Rattle.comp_wire.specs.Spelled.{spell_leaves, spell_nodes, assemble, declarations_of, fits_leaves, FitsPieces, FitsNodes}
use Rattle.byte_table.specs.Lines.{family_of, piece_of, type_kind}
use Rattle.tree_write.specs.Kept.{put}
use Rattle.tree_write.specs.Wire.{wire_leaves, wire_nodes, wire_declarations, DeclarationsFit}
use Rattle.tree_write.proofs.nodes.+writing.Given as goal

-- what stands from here on is written
abbrev pub invariant-write_pieces-loop-i : goal.invariant-write_pieces-loop-i
invariant-write_pieces-loop-i g l =
    FitsPieces (map piece_of l.pieces) (fits_leaves (wire_leaves (map g.M.CoreBytes.core_module l.modules) l.leaves))
    → g.S.Sink.kept l.sink ≡ put (assemble (map piece_of (drop l.i l.pieces)) (spell_leaves (wire_leaves (map g.M.CoreBytes.core_module l.modules) l.leaves))) (g.S.Sink.kept l.initial.sink)

abbrev pub invariant-write_nodes-loop-i : goal.invariant-write_nodes-loop-i
invariant-write_nodes-loop-i g l =
    FitsNodes (wire_nodes (map g.M.CoreBytes.core_module l.modules) l.nodes) (family_of l.family)
    → g.S.Sink.kept l.sink ≡ put (spell_nodes (wire_nodes (map g.M.CoreBytes.core_module l.modules) (drop l.i l.nodes)) (family_of l.family)) (g.S.Sink.kept l.initial.sink)

abbrev pub invariant-write_declarations-loop-i : goal.invariant-write_declarations-loop-i
invariant-write_declarations-loop-i g l =
    DeclarationsFit (map g.M.CoreBytes.core_module l.modules) l.defs (declarations_of (type_kind l.fn.kind))
    → g.S.Sink.kept l.sink ≡ put (wire_declarations (map g.M.CoreBytes.core_module l.modules) (drop l.i l.defs) (declarations_of (type_kind l.fn.kind))) (g.S.Sink.kept l.initial.sink)
