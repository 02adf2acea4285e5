use Rattle.std.proofs.Common.{◌≡◌, drop, map}
use Rattle.wire_tree.specs.Lists.{listed, nodes_listed, defs_listed}
use Rattle.print_table.specs.TextOf.{unnamed_defs}
use Rattle.print_table.specs.HasText.{pieces_have, nodes_have, definitions_have}
use Rattle.tree_print.specs.Lines.{piece_of}
use Rattle.tree_print.specs.Texts.{asked}
use Rattle.tree_print.proofs.has_text.+asking.Given as goal

abbrev pub invariant-pieces_serve-loop-piece : goal.invariant-pieces_serve-loop-piece
invariant-pieces_serve-loop-piece l = pieces_have (map piece_of (drop l.piece-index l.pieces)) (asked (listed l.leaves)) ≡ pieces_have (map piece_of l.pieces) (asked (listed l.leaves))

abbrev pub invariant-nodes_serve-loop-node : goal.invariant-nodes_serve-loop-node
invariant-nodes_serve-loop-node l = nodes_have (nodes_listed (drop l.node-index l.nodes)) ≡ nodes_have (nodes_listed l.nodes)

abbrev pub invariant-definitions_serve-loop-node : goal.invariant-definitions_serve-loop-node
invariant-definitions_serve-loop-node l = definitions_have l.kind (unnamed_defs (defs_listed (drop l.node-index l.defs))) ≡ definitions_have l.kind (unnamed_defs (defs_listed l.defs))
