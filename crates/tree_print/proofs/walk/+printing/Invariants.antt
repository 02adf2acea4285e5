use Rattle.std.proofs.Common.{◌≡◌, drop, map}
use Rattle.wire_tree.specs.Lists.{listed, nodes_listed, defs_listed}
use Rattle.print_table.specs.TextOf.{assemble, nodes_tokens, groups_tokens, definitions_tokens, unnamed_defs}
use Rattle.tree_print.specs.Lines.{piece_of}
use Rattle.tree_print.specs.Printed.{shown}
use Rattle.tree_print.specs.Taken.{taken, put}
use Rattle.tree_print.specs.Words.{word_text}
use Rattle.tree_print.proofs.walk.+printing.Given as goal

abbrev pub invariant-put_pieces-loop-piece : goal.invariant-put_pieces-loop-piece
invariant-put_pieces-loop-piece l = put (assemble (map piece_of (drop l.piece-index l.pieces)) (shown (listed l.leaves))) (taken l.printer) ≡ put (assemble (map piece_of l.pieces) (shown (listed l.leaves))) (taken l.initial.printer)

abbrev pub invariant-put_nodes-loop-node : goal.invariant-put_nodes-loop-node
invariant-put_nodes-loop-node l = put (nodes_tokens (nodes_listed (drop l.node-index l.nodes))) (taken l.printer) ≡ put (nodes_tokens (nodes_listed l.nodes)) (taken l.initial.printer)

abbrev pub invariant-put_groups-loop-node : goal.invariant-put_groups-loop-node
invariant-put_groups-loop-node l = put (groups_tokens (word_text l.word) (nodes_listed (drop l.node-index l.nodes))) (taken l.printer) ≡ put (groups_tokens (word_text l.word) (nodes_listed l.nodes)) (taken l.initial.printer)

abbrev pub invariant-put_definitions-loop-node : goal.invariant-put_definitions-loop-node
invariant-put_definitions-loop-node l = put (definitions_tokens l.kind (unnamed_defs (defs_listed (drop l.node-index l.defs)))) (taken l.printer) ≡ put (definitions_tokens l.kind (unnamed_defs (defs_listed l.defs))) (taken l.initial.printer)
