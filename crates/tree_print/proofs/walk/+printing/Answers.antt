use Rattle.std.proofs.Common.{◌≡◌, sym, ap, ◌∙◌, refl, subst, map, OnOk}
use Rattle.comp_model.specs.Model as m
use Rattle.wire_tree.specs.Lists.{listed, node_of, nodes_listed, defs_listed}
use Rattle.wire_tree.specs.Model.{leaf_of, scope_of}
use Rattle.wire_tree.specs.declared.tree.Node.{Node}
use Rattle.print_table.specs.TextOf.{assemble, leaf_tokens, node_tokens, nodes_tokens, groups_tokens, definitions_tokens, in_group, unnamed_leaf, unnamed_defs}
use Rattle.tree_print.specs.declared.line.Field.{Field}
use Rattle.tree_print.specs.declared.line.Piece.{Piece}
use Rattle.tree_print.specs.Lines.{field_of, part_of, piece_of, head_of, tail_of}
use Rattle.tree_print.specs.Printed.{piece_tokens, shown, definition_tokens}
use Rattle.tree_print.specs.Taken.{taken, put}
use Rattle.tree_print.specs.Words.{word_text}
use Rattle.tree_print.proofs.Walks.{turn, piece_more, definitions_more, printed_there, printed_nowhere, grouped, line_put, part_kept, inner_kept, node_printed, nodes_printed, scope_printed}
use Rattle.tree_print.proofs.walk.+printing.Goals as goal

pub put_at-returns-then-at-leaves : goal.put_at-returns-then-at-leaves
put_at-returns-then-at-leaves t c =
    subst (λ q. OnOk c.put_leaf.result (taken c.put_leaf.new.printer ≡ put q (taken c.args.printer.now)))
    (sym (printed_there c.args.leaves.now c.args.at c.index-leaves-at.result (field_of c.args.field) c.if-at-leaves.true c.index-leaves-at.is)) c.put_leaf.ensures

pub put_at-returns : goal.put_at-returns
put_at-returns t c = ap (λ q. put q (taken c.args.printer.now)) (sym (printed_nowhere c.args.leaves.now c.args.at (field_of c.args.field) c.if-at-leaves.false))

pub put_pieces-loop-piece-preserved : goal.put_pieces-loop-piece-preserved
put_pieces-loop-piece-preserved t c =
    let gs = shown (listed c.args.leaves.now) in
    turn (λ ps. assemble (map piece_of ps) gs) (λ (p : Piece). piece_tokens (piece_of p) gs) (λ p ps. piece_more (piece_of p) (map piece_of ps) gs) c.args.pieces.now c.loop-piece.piece-index _ _ _ _ c.loop-piece-test.true c.in_ok-put_piece.ensures c.loop-piece.invariant

pub put_nodes-loop-node-preserved : goal.put_nodes-loop-node-preserved
put_nodes-loop-node-preserved t c =
    turn (λ ns. nodes_tokens (nodes_listed ns)) (λ (n : Node). node_tokens (node_of n)) (λ n ns. refl) c.args.nodes.now c.loop-node.node-index _ _ _ _ c.loop-node-test.true c.in_ok-put_node.ensures c.loop-node.invariant

pub put_groups-loop-node-preserved : goal.put_groups-loop-node-preserved
put_groups-loop-node-preserved t c =
    let x = word_text c.args.word in
    turn (λ ns. groups_tokens x (nodes_listed ns)) (λ (n : Node). in_group x (node_tokens (node_of n))) (λ n ns. refl) c.args.nodes.now c.loop-node.node-index _ _ _ _ c.loop-node-test.true c.in_ok-put_group.ensures c.loop-node.invariant

pub put_definitions-loop-node-preserved : goal.put_definitions-loop-node-preserved
put_definitions-loop-node-preserved t c =
    let k = c.args.kind in
    turn (λ ns. definitions_tokens k (unnamed_defs (defs_listed ns))) (λ (n : Node). definition_tokens k n.row (listed n.leaves.now)) (definitions_more k) c.args.defs.now c.loop-node.node-index _ _ _ _ c.loop-node-test.true c.in_ok-put_definition.ensures c.loop-node.invariant

pub put_group-returns : goal.put_group-returns
put_group-returns t c =
    subst (λ q. OnOk c.put-2.result (taken c.put-2.new.self ≡ q))
    (grouped (word_text c.args.word) (node_tokens (node_of c.args.node.now)) (taken c.args.printer.now) _ _ _ c.in_ok-put.ensures c.in_ok-put_word.ensures c.in_ok-put_node.ensures) c.put-2.ensures

pub put_line-returns : goal.put_line-returns
put_line-returns t c =
    let gs = shown (listed c.args.leaves.now) in
    subst (λ q. OnOk c.put_tail.result (taken c.put_tail.new.printer ≡ q))
    (line_put (head_of c.args.line.frame) (tail_of c.args.line.frame) (map piece_of c.args.line.pieces.now) gs (taken c.args.printer.now) _ _ c.in_ok-put_head.ensures c.in_ok-put_pieces.ensures) c.put_tail.ensures

pub put_node-returns : goal.put_node-returns
put_node-returns t c =
    let ls = listed c.args.node.now.leaves.now in
    subst (λ q. OnOk c.put_line.result (taken c.put_line.new.printer ≡ put q (taken c.args.printer.now)))
    (ap (λ ps. assemble ps (shown ls)) c.inner_line.ensures ∙ inner_kept c.args.node.now.row ls) c.put_line.ensures

pub put_leaf-returns-in-Node : goal.put_leaf-returns-in-Node
put_leaf-returns-in-Node t c =
    subst (λ q. OnOk c.put_one.result (taken c.put_one.new.printer ≡ put q (taken c.args.printer.now)))
    (sym (node_printed c.args.leaf.now c.in-Node.node (field_of c.args.field) c.in-Node.is)) c.put_one.ensures

pub put_leaf-returns-in-Nodes : goal.put_leaf-returns-in-Nodes
put_leaf-returns-in-Nodes t c =
    subst (λ q. OnOk c.put_list.result (taken c.put_list.new.printer ≡ put q (taken c.args.printer.now)))
    (sym (nodes_printed c.args.leaf.now c.in-Nodes.nodes (field_of c.args.field) c.in-Nodes.is)) c.put_list.ensures

pub put_present-returns-in_ok-put_leaf-in-OptionalIn : goal.put_present-returns-in_ok-put_leaf-in-OptionalIn
put_present-returns-in_ok-put_leaf-in-OptionalIn t c =
    let x = leaf_of c.args.part.now in
    let kind = c.in-OptionalIn.kind in
    let start = taken c.args.printer.now in
    subst (λ q. OnOk c.put-in-OptionalIn.result (taken c.put-in-OptionalIn.new.self ≡ q))
    (grouped (word_text c.in-OptionalIn.word) (leaf_tokens x (part_of kind)) start _ _ _ c.in_ok-put-in-OptionalIn.ensures c.in_ok-put_word-in-OptionalIn.ensures
    (c.in_ok-put_leaf-in-OptionalIn.ensures ∙ ap (λ q. put q (taken c.put_word.new.printer)) (ap (leaf_tokens (unnamed_leaf x)) c.part_field-in-OptionalIn.ensures ∙ part_kept x kind))
    ∙ sym (ap (λ (f : Field). put (leaf_tokens (m.present x) (field_of f)) start) c.in-OptionalIn.is)) c.put-in-OptionalIn.ensures

pub put_scope-returns-in-Definitions : goal.put_scope-returns-in-Definitions
put_scope-returns-in-Definitions t c =
    subst (λ q. OnOk c.put_definitions.result (taken c.put_definitions.new.printer ≡ put q (taken c.args.printer.now)))
    (sym (ap (λ (f : Field). leaf_tokens (unnamed_leaf (m.scope (scope_of c.args.scope.now))) (field_of f)) c.in-Definitions.is ∙ scope_printed c.args.scope.now)) c.put_definitions.ensures
