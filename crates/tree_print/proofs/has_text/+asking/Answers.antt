use Rattle.std.proofs.Common.{sym, ap, ◌∙◌, refl, map}
use Rattle.comp_model.specs.Model as m
use Rattle.wire_tree.specs.Lists.{listed, defs_listed}
use Rattle.wire_tree.specs.Model.{scope_of}
use Rattle.wire_tree.specs.declared.tree.Node.{Node}
use Rattle.print_table.specs.TextOf.{unnamed_leaf, unnamed_defs}
use Rattle.print_table.specs.HasText.{leaf_has, definitions_have, line_has}
use Rattle.tree_print.specs.declared.line.Field.{Field}
use Rattle.tree_print.specs.declared.line.Frame.TheVariants as frame
use Rattle.tree_print.specs.Lines.{field_of, piece_of}
use Rattle.tree_print.specs.Texts.{asked, definition_has}
use Rattle.tree_print.proofs.Asked.{goes_on, stops, definitions_and, asked_there, asked_nowhere, framed_has, inner_asked, node_asked, nodes_asked, scope_asked}
use Rattle.tree_print.proofs.has_text.+asking.Goals as goal

pub place_serves-returns-then-at-leaves : goal.place_serves-returns-then-at-leaves
place_serves-returns-then-at-leaves t c =
    c.leaf_serves.ensures ∙ sym (asked_there c.args.leaves.now c.args.at c.index-leaves-at.result (field_of c.args.field) c.if-at-leaves.true c.index-leaves-at.is)

pub place_serves-returns : goal.place_serves-returns
place_serves-returns t c = sym (asked_nowhere c.args.leaves.now c.args.at (field_of c.args.field) c.if-at-leaves.false)

pub line_serves-returns-in-Group : goal.line_serves-returns-in-Group
line_serves-returns-in-Group t c = c.pieces_serve.ensures ∙ framed_has c.args.line.frame (frame.Group c.in-Group.field-0) (map piece_of c.args.line.pieces.now) (asked (listed c.args.leaves.now)) c.in-Group.is refl

pub line_serves-returns-in-Custom : goal.line_serves-returns-in-Custom
line_serves-returns-in-Custom t c = c.pieces_serve-in-Custom.ensures ∙ framed_has c.args.line.frame frame.Custom (map piece_of c.args.line.pieces.now) (asked (listed c.args.leaves.now)) c.in-Custom.is refl

pub line_serves-returns-in-TypeOf : goal.line_serves-returns-in-TypeOf
line_serves-returns-in-TypeOf t c = c.pieces_serve-in-TypeOf.ensures ∙ framed_has c.args.line.frame (frame.TypeOf c.in-TypeOf.field-0) (map piece_of c.args.line.pieces.now) (asked (listed c.args.leaves.now)) c.in-TypeOf.is refl

pub line_serves-returns-in-BuiltIn : goal.line_serves-returns-in-BuiltIn
line_serves-returns-in-BuiltIn t c = c.pieces_serve-in-BuiltIn.ensures ∙ framed_has c.args.line.frame (frame.BuiltIn c.in-BuiltIn.field-0) (map piece_of c.args.line.pieces.now) (asked (listed c.args.leaves.now)) c.in-BuiltIn.is refl

pub node_serves-returns : goal.node_serves-returns
node_serves-returns t c =
    let ls = listed c.args.node.now.leaves.now in
    c.line_serves.ensures ∙ ap (λ ps. line_has ps (asked ls)) c.inner_line.ensures ∙ inner_asked c.args.node.now.row ls

pub definitions_serve-returns-then-not-definition_serves : goal.definitions_serve-returns-then-not-definition_serves
definitions_serve-returns-then-not-definition_serves t c =
    let k = c.args.kind in
    stops (λ ns. definitions_have k (unnamed_defs (defs_listed ns))) (λ (n : Node). definition_has k n.row (listed n.leaves.now)) (definitions_and k) c.args.defs.now c.loop-node.node-index _ _ c.loop-node-test.true c.if-not-definition_serves.ensures c.loop-node.invariant

pub definitions_serve-loop-node-preserved : goal.definitions_serve-loop-node-preserved
definitions_serve-loop-node-preserved t c =
    let k = c.args.kind in
    goes_on (λ ns. definitions_have k (unnamed_defs (defs_listed ns))) (λ (n : Node). definition_has k n.row (listed n.leaves.now)) (definitions_and k) c.args.defs.now c.loop-node.node-index _ _ c.loop-node-test.true c.if-not-definition_serves.ensures c.loop-node.invariant

pub leaf_serves-returns-in-Node : goal.leaf_serves-returns-in-Node
leaf_serves-returns-in-Node t c = c.one_serves.ensures ∙ sym (node_asked c.args.leaf.now c.in-Node.node (field_of c.args.field) c.in-Node.is)

pub leaf_serves-returns-in-Nodes : goal.leaf_serves-returns-in-Nodes
leaf_serves-returns-in-Nodes t c = c.list_serves.ensures ∙ sym (nodes_asked c.args.leaf.now c.in-Nodes.nodes (field_of c.args.field) c.in-Nodes.is)

pub scope_serves-returns-in-Definitions : goal.scope_serves-returns-in-Definitions
scope_serves-returns-in-Definitions t c =
    c.definitions_serve.ensures
    ∙ sym (ap (λ (f : Field). leaf_has (unnamed_leaf (m.scope (scope_of c.args.scope.now))) (field_of f)) c.in-Definitions.is ∙ scope_asked c.args.scope.now)
