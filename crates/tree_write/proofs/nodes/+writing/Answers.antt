use Rattle.std.proofs.Common.{◌-◌, ◌<◌, [], ◌∷◌, ◌++◌, length, map, get_or, refl, sym, ◌∙◌, ap, subst, arith}
use Rattle.comp_model.specs.Leb.{uleb}
use Rattle.comp_model.specs.Model.{present, scope as scope_part}
use Rattle.comp_model.specs.declared.Space.TheVariants.{Ty}
use Rattle.comp_wire.specs.Table as table
use Rattle.comp_wire.specs.Table.{lines}
use Rattle.comp_wire.specs.Spelled.{spell_leaf, spell_leaves, spell_node, spell_nodes, assemble, find, fits_leaves, FitsLeaf, FitsNode, declarations_of}
use Rattle.comp_tree.specs.declared.tree.Def.{Def}
use Rattle.comp_tree.specs.declared.tree.Node.{Node}
use Rattle.byte_table.specs.Lines.{field_of, part_of, family_of, piece_of, type_kind}
use Rattle.byte_table.specs.Stands.{piece_bytes}
use Rattle.byte_table.specs.declared.line.Piece.{Piece}
use Rattle.tree_write.specs.Fitted.{PieceFits}
use Rattle.tree_write.specs.Kept.{put}
use Rattle.tree_write.specs.Wire.{wire_leaf, wire_leaves, wire_node, wire_nodes, wire_node_of_def, wire_declarations, wire_scope, Asked}
use Rattle.tree_write.proofs.Assembled.{assemble-cons, line_put, function_put, piece_put, spelled_in, spelled_behind, counted_nodes, limits_put, outer_put}
use Rattle.tree_write.proofs.Fitted.{asked, piece_fits_at, leaf_fits, node_fits_at, declaration_fits}
use Rattle.tree_write.proofs.Puts.{put_put, put_none}
use Rattle.tree_write.proofs.Scopes.{wire_whole, wire_one, wire_each, coded_declaration, type_spelled, type_fits}
use Rattle.tree_write.proofs.Turns.{same_item, starts, turn, turn_at, all_of}
use Rattle.tree_write.proofs.nodes.+writing.Goals as goal

pub write_at-returns-then-at-leaves : goal.write_at-returns-then-at-leaves
write_at-returns-then-at-leaves g t c =
    let cores = map g.M.CoreBytes.core_module c.args.modules.now in
    λ h. c.write_leaf.ensures (leaf_fits cores c.args.leaves.now c.args.at (field_of c.args.field.now) c.index-leaves-at.result h c.if-at-leaves.true c.index-leaves-at.is)
    ∙ ap (λ xs. put xs (g.S.Sink.kept c.args.sink.now)) (sym (spelled_in cores c.args.leaves.now c.args.at (field_of c.args.field.now) c.index-leaves-at.result c.if-at-leaves.true c.index-leaves-at.is))

pub write_at-returns-else-at-leaves : goal.write_at-returns-else-at-leaves
write_at-returns-else-at-leaves g t c =
    let k = g.S.Sink.kept c.args.sink.now in
    λ h. sym (ap (λ xs. put xs k) (spelled_behind (map g.M.CoreBytes.core_module c.args.modules.now) c.args.leaves.now c.args.at (field_of c.args.field.now) c.if-at-leaves.false) ∙ put_none k)

pub write_limits-returns : goal.write_limits-returns
write_limits-returns g t c = limits_put (spell_leaves (wire_leaves (map g.M.CoreBytes.core_module c.args.modules.now) c.args.leaves.now)) c.args.at _ _ _ _ (c.write_at.ensures tt) (c.write_at-2.ensures tt) (c.write_at-3.ensures tt)

pub write_outer-returns : goal.write_outer-returns
write_outer-returns g t c = outer_put (spell_leaves (wire_leaves (map g.M.CoreBytes.core_module c.args.modules.now) c.args.leaves.now)) c.args.at _ _ _ _ _ (c.write_at.ensures tt) (c.write_at-2.ensures tt) c.byte.ensures (c.write_at-3.ensures tt)

pub write_piece-returns-in-Leaf : goal.write_piece-returns-in-Leaf
write_piece-returns-in-Leaf g t c =
    let gs = fits_leaves (wire_leaves (map g.M.CoreBytes.core_module c.args.modules.now) c.args.leaves.now) in
    λ h. rw c.in-Leaf.is (c.write_at.ensures (asked _ _ (subst (λ p. PieceFits (piece_of p) gs) c.in-Leaf.is h)))

pub write_pieces-loop-i-init : goal.write_pieces-loop-i-init
write_pieces-loop-i-init g t c =
    let gs = spell_leaves (wire_leaves (map g.M.CoreBytes.core_module c.args.modules.now) c.args.leaves.now) in
    λ h. starts (λ ps. assemble (map piece_of ps) gs) (λ (p : Piece). piece_bytes (piece_of p) gs) refl (λ x xs. assemble-cons (piece_of x) (map piece_of xs) gs) c.args.pieces.now _

pub write_pieces-loop-i-preserved : goal.write_pieces-loop-i-preserved
write_pieces-loop-i-preserved g t c =
    let ls = wire_leaves (map g.M.CoreBytes.core_module c.args.modules.now) c.args.leaves.now in
    let gs = spell_leaves ls in
    λ h. turn_at (λ ps. assemble (map piece_of ps) gs) (λ (p : Piece). piece_bytes (piece_of p) gs) refl (λ x xs. assemble-cons (piece_of x) (map piece_of xs) gs) c.args.pieces.now c.loop-i.i _ _ _ _ c.loop-i-test.true c.loop-i.auto.i
    (c.loop-i.invariant h) (c.write_piece.ensures (piece_fits_at c.args.pieces.now (fits_leaves ls) (c.loop-i.i - 1) _ h (omega (arith, c.loop-i-test.true, c.loop-i.auto.i))))

pub write_pieces-returns : goal.write_pieces-returns
write_pieces-returns g t c =
    let gs = spell_leaves (wire_leaves (map g.M.CoreBytes.core_module c.args.modules.now) c.args.leaves.now) in
    λ h. c.loop-i.invariant h ∙ ap (λ ps. put (assemble (map piece_of ps) gs) (g.S.Sink.kept c.args.sink.now)) (all_of c.args.pieces.now c.loop-i.i c.loop-i-test.false)

pub write_line-returns : goal.write_line-returns
write_line-returns g t c =
    let ls = wire_leaves (map g.M.CoreBytes.core_module c.args.modules.now) c.args.node.now.leaves.now in
    let f = family_of c.args.family in
    line_put (find c.args.node.now.row (lines f)) c.pieces_in-placed.result.lead (map piece_of c.pieces_in-placed.result.pieces.now) (spell_leaves ls) (fits_leaves ls) (g.S.Sink.kept c.args.sink.now) _ _ (λ h. c.pieces_in-placed.ensures)
    c.write_pieces.ensures (c.write_lead.ensures (spell_leaves ls))

pub write_named_type-returns : goal.write_named_type-returns
write_named_type-returns g t c =
    let gs = spell_leaves (wire_leaves (map g.M.CoreBytes.core_module c.args.modules.now) c.args.leaves.now) in
    let k = g.S.Sink.kept c.args.sink.now in
    λ h. piece_put (table.leaf 0 table.string) (table.leaf 1 table.value ∷ []) gs k _ _
    (piece_put (table.leaf 1 table.value) [] gs k _ _ (sym (put_none k)) (c.write_at.ensures h.1.0)) (c.write_at-2.ensures h.0)

pub write_function_type-returns : goal.write_function_type-returns
write_function_type-returns g t c =
    let gs = spell_leaves (wire_leaves (map g.M.CoreBytes.core_module c.args.modules.now) c.args.leaves.now) in
    let k = g.S.Sink.kept c.args.sink.now in
    let result = table.leaf 2 (table.result table.value) in
    let parameters = table.leaf 1 (table.each table.named_types) in
    λ h. piece_put (table.leaf 0 table.async_byte) (parameters ∷ result ∷ []) gs k _ _
    (piece_put parameters (result ∷ []) gs k _ _ (piece_put result [] gs k _ _ (sym (put_none k)) (c.write_at.ensures h.1.1.0)) (c.write_at-2.ensures h.1.0)) (c.write_at-3.ensures h.0)

pub write_export_type-returns : goal.write_export_type-returns
write_export_type-returns g t c =
    let gs = spell_leaves (wire_leaves (map g.M.CoreBytes.core_module c.args.modules.now) c.args.leaves.now) in
    let k = g.S.Sink.kept c.args.sink.now in
    let name = table.leaf 0 table.extern_name in
    let described = table.leaf 1 (table.one table.descriptions) in
    λ h. piece_put (table.byte 0x04) (name ∷ described ∷ []) gs k _ _
    (piece_put name (described ∷ []) gs k _ _ (piece_put described [] gs k _ _ (sym (put_none k)) (c.write_at.ensures h.1.0)) (c.write_at-2.ensures h.0)) c.byte.ensures

pub write_func_description-returns : goal.write_func_description-returns
write_func_description-returns g t c =
    let gs = spell_leaves (wire_leaves (map g.M.CoreBytes.core_module c.args.modules.now) c.args.leaves.now) in
    let k = g.S.Sink.kept c.args.sink.now in
    let index = table.leaf 0 (table.index_in Ty) in
    λ h. piece_put (table.byte 0x01) (index ∷ []) gs k _ _ (piece_put index [] gs k _ _ (sym (put_none k)) (c.write_at.ensures h.0)) c.byte.ensures

pub write_row-returns-in-FunctionType : goal.write_row-returns-in-FunctionType
write_row-returns-in-FunctionType g t c =
    let ls = wire_leaves (map g.M.CoreBytes.core_module c.args.modules.now) c.args.node.now.leaves.now in
    function_put c.args.node.now.row c.args.family c.type_lead.result (spell_leaves ls) (fits_leaves ls) (g.S.Sink.kept c.args.sink.now) _ _ c.in-FunctionType.is c.type_lead.ensures c.write_function_type.ensures (c.write_lead.ensures (spell_leaves ls))

pub write_nodes-loop-i-init : goal.write_nodes-loop-i-init
write_nodes-loop-i-init g t c =
    let cores = map g.M.CoreBytes.core_module c.args.modules.now in
    let f = family_of c.args.family in
    λ h. starts (λ ns. spell_nodes (wire_nodes cores ns) f) (λ (n : Node). spell_node (wire_node cores n) f) refl (λ x xs. refl) c.args.nodes.now _

pub write_nodes-loop-i-preserved : goal.write_nodes-loop-i-preserved
write_nodes-loop-i-preserved g t c =
    let cores = map g.M.CoreBytes.core_module c.args.modules.now in
    let f = family_of c.args.family in
    λ h. turn_at (λ ns. spell_nodes (wire_nodes cores ns) f) (λ (n : Node). spell_node (wire_node cores n) f) refl (λ x xs. refl) c.args.nodes.now c.loop-i.i _ _ _ _ c.loop-i-test.true c.loop-i.auto.i
    (c.loop-i.invariant h) (c.write_row.ensures (node_fits_at cores c.args.nodes.now (c.loop-i.i - 1) f _ h (omega (arith, c.loop-i-test.true, c.loop-i.auto.i))))

pub write_nodes-returns : goal.write_nodes-returns
write_nodes-returns g t c =
    let cores = map g.M.CoreBytes.core_module c.args.modules.now in
    let f = family_of c.args.family in
    let k = g.S.Sink.kept c.args.sink.now in
    let ns = c.args.nodes.now in
    λ h. c.write_unsigned.ensures
    ∙ ap (put (uleb (length ns))) (c.loop-i.invariant h.1 ∙ ap (λ xs. put (spell_nodes (wire_nodes cores xs) f) k) (all_of ns c.loop-i.i c.loop-i-test.false))
    ∙ put_put (uleb (length ns)) (spell_nodes (wire_nodes cores ns) f) k ∙ ap (λ n. put (uleb n ++ spell_nodes (wire_nodes cores ns) f) k) (sym (counted_nodes cores ns))

pub write_type_scope-returns : goal.write_type_scope-returns
write_type_scope-returns g t c =
    let cores = map g.M.CoreBytes.core_module c.args.modules.now in
    let k = g.S.Sink.kept c.args.sink.now in
    λ h. c.write_unsigned.ensures ∙ ap (put _) (c.write_declarations.ensures (type_fits cores c.args.scope.now c.args.kind h)) ∙ put_put _ _ k ∙ ap (λ xs. put xs k) (sym (type_spelled cores c.args.scope.now c.args.kind h))

pub write_declarations-loop-i-init : goal.write_declarations-loop-i-init
write_declarations-loop-i-init g t c =
    let cores = map g.M.CoreBytes.core_module c.args.modules.now in
    let f = declarations_of (type_kind c.args.kind) in
    λ h. starts (λ ds. wire_declarations cores ds f) (λ (d : Def). spell_node (wire_node_of_def cores d.node) f) refl (λ x xs. refl) c.args.defs.now _

pub write_declarations-loop-i-preserved : goal.write_declarations-loop-i-preserved
write_declarations-loop-i-preserved g t c =
    let cores = map g.M.CoreBytes.core_module c.args.modules.now in
    let f = declarations_of (type_kind c.args.kind) in
    let ds = c.args.defs.now in
    let d = get_or ds (c.loop-i.i - 1) c.index-defs-i.result in
    let same = c.declarations_in-family.ensures in
    let inside : c.loop-i.i - 1 < length ds = omega (arith, c.loop-i-test.true, c.loop-i.auto.i) in
    let is = same_item ds (c.loop-i.i - 1) c.index-defs-i.result inside in
    λ h. turn (λ xs. wire_declarations cores xs f) (λ (x : Def). spell_node (wire_node_of_def cores x.node) f) refl (λ x xs. refl) ds c.loop-i.i d _ _ _ c.loop-i-test.true c.loop-i.auto.i is (c.loop-i.invariant h)
    (c.write_row.ensures (subst (λ x. FitsNode (wire_node cores d.node) x) (sym same) (declaration_fits cores ds (c.loop-i.i - 1) c.args.kind d h inside is))
    ∙ ap (λ x. put (spell_node (wire_node cores d.node) x) (g.S.Sink.kept c.loop-i.sink)) same ∙ ap (λ xs. put xs (g.S.Sink.kept c.loop-i.sink)) (sym (coded_declaration d.node.row _ _ c.args.kind)))

pub write_declarations-returns : goal.write_declarations-returns
write_declarations-returns g t c =
    let cores = map g.M.CoreBytes.core_module c.args.modules.now in
    λ h. c.loop-i.invariant h ∙ ap (λ ds. put (wire_declarations cores ds (declarations_of (type_kind c.args.kind))) (g.S.Sink.kept c.args.sink.now)) (all_of c.args.defs.now c.loop-i.i c.loop-i-test.false)

pub write_leaf-returns-in-Number : goal.write_leaf-returns-in-Number
write_leaf-returns-in-Number g t c =
    let cores = map g.M.CoreBytes.core_module c.args.modules.now in
    λ h. rw c.in-Number.is (c.write_number.ensures (subst (λ x. Asked (field_of c.args.field.now) (FitsLeaf (wire_leaf cores x) (field_of c.args.field.now))) c.in-Number.is h))

pub write_leaf-returns-in-Present : goal.write_leaf-returns-in-Present
write_leaf-returns-in-Present g t c =
    let cores = map g.M.CoreBytes.core_module c.args.modules.now in
    λ h. rw c.in-Present.is (c.write_present.ensures (subst (λ x. Asked (field_of c.args.field.now) (FitsLeaf (wire_leaf cores x) (field_of c.args.field.now))) c.in-Present.is h))

pub write_leaf-returns-in-One : goal.write_leaf-returns-in-One
write_leaf-returns-in-One g t c =
    let cores = map g.M.CoreBytes.core_module c.args.modules.now in
    let one = wire_one cores c.args.leaf.now c.in-Node.node c.in-Node.is in
    λ h. rw (c.in-One.is, one) (c.write_node.ensures (subst (λ x. FitsLeaf x (table.one (family_of c.in-One.family))) one (subst (λ x. Asked (field_of x) (FitsLeaf (wire_leaf cores c.args.leaf.now) (field_of x))) c.in-One.is h)))

pub write_leaf-returns-in-Each : goal.write_leaf-returns-in-Each
write_leaf-returns-in-Each g t c =
    let cores = map g.M.CoreBytes.core_module c.args.modules.now in
    let each = wire_each cores c.args.leaf.now c.in-Nodes.nodes c.in-Nodes.is in
    λ h. rw (c.in-Each.is, each) (c.write_nodes.ensures (subst (λ x. FitsLeaf x (table.each (family_of c.in-Each.family))) each (subst (λ x. Asked (field_of x) (FitsLeaf (wire_leaf cores c.args.leaf.now) (field_of x))) c.in-Each.is h)))

pub write_leaf-returns-in-Scope : goal.write_leaf-returns-in-Scope
write_leaf-returns-in-Scope g t c =
    let cores = map g.M.CoreBytes.core_module c.args.modules.now in
    let whole = wire_whole cores c.args.leaf.now c.in-Scope.scope c.in-Scope.is in
    λ h. rw whole (c.write_scope.ensures (subst (λ x. Asked (field_of c.args.field.now) (FitsLeaf x (field_of c.args.field.now))) whole h))

pub write_scope-returns-in-TypeScope : goal.write_scope-returns-in-TypeScope
write_scope-returns-in-TypeScope g t c =
    let cores = map g.M.CoreBytes.core_module c.args.modules.now in
    λ h. rw c.in-TypeScope.is (c.write_type_scope.ensures (subst (λ x. Asked (field_of x) (FitsLeaf (scope_part (wire_scope cores c.args.scope.now)) (field_of x))) c.in-TypeScope.is h))

pub write_present-returns-in-Optional : goal.write_present-returns-in-Optional
write_present-returns-in-Optional g t c =
    let x = wire_leaf (map g.M.CoreBytes.core_module c.args.modules.now) c.args.inner.now in
    let k = g.S.Sink.kept c.args.sink.now in
    let part = part_of c.in-Optional.part in
    λ h. rw c.in-Optional.is (c.byte.ensures ∙ ap (put (0x01 ∷ [])) (c.write_part.ensures (subst (λ f. Asked (field_of f) (FitsLeaf (present x) (field_of f))) c.in-Optional.is h)) ∙ put_put (0x01 ∷ []) (spell_leaf x part) k)

pub write_present-returns-in-Result : goal.write_present-returns-in-Result
write_present-returns-in-Result g t c =
    let x = wire_leaf (map g.M.CoreBytes.core_module c.args.modules.now) c.args.inner.now in
    let k = g.S.Sink.kept c.args.sink.now in
    let part = part_of c.in-Result.part in
    λ h. rw c.in-Result.is (c.byte-in-Result.ensures ∙ ap (put (0x00 ∷ [])) (c.write_part-in-Result.ensures (subst (λ f. Asked (field_of f) (FitsLeaf (present x) (field_of f))) c.in-Result.is h)) ∙ put_put (0x00 ∷ []) (spell_leaf x part) k)

pub write_present-returns-in-Maximum : goal.write_present-returns-in-Maximum
write_present-returns-in-Maximum g t c = λ h. rw c.in-Maximum.is (c.write_inner.ensures tt)
