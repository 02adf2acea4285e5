use Rattle.std.proofs.Common.{arith, ◌∙◌, ap, sym, refl, subst, map, drop, ◌+◌, ◌∷◌}
use Rattle.std.proofs.lemmas.List.{drop_more}
use Rattle.std.proofs.Math.ListN.{drop_of_length-le}
use Rattle.comp_model.specs.Model as m
use Rattle.comp_tree.specs.Lists.{node_of}
use Rattle.comp_tree.specs.Model.{leaf_of}
use Rattle.comp_tree.proofs.Leaves.{leaf_present, leaf_node, leaf_nodes}
use Rattle.tree_names.specs.ReadLeft.{NodesToRead}
use Rattle.tree_names.proofs.ReadParts.{same_read, same_refused, read_none, kept_read, present_read, node_read, nodes_read, core_is_read}
use Rattle.tree_names.proofs.ReadLoops.{leaf_was_read, leaf_was_refused, leaves_were_read, nodes_to_read, node_was_read, case_was_refused, node_was_refused, nodes_were_read}
use Rattle.tree_names.proofs.Fronts.{leaf_front, leaf_passed, node_front, node_passed, present_front, in_node_front, in_nodes_front}
use Rattle.tree_names.proofs.ReadyParts.{leaf_ready_at, node_ready_at, present_ready, node_ready, nodes_ready}
use Rattle.tree_names.proofs.Room.{leaf_in_room, leaves_in_room, node_in_room, nodes_in_room, present_in_room, in_node_room, in_nodes_room}
use Rattle.tree_names.proofs.Sizes.{present_below, node_below, nodes_below, leaf_below, leaves_fall}
use Rattle.tree_names.proofs.leaves.+resolving.Goals as goal

pub resolve_leaf-resolve_leaf-requires : goal.resolve_leaf-resolve_leaf-requires
resolve_leaf-resolve_leaf-requires g t c κs within =
    let less = present_below c.args.leaf.now c.in-Present.part c.in-Present.is in
    (omega (arith, less, c.decreases), (within, (c.requires.few, (c.requires.indexed, (c.requires.sized, (present_ready (map g.M.CoreSource.core_module c.args.cores.now) c.args.scopes.now c.args.leaf.now c.in-Present.part c.in-Present.is c.requires.ready, (present_front (map g.M.CoreSource.core_module c.args.cores.now) c.args.scopes.now c.args.reading.now.denotations.left.now c.args.leaf.now c.in-Present.part c.in-Present.is c.requires.kept, present_in_room (map g.M.CoreSource.core_module c.args.cores.now) c.args.scopes.now c.args.reading.now c.args.leaf.now c.in-Present.part c.in-Present.is c.requires.room)))))))

pub resolve_leaf-resolve_leaves-requires : goal.resolve_leaf-resolve_leaves-requires
resolve_leaf-resolve_leaves-requires g t c κs within =
    let less = node_below c.args.leaf.now c.in-Node.node c.in-Node.is in
    (omega (arith, less, c.decreases), (within, (c.requires.few, (c.requires.indexed, (c.requires.sized, (node_ready (map g.M.CoreSource.core_module c.args.cores.now) c.args.scopes.now c.args.leaf.now c.in-Node.node c.in-Node.is c.requires.ready, (in_node_front (map g.M.CoreSource.core_module c.args.cores.now) c.args.scopes.now c.args.reading.now.denotations.left.now c.args.leaf.now c.in-Node.node c.in-Node.is c.requires.kept, in_node_room (map g.M.CoreSource.core_module c.args.cores.now) c.args.scopes.now c.args.reading.now c.args.leaf.now c.in-Node.node c.in-Node.is c.requires.room)))))))

pub resolve_leaf-resolve_nodes-requires : goal.resolve_leaf-resolve_nodes-requires
resolve_leaf-resolve_nodes-requires g t c κs within =
    let less = nodes_below c.args.leaf.now c.in-Nodes.nodes c.in-Nodes.is in
    (omega (arith, less, c.decreases), (within, (c.requires.few, (c.requires.indexed, (c.requires.sized, (nodes_ready (map g.M.CoreSource.core_module c.args.cores.now) c.args.scopes.now c.args.leaf.now c.in-Nodes.nodes c.in-Nodes.is c.requires.ready, (in_nodes_front (map g.M.CoreSource.core_module c.args.cores.now) c.args.scopes.now c.args.reading.now.denotations.left.now c.args.leaf.now c.in-Nodes.nodes c.in-Nodes.is c.requires.kept, in_nodes_room (map g.M.CoreSource.core_module c.args.cores.now) c.args.scopes.now c.args.reading.now c.args.leaf.now c.in-Nodes.nodes c.in-Nodes.is c.requires.room)))))))

pub resolve_leaves-resolve_leaf-requires : goal.resolve_leaves-resolve_leaf-requires
resolve_leaves-resolve_leaf-requires g t c κs within =
    let left = drop_more c.args.leaves.now c.loop-leaf.leaf-index _ c.loop-leaf-test.true ∙ ap (λ z. z ∷ drop (c.loop-leaf.leaf-index + 1) c.args.leaves.now) (sym c.leaf-item.is) in
    let less = leaf_below c.args.leaves.now c.loop-leaf.leaf-index c.leaf-item.result c.loop-leaf-test.true c.leaf-item.is in
    (omega (arith, less, c.decreases), (within, (c.requires.few, (c.requires.indexed, (c.loop-leaf.invariant.0, (leaf_ready_at (map g.M.CoreSource.core_module c.args.cores.now) c.args.scopes.now c.args.leaves.now c.loop-leaf.leaf-index c.leaf-item.result c.requires.ready c.loop-leaf-test.true c.leaf-item.is, (leaf_front (map g.M.CoreSource.core_module c.args.cores.now) c.args.scopes.now c.loop-leaf.reading.denotations.left.now _ _ _ c.loop-leaf.invariant.2 left, leaf_in_room (map g.M.CoreSource.core_module c.args.cores.now) c.args.scopes.now c.loop-leaf.reading _ _ c.leaf-item.result left c.loop-leaf.invariant.3)))))))

pub resolve_nodes-resolve_leaves-requires : goal.resolve_nodes-resolve_leaves-requires
resolve_nodes-resolve_leaves-requires g t c κs within =
    let left = drop_more c.args.nodes.now c.loop-node.node-index _ c.loop-node-test.true in
    (leaves_fall c.args.nodes.now c.loop-node.node-index _ t c.decreases c.loop-node-test.true, (within, (c.requires.few, (c.requires.indexed, (c.loop-node.invariant.0, (node_ready_at (map g.M.CoreSource.core_module c.args.cores.now) c.args.scopes.now c.args.nodes.now c.loop-node.node-index _ c.requires.ready c.loop-node-test.true, (node_front (map g.M.CoreSource.core_module c.args.cores.now) c.args.scopes.now c.loop-node.reading.denotations.left.now _ _ _ c.loop-node.invariant.2 left, node_in_room (map g.M.CoreSource.core_module c.args.cores.now) c.args.scopes.now c.loop-node.reading _ _ _ left c.loop-node.invariant.3)))))))

pub resolve_leaf-returns-in-Ok : goal.resolve_leaf-returns-in-Ok
resolve_leaf-returns-in-Ok g t c = same_read g.M.CoreRule.encoding c.args.scopes.now _ _ _ _ _ _ (ap (leaf_of (map g.M.CoreSource.core_module c.args.cores.now)) c.in-CoreValue.is) refl (c.in-Ok.ensures g.M.CoreRule.encoding)

pub resolve_leaf-returns-in-Err : goal.resolve_leaf-returns-in-Err
resolve_leaf-returns-in-Err g t c = same_refused g.M.CoreRule.encoding c.args.scopes.now _ _ _ (ap (leaf_of (map g.M.CoreSource.core_module c.args.cores.now)) c.in-CoreValue.is) (c.in-Err.ensures g.M.CoreRule.encoding)

pub resolve_leaf-returns-in-Numeral : goal.resolve_leaf-returns-in-Numeral
resolve_leaf-returns-in-Numeral g t c =
    let l = ap (leaf_of (map g.M.CoreSource.core_module c.args.cores.now)) c.in-Numeral.is in
    same_read g.M.CoreRule.encoding c.args.scopes.now _ _ _ _ _ _ l l (c.pass_numeral.ensures g.M.CoreRule.encoding c.args.scopes.now _ _ _)

pub resolve_leaf-returns-in-Ok-resolve_named : goal.resolve_leaf-returns-in-Ok-resolve_named
resolve_leaf-returns-in-Ok-resolve_named g t c = same_read g.M.CoreRule.encoding c.args.scopes.now _ _ _ _ _ _ (ap (leaf_of (map g.M.CoreSource.core_module c.args.cores.now)) c.in-Name.is) refl (c.in-Ok-resolve_named.ensures g.M.CoreRule.encoding _)

pub resolve_leaf-returns-in-Err-resolve_named : goal.resolve_leaf-returns-in-Err-resolve_named
resolve_leaf-returns-in-Err-resolve_named g t c = same_refused g.M.CoreRule.encoding c.args.scopes.now _ _ _ (ap (leaf_of (map g.M.CoreSource.core_module c.args.cores.now)) c.in-Name.is) (c.in-Err-resolve_named.ensures g.M.CoreRule.encoding 0)

pub resolve_leaf-returns-in-Ok-resolve_path : goal.resolve_leaf-returns-in-Ok-resolve_path
resolve_leaf-returns-in-Ok-resolve_path g t c = same_read g.M.CoreRule.encoding c.args.scopes.now _ _ _ _ _ _ (ap (leaf_of (map g.M.CoreSource.core_module c.args.cores.now)) c.in-Path.is) refl (c.in-Ok-resolve_path.ensures g.M.CoreRule.encoding _)

pub resolve_leaf-returns-in-Err-resolve_path : goal.resolve_leaf-returns-in-Err-resolve_path
resolve_leaf-returns-in-Err-resolve_path g t c = same_refused g.M.CoreRule.encoding c.args.scopes.now _ _ _ (ap (leaf_of (map g.M.CoreSource.core_module c.args.cores.now)) c.in-Path.is) (c.in-Err-resolve_path.ensures g.M.CoreRule.encoding 0)

pub resolve_leaf-returns-in-Ok-place-2 : goal.resolve_leaf-returns-in-Ok-place-2
resolve_leaf-returns-in-Ok-place-2 g t c = same_read g.M.CoreRule.encoding c.args.scopes.now _ _ _ _ _ _ (ap (leaf_of (map g.M.CoreSource.core_module c.args.cores.now)) c.in-Present.is ∙ leaf_present (map g.M.CoreSource.core_module c.args.cores.now) c.in-Present.part) (leaf_present (map g.M.CoreSource.core_module c.args.cores.now) c.in-Ok-place-2.placed ∙ ap (λ z. m.present (leaf_of (map g.M.CoreSource.core_module c.args.cores.now) z)) c.in-Ok-place-2.ensures) (present_read g.M.CoreRule.encoding c.args.scopes.now _ _ _ _ c.in-Ok-resolve_leaf.ensures)

pub resolve_leaf-returns-in-Ok-place-3 : goal.resolve_leaf-returns-in-Ok-place-3
resolve_leaf-returns-in-Ok-place-3 g t c = same_read g.M.CoreRule.encoding c.args.scopes.now _ _ _ _ _ _ (ap (leaf_of (map g.M.CoreSource.core_module c.args.cores.now)) c.in-Node.is ∙ leaf_node (map g.M.CoreSource.core_module c.args.cores.now) c.in-Node.node) (leaf_node (map g.M.CoreSource.core_module c.args.cores.now) c.in-Ok-place-3.placed ∙ ap (λ z. m.node (node_of (map g.M.CoreSource.core_module c.args.cores.now) z)) c.in-Ok-place-3.ensures) (node_read g.M.CoreRule.encoding c.args.scopes.now _ _ _ _ _ c.in-Ok-resolve_leaves.ensures)

pub resolve_leaf-returns-in-Err-resolve_leaves : goal.resolve_leaf-returns-in-Err-resolve_leaves
resolve_leaf-returns-in-Err-resolve_leaves g t c = same_refused g.M.CoreRule.encoding c.args.scopes.now _ _ _ (ap (leaf_of (map g.M.CoreSource.core_module c.args.cores.now)) c.in-Node.is ∙ leaf_node (map g.M.CoreSource.core_module c.args.cores.now) c.in-Node.node) c.in-Err-resolve_leaves.ensures

pub resolve_leaf-returns-in-Ok-resolve_nodes : goal.resolve_leaf-returns-in-Ok-resolve_nodes
resolve_leaf-returns-in-Ok-resolve_nodes g t c = same_read g.M.CoreRule.encoding c.args.scopes.now _ _ _ _ _ _ (ap (leaf_of (map g.M.CoreSource.core_module c.args.cores.now)) c.in-Nodes.is ∙ leaf_nodes (map g.M.CoreSource.core_module c.args.cores.now) c.in-Nodes.nodes) (leaf_nodes (map g.M.CoreSource.core_module c.args.cores.now) c.in-Ok-resolve_nodes.nodes) (nodes_read g.M.CoreRule.encoding c.args.scopes.now _ _ _ _ c.in-Ok-resolve_nodes.ensures)

pub resolve_leaf-returns-in-Err-resolve_nodes : goal.resolve_leaf-returns-in-Err-resolve_nodes
resolve_leaf-returns-in-Err-resolve_nodes g t c = same_refused g.M.CoreRule.encoding c.args.scopes.now _ _ _ (ap (leaf_of (map g.M.CoreSource.core_module c.args.cores.now)) c.in-Nodes.is ∙ leaf_nodes (map g.M.CoreSource.core_module c.args.cores.now) c.in-Nodes.nodes) c.in-Err-resolve_nodes.ensures

pub resolve_leaf-returns-in-Ok-check_core : goal.resolve_leaf-returns-in-Ok-check_core
resolve_leaf-returns-in-Ok-check_core g t c = core_is_read g.M.CoreRule.encoding c.args.scopes.now (map g.M.CoreSource.core_module c.args.cores.now) _ _ _ c.requires.sized (ap (leaf_of (map g.M.CoreSource.core_module c.args.cores.now)) c.in-Core.is) c.in-Ok-check_core.ensures

pub resolve_leaf-returns-in-Text : goal.resolve_leaf-returns-in-Text
resolve_leaf-returns-in-Text g t c =
    kept_read g.M.CoreRule.encoding c.args.scopes.now c.args.reading.now _ _ (ap (leaf_of (map g.M.CoreSource.core_module c.args.cores.now)) c.in-Text.is)
    (record { past = read_none c.args.reading.now c.requires.sized; resolved = tt; here = λ ms c more w f. refl })

pub resolve_leaf-returns-in-Pieces : goal.resolve_leaf-returns-in-Pieces
resolve_leaf-returns-in-Pieces g t c =
    kept_read g.M.CoreRule.encoding c.args.scopes.now c.args.reading.now _ _ (ap (leaf_of (map g.M.CoreSource.core_module c.args.cores.now)) c.in-Pieces.is)
    (record { past = read_none c.args.reading.now c.requires.sized; resolved = tt; here = λ ms c more w f. refl })

pub resolve_leaf-returns-in-Number : goal.resolve_leaf-returns-in-Number
resolve_leaf-returns-in-Number g t c =
    kept_read g.M.CoreRule.encoding c.args.scopes.now c.args.reading.now _ _ (ap (leaf_of (map g.M.CoreSource.core_module c.args.cores.now)) c.in-Number.is)
    (record { past = read_none c.args.reading.now c.requires.sized; resolved = tt; here = λ ms c more w f. refl })

pub resolve_leaf-returns-in-Kind : goal.resolve_leaf-returns-in-Kind
resolve_leaf-returns-in-Kind g t c =
    kept_read g.M.CoreRule.encoding c.args.scopes.now c.args.reading.now _ _ (ap (leaf_of (map g.M.CoreSource.core_module c.args.cores.now)) c.in-Kind.is)
    (record { past = read_none c.args.reading.now c.requires.sized; resolved = tt; here = λ ms c more w f. refl })

pub resolve_leaf-returns-in-Absent : goal.resolve_leaf-returns-in-Absent
resolve_leaf-returns-in-Absent g t c =
    kept_read g.M.CoreRule.encoding c.args.scopes.now c.args.reading.now _ _ (ap (leaf_of (map g.M.CoreSource.core_module c.args.cores.now)) c.in-Absent.is)
    (record { past = read_none c.args.reading.now c.requires.sized; resolved = tt; here = λ ms c more w f. refl })

pub resolve_leaf-returns-in-CaseId : goal.resolve_leaf-returns-in-CaseId
resolve_leaf-returns-in-CaseId g t c =
    kept_read g.M.CoreRule.encoding c.args.scopes.now c.args.reading.now _ _ (ap (leaf_of (map g.M.CoreSource.core_module c.args.cores.now)) c.in-CaseId.is)
    (record { past = read_none c.args.reading.now c.requires.sized; resolved = tt; here = λ ms c more w f. refl })

pub resolve_leaf-returns-in-Results : goal.resolve_leaf-returns-in-Results
resolve_leaf-returns-in-Results g t c =
    kept_read g.M.CoreRule.encoding c.args.scopes.now c.args.reading.now _ _ (ap (leaf_of (map g.M.CoreSource.core_module c.args.cores.now)) c.in-Results.is)
    (record { past = read_none c.args.reading.now c.requires.sized; resolved = tt; here = λ ms c more w f. refl })

pub resolve_leaves-loop-leaf-preserved : goal.resolve_leaves-loop-leaf-preserved
resolve_leaves-loop-leaf-preserved g t c =
    let left = drop_more c.args.leaves.now c.loop-leaf.leaf-index _ c.loop-leaf-test.true ∙ ap (λ z. z ∷ drop (c.loop-leaf.leaf-index + 1) c.args.leaves.now) (sym c.leaf-item.is) in
    (c.in-Ok.ensures.past.sized, leaf_was_read g.M.CoreRule.encoding (map g.M.CoreSource.core_module c.args.cores.now) c.args.scopes.now _ _ _ _ _ _ _ _ _ _ c.loop-leaf.invariant.1 left c.in-Ok-push.ensures.items c.in-Ok.ensures, leaf_passed (map g.M.CoreSource.core_module c.args.cores.now) c.args.scopes.now c.loop-leaf.reading.denotations.left.now _ _ _ _ c.loop-leaf.invariant.2 left c.in-Ok.ensures.past.taken, leaves_in_room (map g.M.CoreSource.core_module c.args.cores.now) c.args.scopes.now g.M.CoreRule.encoding c.loop-leaf.reading _ _ _ c.leaf-item.result _ left c.in-Ok.ensures c.loop-leaf.invariant.3)

pub resolve_leaves-returns-in-Err : goal.resolve_leaves-returns-in-Err
resolve_leaves-returns-in-Err g t c = leaf_was_refused g.M.CoreRule.encoding (map g.M.CoreSource.core_module c.args.cores.now) c.args.scopes.now _ _ _ _ _ _ _ _ c.loop-leaf.invariant.1 (drop_more c.args.leaves.now c.loop-leaf.leaf-index _ c.loop-leaf-test.true ∙ ap (λ z. z ∷ drop (c.loop-leaf.leaf-index + 1) c.args.leaves.now) (sym c.leaf-item.is)) c.in-Err.ensures

pub resolve_leaves-returns-in-Ok-place_all : goal.resolve_leaves-returns-in-Ok-place_all
resolve_leaves-returns-in-Ok-place_all g t c = leaves_were_read g.M.CoreRule.encoding (map g.M.CoreSource.core_module c.args.cores.now) c.args.scopes.now _ _ _ _ _ _ c.loop-leaf.invariant.1 c.loop-leaf.invariant.0 (drop_of_length-le c.args.leaves.now c.loop-leaf-test.false) (c.in-Ok-place_all.ensures ∙ c.deref.ensures.value)

pub resolve_nodes-loop-node-init : goal.resolve_nodes-loop-node-init
resolve_nodes-loop-node-init g t c = (c.requires.sized, subst (λ z. NodesToRead g.M.CoreRule.encoding (map g.M.CoreSource.core_module c.args.cores.now) c.args.scopes.now c.no_cases-cases.result c.args.reading.now c.args.reading.now c.args.nodes.now c.args.nodes.now z) (sym c.new-all.ensures.items) (nodes_to_read g.M.CoreRule.encoding (map g.M.CoreSource.core_module c.args.cores.now) c.args.scopes.now c.no_cases-cases.result c.args.reading.now c.args.nodes.now c.no_cases-cases.ensures), c.requires.kept, c.requires.room)

pub resolve_nodes-loop-node-preserved : goal.resolve_nodes-loop-node-preserved
resolve_nodes-loop-node-preserved g t c =
    let left = drop_more c.args.nodes.now c.loop-node.node-index _ c.loop-node-test.true in
    (c.in-Ok-resolve_leaves.ensures.past.sized, node_was_read g.M.CoreRule.encoding (map g.M.CoreSource.core_module c.args.cores.now) c.args.scopes.now c.loop-node.cases c.keep_case.new.cases _ _ _ _ _ _ _ _ _ _ c.loop-node.invariant.1 left c.in-Ok-push.ensures.items refl (λ earlier h. c.in-Ok.ensures (map g.M.CoreSource.core_module c.args.cores.now) earlier h) c.in-Ok-resolve_leaves.ensures (λ earlier h. c.in-Ok-keep_case.ensures.kept (map g.M.CoreSource.core_module c.args.cores.now) earlier h), node_passed (map g.M.CoreSource.core_module c.args.cores.now) c.args.scopes.now c.loop-node.reading.denotations.left.now _ _ _ _ c.loop-node.invariant.2 left c.in-Ok-resolve_leaves.ensures.past.taken, nodes_in_room (map g.M.CoreSource.core_module c.args.cores.now) c.args.scopes.now g.M.CoreRule.encoding c.loop-node.reading _ _ _ _ _ left c.in-Ok-resolve_leaves.ensures c.loop-node.invariant.3)

pub resolve_nodes-returns-in-Err : goal.resolve_nodes-returns-in-Err
resolve_nodes-returns-in-Err g t c = case_was_refused g.M.CoreRule.encoding (map g.M.CoreSource.core_module c.args.cores.now) c.args.scopes.now c.loop-node.cases _ _ _ _ _ _ _ _ c.loop-node.invariant.1 (drop_more c.args.nodes.now c.loop-node.node-index _ c.loop-node-test.true) (λ earlier h. c.in-Err.ensures (map g.M.CoreSource.core_module c.args.cores.now) earlier h)

pub resolve_nodes-returns-in-Err-resolve_leaves : goal.resolve_nodes-returns-in-Err-resolve_leaves
resolve_nodes-returns-in-Err-resolve_leaves g t c = node_was_refused g.M.CoreRule.encoding (map g.M.CoreSource.core_module c.args.cores.now) c.args.scopes.now c.loop-node.cases _ _ _ _ _ _ _ _ c.loop-node.invariant.1 (drop_more c.args.nodes.now c.loop-node.node-index _ c.loop-node-test.true) (λ earlier h. c.in-Ok.ensures (map g.M.CoreSource.core_module c.args.cores.now) earlier h) c.in-Err-resolve_leaves.ensures

pub resolve_nodes-returns-in-Ok-place_all : goal.resolve_nodes-returns-in-Ok-place_all
resolve_nodes-returns-in-Ok-place_all g t c = nodes_were_read g.M.CoreRule.encoding (map g.M.CoreSource.core_module c.args.cores.now) c.args.scopes.now c.loop-node.cases _ _ _ _ _ _ c.loop-node.invariant.1 c.loop-node.invariant.0 (drop_of_length-le c.args.nodes.now c.loop-node-test.false) (c.in-Ok-place_all.ensures ∙ c.deref.ensures.value)
