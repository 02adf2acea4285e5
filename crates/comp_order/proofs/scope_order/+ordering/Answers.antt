use Rattle.std.proofs.Common.{sym, ap, ◌∙◌, ◌∷◌, map, drop, ◌+◌}
use Rattle.std.proofs.lemmas.List.{drop_all}
use Rattle.comp_list.specs.References.{references, outer_count}
use Rattle.wire_tree.specs.Lists.{listed, defs_listed}
use Rattle.wire_tree.specs.Model.{leaf_of}
use Rattle.comp_list.proofs.DefSpots.{drop_item}
use Rattle.comp_order.specs.Counts.{capped}
use Rattle.comp_order.specs.Order.{leaf_verdicts, leaves_verdicts, verdict_of}
use Rattle.comp_order.specs.Pass.{pass}
use Rattle.comp_order.proofs.Parts.{node_held, nodes_held, scope_held, held_passed, held_stopped}
use Rattle.comp_order.proofs.Passing.{passed_on, stopped}
use Rattle.comp_order.proofs.Walking.{begun, node_next, turn_on, turn_off, walked_all}
use Rattle.comp_order.proofs.scope_order.+ordering.Goals as goal

pub pass_held-returns-in-Scope : goal.pass_held-returns-in-Scope
pass_held-returns-in-Scope t c = λ befores a. c.pass_defs.ensures befores a ∙ ap (pass c.args.line) (sym (scope_held befores _ _ c.in-Scope.is))

pub pass_held-returns-in-Node : goal.pass_held-returns-in-Node
pass_held-returns-in-Node t c = λ befores a. c.pass_held_in.ensures befores a ∙ ap (pass c.args.line) (sym (node_held befores _ _ c.in-Node.is))

pub pass_held-returns-in-Nodes : goal.pass_held-returns-in-Nodes
pass_held-returns-in-Nodes t c = λ befores a. c.pass_held_in_nodes.ensures befores a ∙ ap (pass c.args.line) (sym (nodes_held befores _ _ c.in-Nodes.is))

pub pass_held_in-loop-leaf-preserved : goal.pass_held_in-loop-leaf-preserved
pass_held_in-loop-leaf-preserved t c = λ befores a.
    passed_on c.loop-leaf.next c.in-Ok.line (leaf_verdicts (leaf_of c.leaf-item.result) befores) (leaves_verdicts (listed (drop (c.loop-leaf.leaf-index + 1) c.args.leaves.now)) befores) (c.in-Ok.ensures befores a)
    ∙ ap (λ q. pass c.loop-leaf.next (leaves_verdicts (listed q) befores)) (sym (drop_item c.args.leaves.now c.loop-leaf.leaf-index c.leaf-item.result c.loop-leaf-test.true c.leaf-item.is))
    ∙ c.loop-leaf.invariant befores a

pub pass_held_in-returns-in-Err : goal.pass_held_in-returns-in-Err
pass_held_in-returns-in-Err t c = λ befores a.
    stopped c.loop-leaf.next c.in-Err.order (leaf_verdicts (leaf_of c.leaf-item.result) befores) (leaves_verdicts (listed (drop (c.loop-leaf.leaf-index + 1) c.args.leaves.now)) befores) (c.in-Err.ensures befores a)
    ∙ ap (λ q. pass c.loop-leaf.next (leaves_verdicts (listed q) befores)) (sym (drop_item c.args.leaves.now c.loop-leaf.leaf-index c.leaf-item.result c.loop-leaf-test.true c.leaf-item.is))
    ∙ c.loop-leaf.invariant befores a

pub pass_held_in_nodes-loop-node-preserved : goal.pass_held_in_nodes-loop-node-preserved
pass_held_in_nodes-loop-node-preserved t c = λ befores a.
    held_passed befores c.args.nodes.now c.loop-node.node-index _ c.loop-node.next c.loop-node-test.true c.in-Ok.line (c.in-Ok.ensures befores a) ∙ c.loop-node.invariant befores a

pub pass_held_in_nodes-returns-in-Err : goal.pass_held_in_nodes-returns-in-Err
pass_held_in_nodes-returns-in-Err t c = λ befores a.
    held_stopped befores c.args.nodes.now c.loop-node.node-index _ c.loop-node.next c.loop-node-test.true c.in-Err.order (c.in-Err.ensures befores a) ∙ c.loop-node.invariant befores a

pub pass_def-returns-in-Err : goal.pass_def-returns-in-Err
pass_def-returns-in-Err t c = λ before befores h a.
    let tag = c.args.node.now.row in
    let ls = listed c.args.node.now.leaves.now in
    stopped c.args.line c.in-Err.order (map (verdict_of befores before tag ls (outer_count tag ls)) (references ls)) (leaves_verdicts ls (before ∷ befores)) (c.in-Err.ensures before befores h a)

pub pass_def-returns : goal.pass_def-returns
pass_def-returns t c = λ before befores h a.
    let tag = c.args.node.now.row in
    let ls = listed c.args.node.now.leaves.now in
    c.pass_held_in.ensures (before ∷ befores) (h, a)
    ∙ passed_on c.args.line c.in-Ok.line (map (verdict_of befores before tag ls (outer_count tag ls)) (references ls)) (leaves_verdicts ls (before ∷ befores)) (c.in-Ok.ensures before befores h a)

pub pass_defs-loop-node-init : goal.pass_defs-loop-node-init
pass_defs-loop-node-init t c = λ befores a. begun befores c.args.line (defs_listed c.args.defs.now) c.none-counts.result (λ s. ap capped (c.none-counts.ensures s))

pub pass_defs-loop-node-preserved : goal.pass_defs-loop-node-preserved
pass_defs-loop-node-preserved t c = λ befores a.
    let s = node_next befores c.args.line (defs_listed c.args.defs.now) c.loop-node.counts c.loop-node.next c.args.defs.now c.loop-node.node-index _ c.loop-node-test.true (c.loop-node.invariant befores a) in
    turn_on befores c.args.line (defs_listed c.args.defs.now) c.loop-node.counts c.loop-node.next _ _ s c.add_def.new.self c.in-Ok.line c.add_def.ensures (c.in-Ok.ensures s.before befores s.counted a)

pub pass_defs-returns-in-Err : goal.pass_defs-returns-in-Err
pass_defs-returns-in-Err t c = λ befores a.
    let s = node_next befores c.args.line (defs_listed c.args.defs.now) c.loop-node.counts c.loop-node.next c.args.defs.now c.loop-node.node-index _ c.loop-node-test.true (c.loop-node.invariant befores a) in
    turn_off befores c.args.line (defs_listed c.args.defs.now) c.loop-node.counts c.loop-node.next _ _ s c.in-Err.order (c.in-Err.ensures s.before befores s.counted a)

pub pass_defs-returns : goal.pass_defs-returns
pass_defs-returns t c = λ befores a.
    walked_all befores c.args.line (defs_listed c.args.defs.now) _ c.loop-node.counts c.loop-node.next (ap defs_listed (drop_all c.loop-node.node-index c.args.defs.now c.loop-node-test.false)) (c.loop-node.invariant befores a)
