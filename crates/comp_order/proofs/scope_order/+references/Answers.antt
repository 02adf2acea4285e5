use Rattle.std.proofs.Common.{sym, ap, ◌∙◌, map, drop, ◌+◌}
use Rattle.std.proofs.lemmas.List.{drop_all}
use Rattle.wire_tree.specs.Lists.{listed, nodes_listed}
use Rattle.wire_tree.specs.Model.{leaf_of}
use Rattle.comp_list.specs.References.{references, leaf_references, node_references}
use Rattle.comp_list.proofs.Parts.{node_found, nodes_found}
use Rattle.comp_list.proofs.DefSpots.{drop_item}
use Rattle.comp_order.specs.Order.{verdict_of}
use Rattle.comp_order.specs.Pass.{pass}
use Rattle.comp_order.proofs.Parts.{node_passed, node_stopped}
use Rattle.comp_order.proofs.Passing.{passed_more, stopped_more}
use Rattle.comp_order.proofs.scope_order.+references.Goals as goal

pub pass_leaf-returns-in-CoreValue : goal.pass_leaf-returns-in-CoreValue
pass_leaf-returns-in-CoreValue t c = λ before befores tag ls h o a.
    c.pass_some-in-CoreValue.ensures before befores tag ls h o a
    ∙ ap (λ q. pass c.args.line (map (verdict_of befores before tag ls c.args.judge.now.up) q)) (c.value_reference.ensures ∙ sym (ap (λ y. leaf_references (leaf_of y)) c.in-CoreValue.is))

pub pass_leaf-returns-in-Present : goal.pass_leaf-returns-in-Present
pass_leaf-returns-in-Present t c = λ before befores tag ls h o a.
    c.pass_leaf.ensures before befores tag ls h o a
    ∙ ap (λ q. pass c.args.line (map (verdict_of befores before tag ls c.args.judge.now.up) q)) (sym (ap (λ y. leaf_references (leaf_of y)) c.in-Present.is))

pub pass_leaf-returns-in-Node : goal.pass_leaf-returns-in-Node
pass_leaf-returns-in-Node t c = λ before befores tag ls h o a. c.pass_leaves.ensures before befores tag ls h o a ∙ ap (λ q. pass c.args.line (map (verdict_of befores before tag ls c.args.judge.now.up) q)) (sym (node_found _ _ c.in-Node.is))

pub pass_leaf-returns-in-Nodes : goal.pass_leaf-returns-in-Nodes
pass_leaf-returns-in-Nodes t c = λ before befores tag ls h o a. c.pass_nodes.ensures before befores tag ls h o a ∙ ap (λ q. pass c.args.line (map (verdict_of befores before tag ls c.args.judge.now.up) q)) (sym (nodes_found _ _ c.in-Nodes.is))

pub pass_leaves-loop-leaf-preserved : goal.pass_leaves-loop-leaf-preserved
pass_leaves-loop-leaf-preserved t c = λ before befores tag ls h o a.
    passed_more (verdict_of befores before tag ls c.args.judge.now.up) c.loop-leaf.next c.in-Ok.line (leaf_references (leaf_of c.leaf-item.result)) (references (listed (drop (c.loop-leaf.leaf-index + 1) c.args.leaves.now))) (c.in-Ok.ensures before befores tag ls h o a)
    ∙ ap (λ q. pass c.loop-leaf.next (map (verdict_of befores before tag ls c.args.judge.now.up) (references (listed q)))) (sym (drop_item c.args.leaves.now c.loop-leaf.leaf-index c.leaf-item.result c.loop-leaf-test.true c.leaf-item.is))
    ∙ c.loop-leaf.invariant before befores tag ls h o a

pub pass_leaves-returns-in-Err : goal.pass_leaves-returns-in-Err
pass_leaves-returns-in-Err t c = λ before befores tag ls h o a.
    stopped_more (verdict_of befores before tag ls c.args.judge.now.up) c.loop-leaf.next c.in-Err.order (leaf_references (leaf_of c.leaf-item.result)) (references (listed (drop (c.loop-leaf.leaf-index + 1) c.args.leaves.now))) (c.in-Err.ensures before befores tag ls h o a)
    ∙ ap (λ q. pass c.loop-leaf.next (map (verdict_of befores before tag ls c.args.judge.now.up) (references (listed q)))) (sym (drop_item c.args.leaves.now c.loop-leaf.leaf-index c.leaf-item.result c.loop-leaf-test.true c.leaf-item.is))
    ∙ c.loop-leaf.invariant before befores tag ls h o a

pub pass_nodes-loop-node-preserved : goal.pass_nodes-loop-node-preserved
pass_nodes-loop-node-preserved t c = λ before befores tag ls h o a.
    node_passed (verdict_of befores before tag ls c.args.judge.now.up) c.args.nodes.now c.loop-node.node-index _ c.loop-node.next c.loop-node-test.true c.in-Ok.line (c.in-Ok.ensures before befores tag ls h o a)
    ∙ c.loop-node.invariant before befores tag ls h o a

pub pass_nodes-returns-in-Err : goal.pass_nodes-returns-in-Err
pass_nodes-returns-in-Err t c = λ before befores tag ls h o a.
    node_stopped (verdict_of befores before tag ls c.args.judge.now.up) c.args.nodes.now c.loop-node.node-index _ c.loop-node.next c.loop-node-test.true c.in-Err.order (c.in-Err.ensures before befores tag ls h o a)
    ∙ c.loop-node.invariant before befores tag ls h o a

pub pass_leaves-returns : goal.pass_leaves-returns
pass_leaves-returns t c = λ before befores tag ls h o a.
    sym (ap (λ q. pass c.loop-leaf.next (map (verdict_of befores before tag ls c.args.judge.now.up) (references (listed q)))) (drop_all c.loop-leaf.leaf-index c.args.leaves.now c.loop-leaf-test.false))
    ∙ c.loop-leaf.invariant before befores tag ls h o a

pub pass_nodes-returns : goal.pass_nodes-returns
pass_nodes-returns t c = λ before befores tag ls h o a.
    sym (ap (λ q. pass c.loop-node.next (map (verdict_of befores before tag ls c.args.judge.now.up) (node_references (nodes_listed q)))) (drop_all c.loop-node.node-index c.args.nodes.now c.loop-node-test.false))
    ∙ c.loop-node.invariant before befores tag ls h o a
