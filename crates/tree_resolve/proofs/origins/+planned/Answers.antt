use Rattle.std.proofs.Common.{◌∙◌, sym, ap, refl}
use Rattle.std.proofs.lemmas.List.{drop_all}
use Rattle.comp_tree.specs.OriginMarks.{held_without_places, inside_by, marks_after, marks_of_items, without_places}
use Rattle.comp_tree.specs.declared.tree.Scope.{out-Scope}
use Rattle.comp_tree.proofs.Outcomes.{of-ok}
use Rattle.tree_resolve.specs.Planned.{section_mark, planned_in, planned_listed, planned_nodes, planned_defs}
use Rattle.tree_resolve.proofs.Planned.{planned-node, planned-nodes}
use Rattle.tree_resolve.proofs.PlannedMarks.{planned_turn, planned_whole, scope_there, past_scopeless}
use Rattle.tree_resolve.proofs.origins.+planned.Goals as goal

pub leaf_plan-returns-in-Present : goal.leaf_plan-returns-in-Present
leaf_plan-returns-in-Present t c = λ C. of-ok _ _ c.leaf_plan.result (λ a h. h ∙ ap held_without_places (sym (ap (planned_in C) c.in-Present.is))) (c.leaf_plan.ensures C)

pub leaf_plan-returns-in-Node : goal.leaf_plan-returns-in-Node
leaf_plan-returns-in-Node t c = λ C. of-ok _ _ c.leaves_plan.result (λ a h. h ∙ ap held_without_places (sym (ap (planned_in C) c.in-Node.is ∙ planned-node C c.in-Node.node))) (c.leaves_plan.ensures C)

pub leaf_plan-returns-in-Nodes : goal.leaf_plan-returns-in-Nodes
leaf_plan-returns-in-Nodes t c = λ C. of-ok _ _ c.nodes_plan.result (λ a h. h ∙ ap held_without_places (sym (ap (planned_in C) c.in-Nodes.is ∙ planned-nodes C c.in-Nodes.nodes))) (c.nodes_plan.ensures C)

pub scope_plan-loop-def-preserved : goal.scope_plan-loop-def-preserved
scope_plan-loop-def-preserved t c = λ C more.
    let defs = (out-Scope c.args.scope.now).defs.now in
    planned_turn C more c.loop-def.items.items c.push.new.self.items c.bare.result defs c.loop-def.def-index c.def-item.result (inside_by c.in_ok-inner.inner) (without_places (planned_defs C more defs)) c.loop-def-test.true c.def-item.is c.in_ok-push.ensures.items c.bare.ensures (c.in_ok-inner.ensures C) (c.loop-def.invariant C more)

pub leaves_plan-returns-in-Ok-Some : goal.leaves_plan-returns-in-Ok-Some
leaves_plan-returns-in-Ok-Some t c = λ C. scope_there (planned_listed C) (planned_in C) (λ x xs. refl) c.args.leaves.now c.loop-leaf.leaf-index c.leaf-item.result c.loop-leaf-test.true (c.loop-leaf.invariant C) _ (ap inside_by (sym c.in-Ok-Some.field-0-is) ∙ c.in-Ok-Some.ensures C ∙ ap (λ q. held_without_places (planned_in C q)) c.leaf-item.is)

pub leaves_plan-loop-leaf-preserved : goal.leaves_plan-loop-leaf-preserved
leaves_plan-loop-leaf-preserved t c = λ C. past_scopeless (planned_listed C) (planned_in C) (λ x xs. refl) c.args.leaves.now c.loop-leaf.leaf-index c.leaf-item.result c.loop-leaf-test.true (c.loop-leaf.invariant C) (ap inside_by (sym c.in-Ok-None.field-0-is) ∙ c.in-Ok-None.ensures C ∙ ap (λ q. held_without_places (planned_in C q)) c.leaf-item.is)

pub nodes_plan-returns-in-Ok-Some : goal.nodes_plan-returns-in-Ok-Some
nodes_plan-returns-in-Ok-Some t c = λ C. scope_there (planned_nodes C) (λ n. planned_listed C n.leaves.now) (λ x xs. refl) c.args.nodes.now c.loop-node.node-index _ c.loop-node-test.true (c.loop-node.invariant C) _ (ap inside_by (sym c.in-Ok-Some.field-0-is) ∙ c.in-Ok-Some.ensures C)

pub nodes_plan-loop-node-preserved : goal.nodes_plan-loop-node-preserved
nodes_plan-loop-node-preserved t c = λ C. past_scopeless (planned_nodes C) (λ n. planned_listed C n.leaves.now) (λ x xs. refl) c.args.nodes.now c.loop-node.node-index _ c.loop-node-test.true (c.loop-node.invariant C) (ap inside_by (sym c.in-Ok-None.field-0-is) ∙ c.in-Ok-None.ensures C)

pub scope_plan-returns : goal.scope_plan-returns
scope_plan-returns t c = λ C.
    let defs = (out-Scope c.args.scope.now).defs.now in
    let due = c.in_ok-needs_section.field-0 in
    c.origins_of_items.ensures
    ∙ c.in_ok-push_section.ensures
    ∙ ap (λ q. marks_after (marks_of_items c.loop-def.items.items) (without_places (planned_defs C (section_mark due) q))) (sym (drop_all c.loop-def.def-index defs c.loop-def-test.false))
    ∙ c.loop-def.invariant C (section_mark due)
    ∙ ap without_places (planned_whole C c.args.scope.now due (c.in_ok-needs_section.ensures C))
