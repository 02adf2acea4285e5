use Rattle.std.proofs.Common.{ap, ◌∙◌, ◌∷◌, map}
use Rattle.std.proofs.lemmas.List.{drop_all}
use Rattle.item_tree.specs.Model.{item_row, defs_listed}
use Rattle.comp_list.specs.Places.{row_leaves, row_references}
use Rattle.comp_order.specs.Counts.{capped}
use Rattle.comp_order.specs.Order.{leaves_verdicts}
use Rattle.comp_order.specs.Rows.{row_verdict}
use Rattle.comp_order.specs.Pass.{pass}
use Rattle.comp_order.proofs.Held.{tree_verdicts, component_held, module_type_held, component_type_held, instance_type_held}
use Rattle.comp_order.proofs.Passing.{passed_on, stopped}
use Rattle.comp_order.proofs.Walking.{begun, item_next, turn_on, turn_off, walked_all}
use Rattle.comp_order.proofs.tree_order.+trees.Goals as goal

pub pass_core_type-returns-in-Module : goal.pass_core_type-returns-in-Module
pass_core_type-returns-in-Module t c = λ befores a.
    c.pass_items.ensures befores a
    ∙ ap (λ ds. pass c.args.line (tree_verdicts ds befores)) c.as_slice.ensures.same_items
    ∙ ap (pass c.args.line) (module_type_held befores c.in-Module.tree c.args.ty.now c.in-Module.is)

pub pass_held-returns-in-Component : goal.pass_held-returns-in-Component
pass_held-returns-in-Component t c = λ befores a.
    c.pass_items.ensures befores a
    ∙ ap (λ ds. pass c.args.line (tree_verdicts ds befores)) c.as_slice.ensures.same_items
    ∙ ap (pass c.args.line) (component_held befores c.in-Component.tree c.args.item.now c.in-Component.is)

pub pass_type-returns-in-Component : goal.pass_type-returns-in-Component
pass_type-returns-in-Component t c = λ befores a.
    c.pass_items.ensures befores a
    ∙ ap (λ ds. pass c.args.line (tree_verdicts ds befores)) c.as_slice.ensures.same_items
    ∙ ap (pass c.args.line) (component_type_held befores c.in-Component.tree c.args.ty.now c.in-Component.is)

pub pass_type-returns-in-Instance : goal.pass_type-returns-in-Instance
pass_type-returns-in-Instance t c = λ befores a.
    c.pass_items-in-Instance.ensures befores a
    ∙ ap (λ ds. pass c.args.line (tree_verdicts ds befores)) c.as_slice-in-Instance.ensures.same_items
    ∙ ap (pass c.args.line) (instance_type_held befores c.in-Instance.tree c.args.ty.now c.in-Instance.is)

pub pass_item-returns-in-Err : goal.pass_item-returns-in-Err
pass_item-returns-in-Err t c = λ before befores h a.
    let n = item_row c.args.item.now in
    stopped c.args.line c.in-Err.order (map (row_verdict befores before n) (row_references n)) (leaves_verdicts (row_leaves n) (before ∷ befores)) (c.in-Err.ensures before befores h a)

pub pass_item-returns : goal.pass_item-returns
pass_item-returns t c = λ before befores h a.
    let n = item_row c.args.item.now in
    c.pass_held.ensures (before ∷ befores) (h, a)
    ∙ passed_on c.args.line c.in-Ok.line (map (row_verdict befores before n) (row_references n)) (leaves_verdicts (row_leaves n) (before ∷ befores)) (c.in-Ok.ensures before befores h a)

pub pass_items-loop-item-init : goal.pass_items-loop-item-init
pass_items-loop-item-init t c = λ befores a. begun befores c.args.line (defs_listed c.args.items.now) c.none-counts.result (λ s. ap capped (c.none-counts.ensures s))

pub pass_items-loop-item-preserved : goal.pass_items-loop-item-preserved
pass_items-loop-item-preserved t c = λ befores a.
    let s = item_next befores c.args.line (defs_listed c.args.items.now) c.loop-item.counts c.loop-item.next c.args.items.now c.loop-item.item-index c.item-item.result c.loop-item-test.true c.item-item.is (c.loop-item.invariant befores a) in
    turn_on befores c.args.line (defs_listed c.args.items.now) c.loop-item.counts c.loop-item.next _ _ s c.add_item.new.self c.in-Ok.line c.add_item.ensures (c.in-Ok.ensures s.before befores s.counted a)

pub pass_items-returns-in-Err : goal.pass_items-returns-in-Err
pass_items-returns-in-Err t c = λ befores a.
    let s = item_next befores c.args.line (defs_listed c.args.items.now) c.loop-item.counts c.loop-item.next c.args.items.now c.loop-item.item-index c.item-item.result c.loop-item-test.true c.item-item.is (c.loop-item.invariant befores a) in
    turn_off befores c.args.line (defs_listed c.args.items.now) c.loop-item.counts c.loop-item.next _ _ s c.in-Err.order (c.in-Err.ensures s.before befores s.counted a)

pub pass_items-returns : goal.pass_items-returns
pass_items-returns t c = λ befores a.
    walked_all befores c.args.line (defs_listed c.args.items.now) _ c.loop-item.counts c.loop-item.next (ap defs_listed (drop_all c.loop-item.item-index c.args.items.now c.loop-item-test.false)) (c.loop-item.invariant befores a)
