use Rattle.std.proofs.Common.{◌∙◌, sym, ap, refl, map, subst, rules}
use Rattle.std.proofs.lemmas.List.{get_or_read}
use borrow.Author.Tests.{tests}
use Rattle.comp_tree.specs.declared.tree.Leaf.{the_lemmas}
use Rattle.comp_tree.specs.Marks.{inside_of, inside_listed, nodes_inside, marks_listed}
use Rattle.comp_tree.specs.OriginMarks.{FewInside, FewPlaces, inside_by, marks_after, marks_of_items, recorded, recorded_inside}
use Rattle.comp_tree.specs.declared.tree.Scope.{out-Scope}
use Rattle.comp_tree.proofs.Marks.{inside_node, inside_of_nodes, marks_fields}
use Rattle.comp_tree.proofs.Outcomes.{of-ok}
use Rattle.tree_walks.proofs.Recorded.{marks_turn, few_turn, all_told, held_there, held_later, few_there}
use Rattle.tree_walks.proofs.origins.+marks.Goals as goal

pub leaf_origins-leaves_origins-requires : goal.leaf_origins-leaves_origins-requires
leaf_origins-leaves_origins-requires g t c = λ κs w. (
  search (tests, rules, the_lemmas, get_or_read, c.well_formed),
  (
    w,
    subst (λ q. FewInside (recorded_inside q)) (ap (inside_of (map g.M.CoreSource.core_module c.args.cores.now)) c.in-Node.is ∙ inside_node (map g.M.CoreSource.core_module c.args.cores.now) c.in-Node.node) c.requires,
  ),
)

pub leaf_origins-nodes_origins-requires : goal.leaf_origins-nodes_origins-requires
leaf_origins-nodes_origins-requires g t c = λ κs w. (
  search (tests, rules, the_lemmas, get_or_read, c.well_formed),
  (
    w,
    subst (λ q. FewInside (recorded_inside q)) (ap (inside_of (map g.M.CoreSource.core_module c.args.cores.now)) c.in-Nodes.is ∙ inside_of_nodes (map g.M.CoreSource.core_module c.args.cores.now) c.in-Nodes.nodes) c.requires,
  ),
)

pub leaf_origins-returns-in-Node : goal.leaf_origins-returns-in-Node
leaf_origins-returns-in-Node g t c = of-ok _ _ c.leaves_origins.result (λ a h. h ∙ ap recorded_inside (sym (ap (inside_of (map g.M.CoreSource.core_module c.args.cores.now)) c.in-Node.is ∙ inside_node (map g.M.CoreSource.core_module c.args.cores.now) c.in-Node.node))) c.leaves_origins.ensures

pub leaf_origins-returns-in-Nodes : goal.leaf_origins-returns-in-Nodes
leaf_origins-returns-in-Nodes g t c = of-ok _ _ c.nodes_origins.result (λ a h. h ∙ ap recorded_inside (sym (ap (inside_of (map g.M.CoreSource.core_module c.args.cores.now)) c.in-Nodes.is ∙ inside_of_nodes (map g.M.CoreSource.core_module c.args.cores.now) c.in-Nodes.nodes))) c.nodes_origins.ensures

pub leaves_origins-leaf_origins-requires : goal.leaves_origins-leaf_origins-requires
leaves_origins-leaf_origins-requires g t c =
    let C = map g.M.CoreSource.core_module c.args.cores.now in
    λ κs w. (
      search (tests, rules, the_lemmas, get_or_read, c.well_formed),
      (
        w,
        subst (λ q. FewInside (recorded_inside (inside_of C q))) (sym c.leaf-item.is) (few_there (inside_listed C) (inside_of C) (λ x xs. refl) c.args.leaves.now c.loop-leaf.leaf-index c.leaf-item.result c.loop-leaf-test.true c.loop-leaf.invariant c.requires),
      ),
    )

pub leaves_origins-returns-in-Ok-Some : goal.leaves_origins-returns-in-Ok-Some
leaves_origins-returns-in-Ok-Some g t c =
    let C = map g.M.CoreSource.core_module c.args.cores.now in
    held_there (inside_listed C) (inside_of C) (λ x xs. refl) c.args.leaves.now c.loop-leaf.leaf-index c.leaf-item.result c.loop-leaf-test.true c.loop-leaf.invariant _ (ap inside_by (sym c.in-Ok-Some.field-0-is) ∙ c.in-Ok-Some.ensures ∙ ap (λ q. recorded_inside (inside_of C q)) c.leaf-item.is)

pub leaves_origins-loop-leaf-preserved : goal.leaves_origins-loop-leaf-preserved
leaves_origins-loop-leaf-preserved g t c =
    let C = map g.M.CoreSource.core_module c.args.cores.now in
    held_later (inside_listed C) (inside_of C) (λ x xs. refl) c.args.leaves.now c.loop-leaf.leaf-index c.leaf-item.result c.loop-leaf-test.true c.loop-leaf.invariant (ap inside_by (sym c.in-Ok-None.field-0-is) ∙ c.in-Ok-None.ensures ∙ ap (λ q. recorded_inside (inside_of C q)) c.leaf-item.is)

pub nodes_origins-returns-in-Ok-Some : goal.nodes_origins-returns-in-Ok-Some
nodes_origins-returns-in-Ok-Some g t c =
    let C = map g.M.CoreSource.core_module c.args.cores.now in
    held_there (nodes_inside C) (λ n. inside_listed C n.leaves.now) (λ x xs. refl) c.args.nodes.now c.loop-node.node-index _ c.loop-node-test.true c.loop-node.invariant _ (ap inside_by (sym c.in-Ok-Some.field-0-is) ∙ c.in-Ok-Some.ensures)

pub nodes_origins-loop-node-preserved : goal.nodes_origins-loop-node-preserved
nodes_origins-loop-node-preserved g t c =
    let C = map g.M.CoreSource.core_module c.args.cores.now in
    held_later (nodes_inside C) (λ n. inside_listed C n.leaves.now) (λ x xs. refl) c.args.nodes.now c.loop-node.node-index _ c.loop-node-test.true c.loop-node.invariant (ap inside_by (sym c.in-Ok-None.field-0-is) ∙ c.in-Ok-None.ensures)

pub scope_origins-loop-def-init : goal.scope_origins-loop-def-init
scope_origins-loop-def-init g t c =
    let C = map g.M.CoreSource.core_module c.args.cores.now in (
      ap (λ q. marks_after (marks_of_items q) (recorded (marks_listed C (out-Scope c.args.scope.now).defs.now))) c.new-items.ensures.items,
      subst (λ q. FewPlaces (recorded q)) (marks_fields C c.args.scope.now) c.requires.few,
    )

pub scope_origins-loop-def-preserved : goal.scope_origins-loop-def-preserved
scope_origins-loop-def-preserved g t c =
    let C = map g.M.CoreSource.core_module c.args.cores.now in
    let defs = (out-Scope c.args.scope.now).defs.now in (
      marks_turn C defs c.loop-def.def-index c.def-item.result c.loop-def-test.true c.def-item.is c.loop-def.items.items c.push.new.self.items c.item_origin.result c.in_ok-places.places (inside_by c.in_ok-inner.inner) (recorded (marks_listed C defs)) c.in_ok-push.ensures.items c.item_origin.ensures c.in_ok-places.ensures c.in_ok-inner.ensures c.loop-def.invariant.0,
      (few_turn C defs c.loop-def.def-index c.def-item.result c.loop-def-test.true c.def-item.is c.loop-def.invariant.1).2,
    )

pub scope_origins-returns : goal.scope_origins-returns
scope_origins-returns g t c = record { marks = all_told (map g.M.CoreSource.core_module c.args.cores.now) c.args.scope.now c.loop-def.items.items c.origins_of_items.result c.loop-def.def-index c.origins_of_items.ensures c.loop-def-test.false c.loop-def.invariant.0 }
