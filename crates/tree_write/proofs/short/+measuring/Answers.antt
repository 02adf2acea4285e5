use Rattle.std.proofs.Common.{◌++◌, ◌<◌, ◌≤◌, length, map, drop, sym, ◌∙◌, subst, arith}
use Rattle.comp_wire.specs.Fits.{item_fits}
use Rattle.comp_wire.specs.NameSection.{section_of_payload}
use Rattle.comp_wire.specs.Spelled.{items_of, item_of_node}
use Rattle.comp_tree.specs.Lists.{listed}
use Rattle.comp_tree.specs.Model.{scope_of}
use Rattle.tree_write.specs.Measured.{IsMeasured, items_fit}
use Rattle.tree_write.specs.Wire.{wire_leaves, wire_items, wire_node_of_def, payload_of}
use Rattle.tree_write.proofs.Components.{item_section, is_component}
use Rattle.tree_write.proofs.Scopes.{wire_whole}
use Rattle.tree_write.proofs.Sizes.{none_yet, item_measured, no_component, component_long, producers_long, lined_long, lined_not, whole_long, whole_not, whole_nowhere}
use Rattle.tree_write.proofs.Turns.{all_of}
use Rattle.tree_write.proofs.short.+measuring.Goals as goal

pub whole_size-returns-in-Scope : goal.whole_size-returns-in-Scope
whole_size-returns-in-Scope g t c = rw (wire_whole (map g.M.CoreBytes.core_module c.args.modules.now) c.args.leaf.now c.in-Scope.scope c.in-Scope.is) c.component_size.ensures

pub whole_size-returns-in_default : goal.whole_size-returns-in_default
whole_size-returns-in_default g t c = whole_nowhere (map g.M.CoreBytes.core_module c.args.modules.now) c.args.leaf.now (λ p y q. c.in_default.not-Scope (record { ref_ptr = p.ref_ptr; now = y }) q)

pub item_size-returns-then-is_producers : goal.item_size-returns-then-is_producers
item_size-returns-then-is_producers g t c =
    let cores = map g.M.CoreBytes.core_module c.args.modules.now in
    let n = c.args.def.now.node in
    producers_long n.row (listed cores n.leaves.now) (wire_leaves cores n.leaves.now) _ (sym c.is_producers.ensures ∙ c.if-is_producers.true) (c.producers_length.ensures cores)

pub item_size-returns-then-node_fits : goal.item_size-returns-then-node_fits
item_size-returns-then-node_fits g t c =
    let cores = map g.M.CoreBytes.core_module c.args.modules.now in
    let n = c.args.def.now.node in
    lined_long n.row (listed cores n.leaves.now) (wire_leaves cores n.leaves.now) c.section_of_row.result c.rows_in.result c.in-Some.family _ _ (sym c.is_producers.ensures ∙ c.if-is_producers.false) c.section_of_row.ensures c.rows_in.ensures
    c.in-Some.is c.node_fits.ensures c.if-node_fits.true c.node_length.ensures

pub item_size-returns-else-node_fits : goal.item_size-returns-else-node_fits
item_size-returns-else-node_fits g t c =
    let cores = map g.M.CoreBytes.core_module c.args.modules.now in
    let n = c.args.def.now.node in
    lined_not n.row (listed cores n.leaves.now) (wire_leaves cores n.leaves.now) c.section_of_row.result c.rows_in.result c.in-Some.family _ (sym c.is_producers.ensures ∙ c.if-is_producers.false) c.section_of_row.ensures c.rows_in.ensures c.in-Some.is
    c.node_fits.ensures c.if-node_fits.false

pub item_size-returns-then-is_alone : goal.item_size-returns-then-is_alone
item_size-returns-then-is_alone g t c =
    let cores = map g.M.CoreBytes.core_module c.args.modules.now in
    let n = c.args.def.now.node in
    let component = is_component n.row c.section_of_row.result c.rows_in.result (sym c.is_producers.ensures ∙ c.if-is_producers.false) c.section_of_row.ensures c.rows_in.ensures c.in-None.is in
    whole_long cores n.row n.leaves.now c.index-def-0.result _ _ component c.is_alone.ensures c.if-is_alone.true c.whole_size.ensures

pub item_size-returns-else-is_alone : goal.item_size-returns-else-is_alone
item_size-returns-else-is_alone g t c =
    let cores = map g.M.CoreBytes.core_module c.args.modules.now in
    let n = c.args.def.now.node in
    let component = is_component n.row c.section_of_row.result c.rows_in.result (sym c.is_producers.ensures ∙ c.if-is_producers.false) c.section_of_row.ensures c.rows_in.ensures c.in-None.is in
    whole_not cores n.row n.leaves.now _ component c.is_alone.ensures c.if-is_alone.false

pub sections_size-loop-i-init : goal.sections_size-loop-i-init
sections_size-loop-i-init g t c = λ items h. none_yet (map g.M.CoreBytes.core_module c.args.modules.now) c.args.defs.now _ items h

pub sections_size-loop-i-preserved : goal.sections_size-loop-i-preserved
sections_size-loop-i-preserved g t c =
    let cores = map g.M.CoreBytes.core_module c.args.modules.now in
    let ds = c.args.defs.now in
    let i = c.loop-i.i in
    let d = c.index-defs-i.result in
    let some : 0 < i = omega (arith, c.loop-i-test.true) in
    let most : i ≤ length ds = omega (arith, c.loop-i.auto.i) in
    λ items h. item_measured cores ds i d _ items some most c.index-defs-i.is
    (c.with_item-front.ensures (wire_items cores (drop i ds) ++ items) (items_fit cores (drop i ds)) (item_fits (wire_node_of_def cores d.node)) (item_of_node (wire_node_of_def cores d.node)) (c.loop-i.invariant items h)
    (item_section d.node.row _ _ ∙ sym c.section_of_row.ensures) c.item_size-size.ensures)

pub sections_size-returns : goal.sections_size-returns
sections_size-returns g t c =
    let cores = map g.M.CoreBytes.core_module c.args.modules.now in
    let ds = c.args.defs.now in
    λ items h. subst (λ xs. IsMeasured c.loop-i.front (wire_items cores xs ++ items) (items_fit cores xs)) (all_of ds c.loop-i.i c.loop-i-test.false) (c.loop-i.invariant items h)

pub component_size-returns-then-not-is_component : goal.component_size-returns-then-not-is_component
component_size-returns-then-not-is_component g t c = no_component (map g.M.CoreBytes.core_module c.args.modules.now) c.args.scope.now _ c.is_component.ensures c.if-not-is_component.true

pub component_size-returns : goal.component_size-returns
component_size-returns g t c =
    let cores = map g.M.CoreBytes.core_module c.args.modules.now in
    let x = c.args.scope.now in
    let all = c.sections_size-front.ensures (items_of (section_of_payload (payload_of (scope_of cores x)))) (c.names_size-named.ensures cores) in
    component_long cores x _ c.closed-all.result _ c.is_component.ensures c.if-not-is_component.false (c.closed-all.ensures _ _ all) c.with_preamble.ensures
