use Rattle.std.proofs.Common.{◌++◌, ◌-◌, ◌<◌, ◌≤◌, length, map, take, refl, sym, ◌∙◌, ap, subst, arith, append_assoc, None}
use Rattle.std.proofs.Math.Seq.{take-length}
use Rattle.comp_wire.specs.NameSection.{section_of_payload}
use Rattle.comp_wire.specs.Spelled.{items_of, spell_leaf, FitsLeaf}
use Rattle.comp_wire.specs.Table.{whole_component}
use Rattle.comp_tree.specs.Lists.{listed, node_of, defs_listed}
use Rattle.comp_tree.specs.Model.{scope_of}
use Rattle.comp_tree.specs.declared.tree.Scope as sc
use Rattle.tree_write.specs.Kept.{put}
use Rattle.tree_write.specs.OpenSection.{Holds}
use Rattle.tree_write.specs.Plans.{payloads_in, payloads_of_defs, component_in}
use Rattle.tree_write.specs.Wire.{wire_leaves, wire_items, payload_of}
use Rattle.tree_write.proofs.Closing.{names_alone}
use Rattle.tree_write.proofs.Components.{producers_item, lined_item, lined_fits, is_component, producers_plan, lined_plan, whole_here, no_leaves, not_here, scope_gathered, planned_scope, planned_turn, turned, nothing_open, sections_fit, component_written, taken_none}
use Rattle.tree_write.proofs.Fitted.{item_fits}
use Rattle.tree_write.proofs.Scopes.{wire_whole}
use Rattle.tree_write.proofs.Turns.{all_of}
use Rattle.tree_write.proofs.component.+components.Goals as goal

-- ---- the component in a leaf

pub write_whole-returns-in-Scope : goal.write_whole-returns-in-Scope
write_whole-returns-in-Scope g t c =
    let cores = map g.M.CoreBytes.core_module c.args.modules.now in
    let k = g.S.Sink.kept c.args.sink.now in
    let whole = wire_whole cores c.args.leaf.now c.in-Scope.scope c.in-Scope.is in
    λ rest h e.
    let w = c.write_component.ensures rest (subst (λ x. FitsLeaf x whole_component) whole h) (e ∙ ap (λ ps. ps ++ rest) (scope_gathered cores c.args.leaf.now c.in-Scope.scope c.in-Scope.is)) in
    (w.0 ∙ ap (λ x. put (spell_leaf x whole_component) k) (sym whole), w.1)

pub write_whole-returns-in_default : goal.write_whole-returns-in_default
write_whole-returns-in_default g t c =
    λ rest h e. absurd (not_here (map g.M.CoreBytes.core_module c.args.modules.now) c.args.leaf.now (λ p y q. c.in_default.not-Scope (record { ref_ptr = p.ref_ptr; now = y }) q) h)

-- ---- a definition

pub write_item-returns-then-is_producers : goal.write_item-returns-then-is_producers
write_item-returns-then-is_producers g t c =
    let cores = map g.M.CoreBytes.core_module c.args.modules.now in
    let k = g.S.Sink.kept c.args.sink.now in
    let n = c.args.def.now.node in
    let u = n.row in
    let ls = listed cores n.leaves.now in
    let is = sym c.is_producers.ensures ∙ c.if-is_producers.true in
    λ rest h e. (c.write_producers.ensures cores ∙ ap (λ x. put x k) (sym (producers_item u ls (wire_leaves cores n.leaves.now) is)), e ∙ ap (λ ps. ps ++ rest) (producers_plan u ls is))

pub write_item-returns-in-Some : goal.write_item-returns-in-Some
write_item-returns-in-Some g t c =
    let cores = map g.M.CoreBytes.core_module c.args.modules.now in
    let k = g.S.Sink.kept c.args.sink.now in
    let n = c.args.def.now.node in
    let u = n.row in
    let ls = listed cores n.leaves.now in
    let bs = wire_leaves cores n.leaves.now in
    let plain = sym c.is_producers.ensures ∙ c.if-is_producers.false in
    λ rest h e. (
      c.write_node.ensures (lined_fits u ls bs c.section_of_row.result c.rows_in.result c.in-Some.family plain c.section_of_row.ensures c.rows_in.ensures c.in-Some.is h)
          ∙ ap (λ x. put x k) (sym (lined_item u ls bs c.section_of_row.result c.rows_in.result c.in-Some.family plain c.section_of_row.ensures c.rows_in.ensures c.in-Some.is)),
      e ∙ ap (λ ps. ps ++ rest) (lined_plan u ls c.section_of_row.result c.rows_in.result c.in-Some.family plain c.section_of_row.ensures c.rows_in.ensures c.in-Some.is),
    )

pub write_item-returns-then-def-ne0 : goal.write_item-returns-then-def-ne0
write_item-returns-then-def-ne0 g t c =
    let cores = map g.M.CoreBytes.core_module c.args.modules.now in
    let k = g.S.Sink.kept c.args.sink.now in
    let n = c.args.def.now.node in
    let plain = sym c.is_producers.ensures ∙ c.if-is_producers.false in
    let component = is_component n.row c.section_of_row.result c.rows_in.result plain c.section_of_row.ensures c.rows_in.ensures c.in-None.is in
    λ rest h e.
    let w = whole_here cores n.row n.leaves.now c.index-def-0.result component c.if-def-ne0.true h in
    let v = c.write_whole.ensures rest w.0 (e ∙ ap (λ ps. ps ++ rest) w.2) in
    (v.0 ∙ ap (λ x. put x k) (sym w.1), v.1)

pub write_item-returns-else-def-ne0 : goal.write_item-returns-else-def-ne0
write_item-returns-else-def-ne0 g t c =
    let cores = map g.M.CoreBytes.core_module c.args.modules.now in
    let n = c.args.def.now.node in
    let plain = sym c.is_producers.ensures ∙ c.if-is_producers.false in
    let component = is_component n.row c.section_of_row.result c.rows_in.result plain c.section_of_row.ensures c.rows_in.ensures c.in-None.is in
    λ rest h e. absurd (no_leaves cores n.row n.leaves.now component c.if-def-ne0.false h)

-- ---- the sections

pub write_sections-loop-i-init : goal.write_sections-loop-i-init
write_sections-loop-i-init g t c =
    let cores = map g.M.CoreBytes.core_module c.args.modules.now in
    let ds = c.args.defs.now in
    (λ before named rest fits alone e p. (nothing_open cores before _ (record { running = None; count = 0; end = 0 }) ds named refl alone e, p ∙ ap (λ xs. payloads_of_defs (defs_listed cores xs) ++ rest) (sym (take-length ds))), omega arith)

pub write_sections-loop-i-preserved : goal.write_sections-loop-i-preserved
write_sections-loop-i-preserved g t c =
    let cores = map g.M.CoreBytes.core_module c.args.modules.now in
    let ds = c.args.defs.now in
    let i = c.loop-i.i in
    let d = c.index-defs-i.result in
    let is = c.index-defs-i.is in
    let some : 0 < i = omega (arith, c.loop-i-test.true) in
    let most : i ≤ length ds = omega (arith, c.loop-i.auto.i) in
    let inside : i - 1 < length ds = omega (arith, some, most) in
    let front = payloads_of_defs (defs_listed cores (take (i - 1) ds)) in
    let own = payloads_in (component_in (node_of cores d.node)) in (
      λ before named rest fits alone e p.
          let h = c.loop-i.invariant.0 before named rest fits alone e p in
          let w = c.write_item.ensures (front ++ rest) (item_fits cores ds (i - 1) d fits inside is) (h.1 ∙ ap (λ ps. ps ++ rest) (planned_turn cores ds i d some most is) ∙ append_assoc own front rest) in
          (turned cores ds i d named before _ _ _ c.loop-i.front c.begin-front.result _ c.section_of_row.result some most is h.0 (c.begin-front.ensures.takes before) c.section_of_row.ensures refl refl refl w.0, w.1),
      omega (arith, c.loop-i.invariant.1, c.begin-front.ensures.few, c.loop-i-test.true),
    )

pub write_sections-returns : goal.write_sections-returns
write_sections-returns g t c =
    let cores = map g.M.CoreBytes.core_module c.args.modules.now in
    let ds = c.args.defs.now in
    λ before named rest fits alone e p.
    let all = c.loop-i.invariant.0 before named rest fits alone e p in (
      c.close_section.ensures before (wire_items cores ds ++ named) (subst (λ xs. Holds before (g.S.Sink.kept c.loop-i.sink) c.loop-i.front (wire_items cores xs ++ named)) (all_of ds c.loop-i.i c.loop-i-test.false) all.0),
      all.1 ∙ ap (λ xs. payloads_of_defs (defs_listed cores xs) ++ rest) (taken_none ds c.loop-i.i c.loop-i-test.false),
    )

-- ---- a component

pub write_component-returns : goal.write_component-returns
write_component-returns g t c =
    let cores = map g.M.CoreBytes.core_module c.args.modules.now in
    let x = c.args.scope.now in
    let k = g.S.Sink.kept c.args.sink.now in
    let payload = payload_of (scope_of cores x) in
    let inner = payloads_of_defs (defs_listed cores (sc.out-Scope x).defs.now) in
    λ rest fits e.
    let a = c.write_next.ensures payload (inner ++ rest) (e ∙ ap (λ ps. ps ++ rest) (planned_scope cores x)) in
    let b = c.write_sections.ensures k (items_of (section_of_payload payload)) rest (sections_fit cores x fits) (names_alone payload) a.0 a.1 in
    (component_written cores x k _ _ b.0 c.bytes.ensures, b.1)
