use Rattle.std.proofs.Common.{◌≡◌, ◌++◌, ◌∙◌, refl, sym, ap, subst, arith, None}
use Rattle.comp_model.specs.Model as m
use Rattle.comp_model.specs.declared.row.ScopeKind.TheVariants as kinds
use Rattle.comp_wire.specs.Spelled.{FitsSections, spell_component}
use Rattle.byte_table.specs.Lines.{family_of}
use Rattle.wire_tree.proofs.Leaves.{scope_made}
use Rattle.wire_tree.specs.Lists.{defs_listed}
use Rattle.wire_read.specs.Place.{rest, Takes}
use Rattle.wire_read.specs.Within.{WithinScope}
use Rattle.wire_read.specs.declared.stop.Stop.TheVariants as stop
use Rattle.wire_read.specs.Deep.{BodyDeep}
use Rattle.wire_read.specs.Runs.{WholeBody}
use Rattle.comp_wire.specs.declared.sections.SectionKind.TheVariants as section_kinds
use Rattle.wire_read.proofs.Bodies.{counted_section, counted_closed, nested_refused, nested_deep, start_section}
use Rattle.wire_read.proofs.Reached.{at_other, component_reached, nested_reached, nested_here, section_reached}
use Rattle.wire_read.proofs.Components.{no_preamble, run_refused, one_more_run, component_read}
use Rattle.wire_read.proofs.SectionReads.{run_too_long, section_refused, section_read, counted_kind, rows_of_kind, number_of_kind}
use Rattle.wire_read.proofs.component.+components.Goals as goal

pub read_body-returns-in-Some : goal.read_body-returns-in-Some
read_body-returns-in-Some t c =
    let s = c.args.kind in
    let counted = counted_kind c.args.kind c.in_default.not-Custom c.in_default.not-CoreModule c.in_default.not-Component c.in_default.not-Start in
    let rows = rows_of_kind c.args.kind (family_of c.in-Some.family) c.in-Some.ensures in
    counted_section s (family_of c.in-Some.family) c.args.left c.args.input.now c.read_counted.result counted rows (c.read_counted.ensures (counted_closed s (family_of c.in-Some.family) counted rows))

pub read_component-returns-then-not-expect_all : goal.read_component-returns-then-not-expect_all
read_component-returns-then-not-expect_all t c =
    (no_preamble c.args.left (rest c.args.input.now) stop.Misread (λ ys e. c.expect_all.ensures.1 c.if-not-expect_all.true ys (ap (λ xs. xs ++ ys) c.preamble.ensures ∙ e)), tt)

pub read_component-returns-in-Err : goal.read_component-returns-in-Err
read_component-returns-in-Err t c =
    let p = subst (λ xs. Takes c.args.input.now c.expect_all.new.input xs) c.preamble.ensures (c.expect_all.ensures.0 c.if-not-expect_all.false) in (
      run_refused c.args.left c.args.input.now c.expect_all.new.input c.loop-alloc.input c.loop-alloc.last c.loop-alloc.items.items c.in-Err.stop p c.loop-alloc.invariant (λ e. c.loop-alloc-test.true (c.left.ensures.bytes ∙ e)) c.in-Err.ensures.0,
      at_other c.in-Err.stop _ _ (component_reached c.args.left c.args.input.now c.expect_all.new.input c.loop-alloc.input c.loop-alloc.last c.loop-alloc.items.items p c.loop-alloc.invariant) c.in-Err.ensures.1,
    )

pub read_component-loop-alloc-preserved : goal.read_component-loop-alloc-preserved
read_component-loop-alloc-preserved t c =
    one_more_run c.args.left c.expect_all.new.input c.loop-alloc.input c.read_section.new.input c.loop-alloc.last c.loop-alloc.items.items _ c.in-Ok.read.rows.now c.in-Ok.read.kind c.in-Ok-push_all.ensures c.loop-alloc.invariant c.in-Ok.ensures

pub read_component-returns : goal.read_component-returns
read_component-returns t c =
    let read = component_read c.args.left c.args.input.now c.expect_all.new.input c.loop-alloc.input c.loop-alloc.last c.loop-alloc.items.items
    (subst (λ xs. Takes c.args.input.now c.expect_all.new.input xs) c.preamble.ensures (c.expect_all.ensures.0 c.if-not-expect_all.false)) c.loop-alloc.invariant (sym c.left.ensures.bytes ∙ c.loop-alloc-test.false) in
    let same = ap (defs_listed) (c.in-Ok-place_all.ensures ∙ c.as_slice.ensures.value) in
    subst (λ b. FitsSections b × WithinScope b c.args.left × (spell_component b ≡ rest c.args.input.now)) (sym (scope_made kinds.Component c.in-Ok-place_all.defs ∙ ap (m.scope_of kinds.Component None None) same)) read

pub read_nested-returns-in-Err : goal.read_nested-returns-in-Err
read_nested-returns-in-Err t c =
    (nested_refused c.args.left c.args.input.now c.in-Err.stop c.if-left-eq0.false c.in-Err.ensures.0, at_other c.in-Err.stop _ _ (nested_reached c.args.left c.args.input.now c.if-left-eq0.false) c.in-Err.ensures.1)

pub read_nested-returns-then-left-eq0 : goal.read_nested-returns-then-left-eq0
read_nested-returns-then-left-eq0 t c =
    (nested_deep c.args.left c.args.input.now c.if-left-eq0.true, subst (BodyDeep section_kinds.Component c.args.left c.args.input.now) (sym c.at.ensures) (nested_here c.args.left c.args.input.now c.if-left-eq0.true))

pub read_body-returns-in-Start : goal.read_body-returns-in-Start
read_body-returns-in-Start t c =
    subst (λ k. WholeBody k c.args.left c.args.input.now c.read_exactly.result) (sym c.in-Start.is) (start_section c.args.left c.args.input.now c.read_exactly.result (c.read_exactly.ensures refl))

pub read_section-returns-then-length-left : goal.read_section-returns-then-length-left
read_section-returns-then-length-left t c =
    (run_too_long c.args.last c.args.left c.in-Some.number c.in-Some-read_unsigned.count _ _ _ c.in-Some.ensures c.in-Some-read_unsigned.ensures (omega (arith, c.left.ensures.bytes, c.if-length-left.true)), tt)

pub read_section-returns-in-Err : goal.read_section-returns-in-Err
read_section-returns-in-Err t c =
    let s = c.in-Some-section_kind.kind in (
      section_refused c.args.last c.args.left c.in-Some.number c.in-Some-read_unsigned.count s c.args.input.now c.next.new.self c.read_unsigned.new.input c.within-body.result c.in-Err.stop c.in-Some.ensures c.in-Some-section_kind.ensures c.in-Some-read_unsigned.ensures (omega (arith, c.left.ensures.bytes, c.if-length-left.false)) c.within-body.ensures c.in-Err.ensures.0,
      at_other c.in-Err.stop _ _ (section_reached c.args.left c.in-Some.number c.in-Some-read_unsigned.count s c.args.input.now c.next.new.self c.read_unsigned.new.input c.within-body.result c.in-Some.ensures (number_of_kind c.in-Some.number s c.in-Some-section_kind.ensures) c.in-Some-read_unsigned.ensures (omega (arith, c.left.ensures.bytes, c.if-length-left.false)) c.within-body.ensures) c.in-Err.ensures.1,
    )

pub read_section-returns-in-Ok : goal.read_section-returns-in-Ok
read_section-returns-in-Ok t c =
    section_read c.args.last c.args.left c.in-Some.number c.in-Some-read_unsigned.count c.in-Some-section_kind.kind c.args.input.now c.next.new.self c.read_unsigned.new.input c.within-body.result c.skip.new.self c.in-Ok.rows.now c.in-Some.ensures c.in-Some-section_kind.ensures
    c.in-Some-read_unsigned.ensures c.within-body.ensures c.in-Ok.ensures c.skip.ensures.taken c.skip.ensures.number (sym c.follows.ensures ∙ c.if-not-follows.false)
