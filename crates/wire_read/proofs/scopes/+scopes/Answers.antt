use Rattle.std.proofs.Common.{◌-◌, ◌++◌, ◌∷◌, [], ◌∙◌, sym, ap, subst, arith}
use Rattle.std.specs.Prelude.{option_to_list, Some}
use Rattle.byte_table.specs.Lines.{family_of, type_kind}
use Rattle.wire_tree.specs.Lists.{nodes_listed}
use Rattle.wire_read.specs.Place.{rest, Takes}
use Rattle.wire_read.specs.Nodes.{is_closed}
use Rattle.wire_read.specs.Stops.{At}
use Rattle.wire_read.specs.Deep.{ScopeDeep, RowsDeep}
use Rattle.wire_read.proofs.Flat.{no_type}
use Rattle.wire_read.proofs.Items.{is_type, no_type_lead, no_type_byte, type_bytes, type_taken, type_refused, type_read}
use Rattle.wire_read.proofs.NodeParts.{NodeRefused, RowsRefused, too_deep, declarations_refused, declarations_closed}
use Rattle.wire_read.proofs.NodeReads.{RowsRead, no_row, scope_read}
use Rattle.wire_read.proofs.Reached.{at_other, fault_at, scope_here, row_reached, rows_reached, scope_reached}
use Rattle.wire_read.proofs.RowLoops.{SoFar, none_yet, one_more, row_refused, all_read}
use Rattle.wire_read.proofs.scopes.+scopes.Goals as goal

pub read_item-returns-in-None : goal.read_item-returns-in-None
read_item-returns-in-None t c = λ k. (no_row (family_of c.args.family) c.args.left _ c.in-None.ensures, tt)

pub read_item-returns-in-ComponentType : goal.read_item-returns-in-ComponentType
read_item-returns-in-ComponentType t c = λ k. c.read_type.ensures k (ap (λ r. Some r) (sym c.in-ComponentType.is) ∙ c.in-Some.ensures)

pub read_item-returns-in-InstanceType : goal.read_item-returns-in-InstanceType
read_item-returns-in-InstanceType t c = λ k. c.read_type-in-InstanceType.ensures k (ap (λ r. Some r) (sym c.in-InstanceType.is) ∙ c.in-Some.ensures)

pub read_item-returns-in-ModuleType : goal.read_item-returns-in-ModuleType
read_item-returns-in-ModuleType t c = λ k. c.read_type-in-ModuleType.ensures k (ap (λ r. Some r) (sym c.in-ModuleType.is) ∙ c.in-Some.ensures)

pub read_type-returns-then-not-read_lead : goal.read_type-returns-then-not-read_lead
read_type-returns-then-not-read_lead t c = λ k r.
    (no_type_lead (family_of c.args.family) c.args.kind c.args.left c.args.input.now r (λ ys e. c.read_lead.ensures.1 c.if-not-read_lead.true ys (ap (λ b. option_to_list b ++ ys) c.scope_lead.ensures ∙ e)), tt)

pub read_type-returns-then-not-expect : goal.read_type-returns-then-not-expect
read_type-returns-then-not-expect t c = λ k r.
    let lead = subst (λ b. Takes c.args.input.now c.read_lead.new.input (option_to_list b)) c.scope_lead.ensures (c.read_lead.ensures.0 c.if-not-read_lead.false) in
    (no_type_byte (family_of c.args.family) c.args.kind c.args.left c.args.input.now r _ lead (λ ys e. c.expect.ensures.1 c.if-not-expect.true ys (ap (λ b. b ∷ ys) c.type_byte.ensures ∙ e)), tt)

pub read_type-returns-in-Err : goal.read_type-returns-in-Err
read_type-returns-in-Err t c = λ k r.
    let f = family_of c.args.family in
    let lead = subst (λ b. Takes c.args.input.now c.read_lead.new.input (option_to_list b)) c.scope_lead.ensures (c.read_lead.ensures.0 c.if-not-read_lead.false) in
    let byte = subst (λ b. Takes c.read_lead.new.input c.expect.new.input (b ∷ [])) c.type_byte.ensures (c.expect.ensures.0 c.if-not-expect.false) in
    let opens = type_bytes f c.args.kind c.args.left c.args.input.now r _ lead _ byte in
    let taken = type_taken f c.args.kind c.args.left c.args.input.now r _ lead _ byte in (
      type_refused f c.args.kind c.args.left c.args.input.now r _ lead _ byte c.in-Err.stop c.in-Err.ensures.0,
      at_other c.in-Err.stop _ _ (row_reached f (type_kind c.args.kind) c.args.left _ _ _ opens taken) c.in-Err.ensures.1,
    )

pub read_type-returns-in-Ok-place_all : goal.read_type-returns-in-Ok-place_all
read_type-returns-in-Ok-place_all t c = λ k r.
    let f = family_of c.args.family in
    let lead = subst (λ b. Takes c.args.input.now c.read_lead.new.input (option_to_list b)) c.scope_lead.ensures (c.read_lead.ensures.0 c.if-not-read_lead.false) in
    let byte = subst (λ b. Takes c.read_lead.new.input c.expect.new.input (b ∷ [])) c.type_byte.ensures (c.expect.ensures.0 c.if-not-expect.false) in
    type_read f c.args.kind c.args.left c.args.input.now r _ lead _ byte c.type_row.result c.in-Ok.scope _ c.in-Ok-place_all.leaves k c.type_row.ensures c.in-Ok.ensures c.in-Ok-place_all.ensures

pub read_type_scope-returns-then-left-eq0 : goal.read_type_scope-returns-then-left-eq0
read_type_scope-returns-then-left-eq0 t c =
    let k = type_kind c.args.kind in (
      too_deep k c.args.left c.at.result _ c.if-left-eq0.true,
      subst (ScopeDeep k c.args.left c.args.input.now) (sym c.at.ensures) (scope_here k c.args.left c.args.input.now c.if-left-eq0.true),
    )

pub read_type_scope-returns-in-Err : goal.read_type_scope-returns-in-Err
read_type_scope-returns-in-Err t c =
    let k = type_kind c.args.kind in
    let r = c.in-Err.ensures (ap is_closed c.declarations_in.ensures ∙ declarations_closed k) in (
      declarations_refused k c.args.left c.in-Some.count _ _ c.in-Err.stop c.if-left-eq0.false c.in-Some.ensures
          (subst (λ f. RowsRefused c.in-Some.count f (c.args.left - 1) (rest c.read_unsigned.new.input) c.in-Err.stop) c.declarations_in.ensures r.0),
      at_other c.in-Err.stop _ _ (λ at d. scope_reached k c.args.left c.in-Some.count _ _ (is_type c.args.kind) c.if-left-eq0.false c.in-Some.ensures at (subst (λ f. RowsDeep f (c.args.left - 1) c.read_unsigned.new.input at) c.declarations_in.ensures d)) r.1,
    )

pub read_type_scope-returns-in-Ok-place : goal.read_type_scope-returns-in-Ok-place
read_type_scope-returns-in-Ok-place t c =
    let k = type_kind c.args.kind in
    scope_read k c.scope_kind.result c.args.left c.in-Some.count _ c.read_unsigned.new.input _ c.in-Ok.defs c.in-Ok-place.placed c.scope_kind.ensures c.in-Ok-place.ensures c.if-left-eq0.false c.in-Some.ensures
    (subst (λ f. RowsRead c.in-Some.count f (c.args.left - 1) c.read_unsigned.new.input c.read_items.new.input (nodes_listed c.in-Ok.defs.now)) c.declarations_in.ensures (c.in-Ok.ensures (ap is_closed c.declarations_in.ensures ∙ declarations_closed k)))

pub read_items-loop-init : goal.read_items-loop-init
read_items-loop-init t c = λ k. subst (SoFar (family_of c.args.family) c.args.left c.args.count 0 c.args.input.now c.args.input.now) (sym c.new-rows.ensures.items) (none_yet (family_of c.args.family) c.args.left c.args.count c.args.input.now)

pub read_items-loop-preserved : goal.read_items-loop-preserved
read_items-loop-preserved t c = λ k.
    one_more (family_of c.args.family) c.args.left c.args.count c.loop.counter _ _ _ c.loop.rows.items _ c.in-Ok.node k c.loop-test.true c.in-Ok-push.ensures.items (c.loop.invariant k) (c.in-Ok.ensures k)

pub read_items-returns-in-Err : goal.read_items-returns-in-Err
read_items-returns-in-Err t c = λ k.
    let r = c.in-Err.ensures k in (
      row_refused (family_of c.args.family) c.args.left c.args.count c.loop.counter _ _ c.loop.rows.items c.in-Err.stop c.loop-test.true (c.loop.invariant k) r.0,
      at_other c.in-Err.stop _ _ (rows_reached (family_of c.args.family) c.args.left c.args.count c.loop.counter _ _ c.loop.rows.items (c.loop.invariant k)) r.1,
    )

pub read_items-returns : goal.read_items-returns
read_items-returns t c = λ k.
    all_read (family_of c.args.family) c.args.left c.args.count c.loop.counter _ _ c.loop.rows.items c.in-Ok-place_all.placed.now (omega (arith, c.loop-test.false, c.loop.auto.counter-end)) (c.in-Ok-place_all.ensures ∙ c.as_slice.ensures.value) (c.loop.invariant k)

pub read_item-returns-in-Ok : goal.read_item-returns-in-Ok
read_item-returns-in-Ok t c = λ k.
    c.in-Ok.ensures c.args.left (k, no_type c.in-Some.row c.in_default.not-ComponentType c.in_default.not-InstanceType c.in_default.not-ModuleType, c.in-Some.ensures)

pub read_item-returns-in-Err : goal.read_item-returns-in-Err
read_item-returns-in-Err t c = λ k.
    let f = family_of c.args.family in
    let r = c.in-Err.ensures c.args.left (k, no_type c.in-Some.row c.in_default.not-ComponentType c.in_default.not-InstanceType c.in_default.not-ModuleType, c.in-Some.ensures) in
    subst (λ e. NodeRefused f c.args.left (rest c.args.input.now) e × At e (RowsDeep f c.args.left c.args.input.now)) (sym c.stop_of.ensures) (r, fault_at c.in-Err.fault _)
