use Rattle.std.proofs.Common.{◌∙◌, sym, refl, subst, arith}
use Rattle.comp_wire.specs.Table as t
use Rattle.wire_read.specs.Stops.{stop_of}
use Rattle.wire_read.proofs.RowLoops.{SoFar, none_yet, one_more, row_refused, all_read}
use Rattle.wire_read.proofs.common.read_all_named.Goals as goal

pub loop-init : goal.loop-init
loop-init c = λ left. subst (SoFar t.named_types left c.args.count 0 c.args.input.now c.args.input.now) (sym c.clear.ensures.items) (none_yet t.named_types left c.args.count c.args.input.now)

pub loop-preserved : goal.loop-preserved
loop-preserved c = λ left.
    one_more t.named_types left c.args.count c.loop.counter _ _ _ c.loop.names.items _ c.in-Ok.node refl c.loop-test.true c.in-Ok-push.ensures.items (c.loop.invariant left) (c.in-Ok.ensures left)

pub returns-in-Err : goal.returns-in-Err
returns-in-Err c = λ left. row_refused t.named_types left c.args.count c.loop.counter _ _ c.loop.names.items (stop_of c.in-Err.fault) c.loop-test.true (c.loop.invariant left) (c.in-Err.ensures left)

pub returns-in-Ok-place_all : goal.returns-in-Ok-place_all
returns-in-Ok-place_all c = λ left.
    all_read t.named_types left c.args.count c.loop.counter _ _ c.loop.names.items c.in-Ok-place_all.placed.now (omega (arith, c.loop-test.false, c.loop.auto.counter-end)) (c.in-Ok-place_all.ensures ∙ c.as_slice.ensures.value) (c.loop.invariant left)
