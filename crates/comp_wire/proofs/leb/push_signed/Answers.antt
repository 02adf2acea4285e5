use Rattle.std.proofs.Common.{lit<, lit≤, cond}
use Rattle.std.proofs.lemmas.Result.{on_ok_weaker}
use Rattle.comp_model.specs.Leb.{plain, turned}
use Rattle.comp_wire.proofs.Numbers.{one_byte_more, last_byte, front_stays}
use Rattle.comp_wire.proofs.leb.push_signed.Goals as goal

pub loop-rest-preserved : goal.loop-rest-preserved
loop-rest-preserved c = (
  one_byte_more (cond c.args.negative turned plain) 64 (lit< tt) (lit≤ tt) _ _ _ _ _ c.loop-rest-test.true c.loop-rest.invariant.0 (rw (c.low_bits.ensures.turned) at c.in_ok-push_byte.ensures.ok),
  front_stays _ _ _ _ c.loop-rest.invariant.1 c.in_ok-push_byte.ensures.ok,
)

pub returns-clause-ok : goal.returns-clause-ok
returns-clause-ok c = on_ok_weaker c.push_byte-2.result (last_byte (cond c.args.negative turned plain) 64 (lit< tt) (lit≤ tt) _ _ _ _ _ c.loop-rest-test.false c.loop-rest.invariant.0) (rw c.low_bits-2.ensures.turned at c.push_byte-2.ensures.ok)
