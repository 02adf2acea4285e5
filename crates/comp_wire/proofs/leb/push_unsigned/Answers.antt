use Rattle.std.proofs.Common.{lit<, lit≤}
use Rattle.std.proofs.lemmas.Result.{on_ok_weaker}
use Rattle.comp_model.specs.Leb.{plain}
use Rattle.comp_wire.proofs.Numbers.{one_byte_more, last_byte, front_stays}
use Rattle.comp_wire.proofs.leb.push_unsigned.Goals as goal

pub loop-rest-preserved : goal.loop-rest-preserved
loop-rest-preserved c = (
  one_byte_more plain 128 (lit< tt) (lit≤ tt) _ _ _ _ _ c.loop-rest-test.true c.loop-rest.invariant.0 c.in_ok-push_byte.ensures.ok,
  front_stays _ _ _ _ c.loop-rest.invariant.1 c.in_ok-push_byte.ensures.ok,
)

pub returns-clause-ok : goal.returns-clause-ok
returns-clause-ok c = on_ok_weaker c.push_byte-2.result (last_byte plain 128 (lit< tt) (lit≤ tt) _ _ _ _ _ c.loop-rest-test.false c.loop-rest.invariant.0) c.push_byte-2.ensures.ok
