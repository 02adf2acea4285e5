use Rattle.wire_read.proofs.SectionReads.{lead_refused}
use Rattle.wire_read.proofs.component.expect_all.Goals as goal

pub returns-then-not-expect : goal.returns-then-not-expect
returns-then-not-expect c = ((λ e. cc), λ e. lead_refused c.args.bytes.now c.loop-byte.byte-index _ _ _ c.loop-byte-test.true c.loop-byte.invariant (c.expect.ensures.1 c.if-not-expect.true))
