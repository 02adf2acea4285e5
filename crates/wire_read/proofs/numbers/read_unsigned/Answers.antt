use Rattle.std.proofs.Common.{arith, subst, lit≤}
use Rattle.comp_model.specs.Leb.{uleb}
use Rattle.comp_wire.specs.Sections.{Word}
use Rattle.wire_read.specs.Reading.{Answers}
use Rattle.wire_read.proofs.Lebs.{last_byte}
use Rattle.wire_read.proofs.numbers.read_unsigned.Goals as goal

pub returns-in-Some : goal.returns-in-Some
returns-in-Some c = (omega (arith, c.in-Some.ensures.0), (last_byte 128 (lit≤ tt) (lit≤ tt) 0xffffffff c.in-Some.byte _ _ c.in-Some.ensures.0 (omega (arith, c.in-Some.ensures.0)) c.in-Some.ensures.1).1)

pub returns-in-None : goal.returns-in-None
returns-in-None c = subst (λ p. Answers Word uleb p c.read_long.new.input c.read_long.result) c.in-None.ensures c.read_long.ensures
