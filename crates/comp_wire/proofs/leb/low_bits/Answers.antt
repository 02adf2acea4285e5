use Rattle.std.proofs.Common.{refl}
use Rattle.comp_wire.proofs.leb.low_bits.Goals as goal

pub returns-then-negative-clause-turned : goal.returns-then-negative-clause-turned
returns-then-negative-clause-turned c = rw c.if-negative.true refl

pub returns-else-negative-clause-turned : goal.returns-else-negative-clause-turned
returns-else-negative-clause-turned c = rw c.if-negative.false refl
