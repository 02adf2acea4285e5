use Rattle.std.proofs.Common.{arith}
use Rattle.tree_write.proofs.Puts.{last_put}
use Rattle.tree_write.proofs.numbers.write_unsigned.Goals as goal

pub returns-then-value-lt128 : goal.returns-then-value-lt128
returns-then-value-lt128 g c = last_put 128 c.args.value _ _ (omega arith) (omega arith) c.if-value-lt128.true c.byte.ensures
