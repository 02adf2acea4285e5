use Rattle.std.proofs.Common.{arith}
use Rattle.comp_list.proofs.Chains.{thirteen_chains}
use Rattle.comp_list.proofs.spots.Spots.new.Goals as goal

pub invariant_of-result : goal.invariant_of-result
invariant_of-result c = thirteen_chains _ c.loop.counter c.loop.invariant.1 (omega (arith, c.loop.invariant.0, c.loop-test.false))
