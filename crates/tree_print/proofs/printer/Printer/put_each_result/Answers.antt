use Rattle.std.proofs.Common.{arith}
use Rattle.tree_print.specs.Taken.{taken}
use Rattle.tree_print.proofs.Puts.{one_result}
use Rattle.tree_print.proofs.printer.Printer.put_each_result.Goals as goal

pub loop-preserved : goal.loop-preserved
loop-preserved c = (omega (arith, c.loop-test.true), one_result _ (taken c.loop.self) _ c.args.count c.loop.counter c.loop-test.true c.in_ok-put_result.ensures c.loop.invariant.1)
