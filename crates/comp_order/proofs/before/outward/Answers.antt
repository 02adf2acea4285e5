use Rattle.std.proofs.Common.{arith}
use Rattle.comp_order.proofs.Outward.{outward_begins, outward_goes, outward_ends, outward_here}
use Rattle.comp_order.proofs.before.outward.Goals as goal

pub loop-left-init : goal.loop-left-init
loop-left-init c = λ befores h. outward_begins c.args.around c.args.up befores h

pub loop-left-preserved : goal.loop-left-preserved
loop-left-preserved c = λ befores h. outward_goes c.loop-left.at c.in-Scope.before c.loop-left.left _ c.in-Scope.is c.loop-left-test.true (c.loop-left.invariant befores h)

pub returns-in-Nothing : goal.returns-in-Nothing
returns-in-Nothing c = λ befores h. outward_ends c.loop-left.at c.loop-left.left _ c.in-Nothing.is (c.loop-left.invariant befores h)

pub returns : goal.returns
returns c = λ befores h. outward_here c.loop-left.at c.loop-left.left _ (omega (arith, c.loop-left-test.false)) (c.loop-left.invariant befores h)
