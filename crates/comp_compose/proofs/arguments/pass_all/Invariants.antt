use Rattle.std.proofs.Common.{◌^◌}
use Rattle.plan_lines.specs.Shown.{SpansBelow, size}
use Rattle.comp_compose.proofs.Passing.{Passing}
use Rattle.comp_compose.proofs.arguments.pass_all.Given as goal

abbrev pub invariant-loop-left : goal.invariant-loop-left
invariant-loop-left l = record { spans : SpansBelow l.left (2 ^ 64); passing : Passing l.names l.fn.arguments l.left l.passed.items }

abbrev pub decreases-loop-left : goal.decreases-loop-left
decreases-loop-left l = size l.left
