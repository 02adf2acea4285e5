use Rattle.std.proofs.Common.{◌≡◌, ◌^◌, is_some}
use Rattle.plan_lines.specs.Lines.{arguments}
use Rattle.plan_lines.specs.Shown.{rest_of, SpansBelow, size}
use Rattle.plan_lines.proofs.line.are_arguments.Given as goal

abbrev pub invariant-loop-left : goal.invariant-loop-left
invariant-loop-left l = record { spans : SpansBelow l.left (2 ^ 64); same : is_some (arguments (rest_of 32 l.left)) ≡ is_some (arguments (rest_of 32 l.fn.rest)) }

abbrev pub decreases-loop-left : goal.decreases-loop-left
decreases-loop-left l = size l.left
