use Rattle.std.proofs.Common.{◌≡◌, ◌^◌}
use Rattle.plan_lines.specs.Lines.{lines, first_bad}
use Rattle.plan_lines.specs.Shown.{lines_left, SpansBelow, size}
use Rattle.plan_lines.proofs.plan.first_bad_line.Given as goal

abbrev pub invariant-loop-line : goal.invariant-loop-line
invariant-loop-line l = record { spans : SpansBelow l.left (2 ^ 64); same : first_bad (lines_left l.left) ≡ first_bad (lines l.plan) }

abbrev pub decreases-loop-line : goal.decreases-loop-line
decreases-loop-line l = size l.left
