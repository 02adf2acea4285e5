use Rattle.plan_lines.specs.Shown.{size}
use Rattle.comp_compose.proofs.Going.{Going}
use Rattle.comp_compose.proofs.from_plan.add_lines.Given as goal

abbrev pub invariant-loop-line : goal.invariant-loop-line
invariant-loop-line l = Going l.composer l.plan l.left

abbrev pub decreases-loop-line : goal.decreases-loop-line
decreases-loop-line l = size l.left
