use Rattle.origin_lines.proofs.FewMarks.{plan-cost}
use Rattle.origin_lines.proofs.laws.plan_costs_its_marks.Goals as goal

pub returns : goal.returns
returns c = plan-cost
