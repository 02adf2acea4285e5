use Rattle.comp_expanded.proofs.FormsKept.{expands-plan}
use Rattle.comp_expanded.proofs.laws.expansion_keeps_plan.Goals as goal

pub returns : goal.returns
returns c = expands-plan
