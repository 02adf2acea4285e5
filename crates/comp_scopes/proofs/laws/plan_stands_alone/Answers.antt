use Rattle.comp_scopes.proofs.PlanAlone.{plan-alone}
use Rattle.comp_scopes.proofs.laws.plan_stands_alone.Goals as goal

pub returns : goal.returns
returns c = plan-alone
