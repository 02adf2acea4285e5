use Rattle.comp_scopes.proofs.Exchange.{plan-exchanged}
use Rattle.comp_scopes.proofs.laws.exchange_keeps_plan.Goals as goal

pub returns : goal.returns
returns c = plan-exchanged
