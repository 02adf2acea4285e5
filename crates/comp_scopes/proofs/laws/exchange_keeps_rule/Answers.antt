use Rattle.comp_scopes.proofs.Exchange.{rule-exchanged}
use Rattle.comp_scopes.proofs.laws.exchange_keeps_rule.Goals as goal

pub returns : goal.returns
returns c = rule-exchanged
