use Rattle.comp_scopes.proofs.Exchange.{first_unmet-exchanged}
use Rattle.comp_scopes.proofs.laws.exchange_keeps_first_unmet.Goals as goal

pub returns : goal.returns
returns c = first_unmet-exchanged
