use Rattle.comp_scopes.proofs.Exchange.{form-exchanged, names-exchanged}
use Rattle.comp_scopes.proofs.laws.exchange_keeps_form.Goals as goal

pub returns-clause-outside : goal.returns-clause-outside
returns-clause-outside c = form-exchanged

pub returns-clause-names : goal.returns-clause-names
returns-clause-names c = names-exchanged
