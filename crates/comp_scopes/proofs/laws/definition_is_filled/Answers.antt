use Rattle.comp_scopes.proofs.Filled.{definition-filled, leaves-filled}
use Rattle.comp_scopes.proofs.laws.definition_is_filled.Goals as goal

pub returns-clause-whole : goal.returns-clause-whole
returns-clause-whole c = definition-filled

pub returns-clause-part : goal.returns-clause-part
returns-clause-part c = leaves-filled
