use Rattle.comp_scopes.proofs.Quiet.{rule-none}
use Rattle.comp_scopes.proofs.laws.rule_or_first_unmet.Goals as goal

pub returns : goal.returns
returns c = rule-none
