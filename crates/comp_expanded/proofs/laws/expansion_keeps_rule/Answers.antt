use Rattle.comp_expanded.proofs.FormsKept.{expands-rule}
use Rattle.comp_expanded.proofs.laws.expansion_keeps_rule.Goals as goal

pub returns : goal.returns
returns c = expands-rule
