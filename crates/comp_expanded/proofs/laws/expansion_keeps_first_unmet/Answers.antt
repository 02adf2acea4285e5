use Rattle.comp_expanded.proofs.FormsKept.{expands-unmet}
use Rattle.comp_expanded.proofs.laws.expansion_keeps_first_unmet.Goals as goal

pub returns : goal.returns
returns c = expands-unmet
