use Rattle.comp_expanded.proofs.FormsKept.{expands-form}
use Rattle.comp_expanded.proofs.laws.expansion_keeps_form.Goals as goal

pub returns : goal.returns
returns c = expands-form
