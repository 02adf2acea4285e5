use Rattle.comp_weight.proofs.Covered.{form-covered}
use Rattle.comp_weight.proofs.laws.covered_form_is_covered.Goals as goal

pub returns : goal.returns
returns c = form-covered
