use Rattle.comp_weight.proofs.Law.{form-short}
use Rattle.comp_weight.proofs.laws.light_form_is_short.Goals as goal

pub returns : goal.returns
returns c = form-short
