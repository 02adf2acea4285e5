use Rattle.comp_scopes.proofs.Formed.{built-marks}
use Rattle.comp_scopes.proofs.laws.form_has_marks.Goals as goal

pub returns : goal.returns
returns c = built-marks
