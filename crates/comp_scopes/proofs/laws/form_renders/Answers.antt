use Rattle.comp_scopes.proofs.Agree.{form-renders}
use Rattle.comp_scopes.proofs.laws.form_renders.Goals as goal

pub returns : goal.returns
returns c = form-renders
