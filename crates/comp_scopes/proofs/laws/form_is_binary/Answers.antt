use Rattle.comp_scopes.proofs.FormBinary.{form-binary}
use Rattle.comp_scopes.proofs.laws.form_is_binary.Goals as goal

pub returns : goal.returns
returns c = form-binary
