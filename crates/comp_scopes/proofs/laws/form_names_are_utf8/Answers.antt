use Rattle.comp_scopes.proofs.FormUtf8.{form-utf8}
use Rattle.comp_scopes.proofs.laws.form_names_are_utf8.Goals as goal

pub returns : goal.returns
returns c = form-utf8
