use Rattle.comp_scopes.proofs.FormRows.{form-fits}
use Rattle.comp_scopes.proofs.laws.form_fits_rows.Goals as goal

pub returns : goal.returns
returns c = form-fits
