use Rattle.comp_scopes.proofs.RowsRowed.{scope-rowed}
use Rattle.comp_scopes.proofs.laws.rows_are_rowed.Goals as goal

pub returns : goal.returns
returns c = scope-rowed
