use Rattle.comp_tables.proofs.Made.{table-stands}
use Rattle.comp_tables.proofs.laws.table_has_first_indices.Goals as goal

pub returns : goal.returns
returns c = table-stands
