use Rattle.comp_expanded.proofs.TableExpands.{expands-by-table}
use Rattle.comp_expanded.proofs.laws.table_expands.Goals as goal

pub returns : goal.returns
returns c = expands-by-table
