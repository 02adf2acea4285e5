use Rattle.comp_tables.proofs.Names.{found-denotes}
use Rattle.comp_tables.proofs.laws.names_are_looked_up.Goals as goal

pub returns : goal.returns
returns c = found-denotes
