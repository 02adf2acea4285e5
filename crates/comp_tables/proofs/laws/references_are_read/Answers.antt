use Rattle.comp_tables.proofs.Read.{found_indices-read, needs-of}
use Rattle.comp_tables.proofs.laws.references_are_read.Goals as goal

pub returns-clause-indices : goal.returns-clause-indices
returns-clause-indices c = found_indices-read

pub returns-clause-needs : goal.returns-clause-needs
returns-clause-needs c = needs-of
