use Rattle.comp_scopes.proofs.Table.{marks-seam}
use Rattle.comp_scopes.proofs.laws.index_counts.Goals as goal

pub returns : goal.returns
returns c = marks-seam
