use Rattle.tree_resolve.proofs.OfRows.{expansion-source}
use Rattle.tree_resolve.proofs.laws.expansion_is_source.Goals as goal

pub returns : goal.returns
returns c = expansion-source
