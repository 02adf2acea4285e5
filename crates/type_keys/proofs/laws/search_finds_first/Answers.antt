use Rattle.type_keys.proofs.Search.{found}
use Rattle.type_keys.proofs.laws.search_finds_first.Goals as goal

pub returns : goal.returns
returns c = found
