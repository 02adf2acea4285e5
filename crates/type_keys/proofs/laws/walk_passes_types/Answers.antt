use Rattle.type_keys.proofs.Search.{leaves-walked}
use Rattle.type_keys.proofs.laws.walk_passes_types.Goals as goal

pub returns : goal.returns
returns c = leaves-walked
