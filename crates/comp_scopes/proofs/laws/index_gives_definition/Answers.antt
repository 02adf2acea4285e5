use Rattle.comp_scopes.proofs.Lookup.{built-part}
use Rattle.comp_scopes.proofs.laws.index_gives_definition.Goals as goal

pub returns : goal.returns
returns c = built-part
