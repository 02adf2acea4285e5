use Rattle.comp_scopes.proofs.Kept.{kept-same}
use Rattle.comp_scopes.proofs.laws.renders_keeps.Goals as goal

pub returns : goal.returns
returns c = kept-same
