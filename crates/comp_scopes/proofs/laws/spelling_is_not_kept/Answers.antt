use Rattle.comp_scopes.proofs.Lost.{both-rendered}
use Rattle.comp_scopes.proofs.laws.spelling_is_not_kept.Goals as goal

pub returns : goal.returns
returns c = both-rendered
