use Rattle.comp_scopes.proofs.Before.{built-before}
use Rattle.comp_scopes.proofs.laws.generated_before_use.Goals as goal

pub returns : goal.returns
returns c = built-before
