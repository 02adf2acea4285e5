use Rattle.type_keys.proofs.Noted.{first-reused}
use Rattle.type_keys.proofs.laws.first_equal_is_reused.Goals as goal

pub returns : goal.returns
returns c = first-reused
