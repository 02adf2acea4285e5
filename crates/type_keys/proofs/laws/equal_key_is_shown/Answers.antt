use Rattle.type_keys.proofs.Noted.{equal-shown}
use Rattle.type_keys.proofs.laws.equal_key_is_shown.Goals as goal

pub returns : goal.returns
returns c = equal-shown
