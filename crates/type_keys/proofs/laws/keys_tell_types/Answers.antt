use Rattle.type_keys.proofs.Agree.{keys-agree}
use Rattle.type_keys.proofs.laws.keys_tell_types.Goals as goal

pub returns : goal.returns
returns c = keys-agree
