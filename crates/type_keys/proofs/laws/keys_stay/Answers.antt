use Rattle.type_keys.proofs.Search.{type-stays, keys-stay, passed-stays}
use Rattle.type_keys.proofs.laws.keys_stay.Goals as goal

pub returns-clause-key : goal.returns-clause-key
returns-clause-key c = type-stays

pub returns-clause-keys : goal.returns-clause-keys
returns-clause-keys c = keys-stay

pub returns-clause-passed : goal.returns-clause-passed
returns-clause-passed c = passed-stays
