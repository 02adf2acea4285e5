use Rattle.std.proofs.Common.{refl}
use Rattle.token_codes.specs.Numbers.{hash}
use Rattle.token_codes.proofs.Words.{hash_none}
use Rattle.token_codes.proofs.numbers.hash_of.Goals as goal

pub returns-then-length-eq0-clause-hash : goal.returns-then-length-eq0-clause-hash
returns-then-length-eq0-clause-hash c = hash_none c.args.bytes.now c.if-length-eq0.true

pub returns-clause-hash : goal.returns-clause-hash
unfolding hash
returns-clause-hash c = refl
