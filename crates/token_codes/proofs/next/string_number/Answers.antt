use Rattle.std.proofs.Common.{refl}
use Rattle.token_codes.proofs.Others.{string_ok, string_err}
use Rattle.token_codes.proofs.next.string_number.Goals as goal

pub returns-in-Ok : goal.returns-in-Ok
returns-in-Ok c = string_ok c.args.bytes.now c.in-Ok.ensures.cases.1

pub returns-in-Err : goal.returns-in-Err
returns-in-Err c = string_err _ c.args.bytes.now refl c.in-Err.ensures.cases.0
