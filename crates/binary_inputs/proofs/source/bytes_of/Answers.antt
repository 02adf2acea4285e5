use Rattle.binary_inputs.proofs.Digits.{bad_digit_refuses, no_length}
use Rattle.binary_inputs.proofs.source.bytes_of.Goals as goal

pub returns-in-Err-InvalidHexCharacter-clause-err : goal.returns-in-Err-InvalidHexCharacter-clause-err
returns-in-Err-InvalidHexCharacter-clause-err c =
    bad_digit_refuses c.args.digits.now _ c.in-Err-InvalidHexCharacter.field-0-0 c.in-Err-InvalidHexCharacter.index c.in-Err-InvalidHexCharacter.field-0-is c.in-Err-InvalidHexCharacter.ensures.err

pub unreachable-requires : goal.unreachable-requires
unreachable-requires c = no_length c.args.digits.now _ c.in-Err-InvalidStringLength.field-0-is c.in-Err-InvalidStringLength.ensures.err
