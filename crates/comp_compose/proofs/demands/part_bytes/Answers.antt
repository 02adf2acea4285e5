use Rattle.comp_compose.proofs.Digits.{no_length}
use Rattle.comp_compose.proofs.demands.part_bytes.Goals as goal

pub unreachable-requires : goal.unreachable-requires
unreachable-requires c = no_length c.args.digits.now.bytes.now _ c.in-Err-InvalidStringLength.field-0-is c.in-Err-InvalidStringLength.ensures.err
