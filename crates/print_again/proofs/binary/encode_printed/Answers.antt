use Rattle.print_again.proofs.ValidPrints.{valid_as, encodes_as}
use Rattle.print_again.proofs.binary.encode_printed.Goals as goal

pub unreachable-requires : goal.unreachable-requires
unreachable-requires c =
    let p = c.requires.printed in
    let v = c.printed_text_is_valid.ensures p.0 p.1 in
    c.in_default.not-NoMemory (c.in-Err.ensures.complete _ (valid_as _ _ v.source p.2 v.valid))

pub returns-in-Ok : goal.returns-in-Ok
returns-in-Ok c = λ b h e. c.printed_text_is_read_back.ensures b h _ (encodes_as _ _ _ e c.in-Ok.ensures.encodes)
