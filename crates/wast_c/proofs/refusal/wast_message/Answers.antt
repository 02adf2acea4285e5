use Rattle.std.proofs.Common.{inl}
use Rattle.wast_c.proofs.refusal.wast_message.Goals as goal

pub returns-in-Ok : goal.returns-in-Ok
returns-in-Ok c = record { answers = inl (c.as_bytes.result.now, c.as_bytes.ensures.utf8, c.hand_out.ensures) }
