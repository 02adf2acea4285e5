use Rattle.std.proofs.Common.{IfOk, codes, sym, ap, subst, ◌∙◌}
use Rattle.hex.specs.Hex.{decode_of}
use Rattle.binary_inputs.specs.Input.{NotRead, IsRefusal, digits_of}
use Rattle.binary_inputs.proofs.Digits.{refused_at}
use Rattle.binary_inputs.proofs.Tells.{digits_told, digits_refused}
use Rattle.list_replies.specs.Answer.{IsTold, TellsOfBytes}
use Rattle.list_replies.proofs.reply.reply_to_digits.Goals as goal

pub returns-in-Ok : goal.returns-in-Ok
returns-in-Ok c =
    digits_told (IsTold c.args.ask) NotRead c.args.input.now c.in-Ok.bytes.items c.reply_to_bytes.result (ap decode_of (sym c.digits_of.ensures) ∙ c.in-Ok.ensures.ok)
    (subst (λ xs. IfOk c.reply_to_bytes.result (TellsOfBytes xs c.args.ask)) c.as_slice.ensures.value c.reply_to_bytes.ensures)

pub returns-in-Err-At : goal.returns-in-Err-At
returns-in-Err-At c =
    digits_refused (IsTold c.args.ask) NotRead c.args.input.now c.in-Err-At.offset c.told_digits.result
    (refused_at (digits_of c.args.input.now) c.digits_of.result.now c.in-Err-At.field-0 c.in-Err-At.offset c.digits_of.ensures c.in-Err-At.field-0-is c.in-Err-At.ensures.err)
    (subst (λ o. IfOk c.told_digits.result (IsRefusal (codes "hex") o)) c.in-Err-At.offset-is c.told_digits.ensures)
