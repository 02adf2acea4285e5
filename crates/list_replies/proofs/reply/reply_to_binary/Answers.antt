use Rattle.std.proofs.Common.{IfOk, sym, subst}
use Rattle.binary_inputs.specs.Input.{NotRead}
use Rattle.binary_inputs.proofs.Tells.{raw_told}
use Rattle.list_replies.specs.Answer.{IsTold, Tells}
use Rattle.list_replies.proofs.reply.reply_to_binary.Goals as goal

pub returns-then-raw : goal.returns-then-raw
returns-then-raw c =
    subst (λ r. IfOk c.reply_to_bytes.result (Tells c.args.input.now r c.args.ask)) (sym c.if-raw.true)
    (raw_told (IsTold c.args.ask) NotRead c.args.input.now c.reply_to_bytes.result c.reply_to_bytes.ensures)
