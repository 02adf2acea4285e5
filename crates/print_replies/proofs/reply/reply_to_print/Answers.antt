use Rattle.std.proofs.Common.{IfOk, sym, subst}
use Rattle.binary_inputs.proofs.Tells.{raw_told}
use Rattle.print_replies.specs.Answer.{IsTold, NotPrinted, Tells}
use Rattle.print_replies.proofs.reply.reply_to_print.Goals as goal

pub returns-then-raw : goal.returns-then-raw
returns-then-raw c =
    subst (λ r. IfOk c.reply_to_bytes.result (Tells c.args.input.now r)) (sym c.if-raw.true)
    (raw_told IsTold NotPrinted c.args.input.now c.reply_to_bytes.result c.reply_to_bytes.ensures)
