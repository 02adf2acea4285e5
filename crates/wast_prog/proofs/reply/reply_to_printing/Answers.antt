use Rattle.std.proofs.Common.{ℕ, Vec, Global, ap}
use Rattle.wast_prog.proofs.Replies.{binary_printed, binary_unprinted}
use Rattle.wast_prog.proofs.reply.reply_to_printing.Goals as goal

pub returns-in-Output : goal.returns-in-Output
returns-in-Output c =
    binary_printed c.args.input.now c.into_bytes.result.items c.args.raw c.in_ok-text.field-0 c.in-Output.text c.requires c.in_ok-text.ensures c.in-Output.is (ap (λ (v : Vec ℕ Global). v.items) c.into_bytes.ensures.value)

pub returns-in-Refusal : goal.returns-in-Refusal
returns-in-Refusal c = binary_unprinted c.args.input.now c.args.raw c.in_ok-text.field-0 c.in-Refusal.line c.requires c.in_ok-text.ensures c.in-Refusal.is
