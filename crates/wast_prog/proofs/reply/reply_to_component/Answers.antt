use Rattle.std.proofs.Common.{ℕ, Vec, Global, ap}
use Rattle.wast_prog.proofs.Replies.{binary_read, binary_unread}
use Rattle.wast_prog.proofs.reply.reply_to_component.Goals as goal

pub returns-in-Output : goal.returns-in-Output
returns-in-Output c =
    binary_read c.args.input.now c.into_bytes.result.items c.args.raw c.args.ask c.in_ok-lines.field-0 c.in-Output.lines c.requires c.in_ok-lines.ensures c.in-Output.is (ap (λ (v : Vec ℕ Global). v.items) c.into_bytes.ensures.value)

pub returns-in-Refusal : goal.returns-in-Refusal
returns-in-Refusal c = binary_unread c.args.input.now c.args.raw c.args.ask c.in_ok-lines.field-0 c.in-Refusal.line c.requires c.in_ok-lines.ensures c.in-Refusal.is
