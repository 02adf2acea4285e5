use Rattle.wast_prog.proofs.Replies.{plan_composed, plan_refused}
use Rattle.wast_prog.proofs.reply.reply_to_composition.Goals as goal

pub returns-in-Output : goal.returns-in-Output
returns-in-Output c = plan_composed c.args.input.now c.args.raw c.in_ok-out.field-0 c.in-Output.out c.requires c.in_ok-out.ensures c.in-Output.is

pub returns-in-Refusal : goal.returns-in-Refusal
returns-in-Refusal c = plan_refused c.args.input.now c.args.raw c.in_ok-out.field-0 c.in-Refusal.line c.requires c.in_ok-out.ensures c.in-Refusal.is
