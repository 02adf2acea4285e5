use Rattle.std.proofs.Common.{subst, sym}
use Rattle.wast_prog.specs.Answer.{Replies}
use Rattle.byte_streams.specs.Outside.Reads.{none}
use Rattle.wast_prog.proofs.Endings.{some_whole}
use Rattle.wast_prog.proofs.reply.reply_to.Goals as goal

pub returns-in-Ok-clause-ok : goal.returns-in-Ok-clause-ok
returns-in-Ok-clause-ok g c =
    let whole = some_whole (g.S.Source.left c.args.input.now) in
    (whole.0, whole.1, subst (λ what. Replies whole.0 what c.in-Ok.reply) (sym c.in-Sample.is) (c.in-Ok.ensures whole.0))

pub returns-in-Ok-clause-reads : goal.returns-in-Ok-clause-reads
returns-in-Ok-clause-reads g c = none

pub returns-in-Err-clause-reads : goal.returns-in-Err-clause-reads
returns-in-Err-clause-reads g c = none
