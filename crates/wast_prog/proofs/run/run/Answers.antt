use Rattle.std.proofs.Common.{refl, sym, inl}
use Rattle.wast_prog.specs.declared.run.Status.TheVariants.{Done, Refused, Usage}
use Rattle.wast_prog.specs.Answer.RunAnswers.{usage}
use Rattle.byte_streams.specs.Outside.Reads.{none}
use Rattle.wast_prog.specs.Ends.{change}
use Rattle.byte_streams.proofs.Transfers.{appends_nothing}
use Rattle.wast_prog.proofs.Endings.{ends_by_faults, ends_by_output, some_whole, reply_output, reply_faults, reads_then, writes_by_output, writes_by_faults}
use Rattle.wast_prog.proofs.run.run.Goals as goal

pub returns-in-None-clause-ends : goal.returns-in-None-clause-ends
returns-in-None-clause-ends g c =
    let whole = some_whole (g.S.Source.left c.args.input.now) in
    ends_by_faults _ (change g.S.Source.left g.S.Source.faults c.args.input.now c.args.input.now) _ _ _ Usage _ _ _ c.as_bytes.ensures.value
    (whole.0, whole.1, usage (sym c.in-None.ensures))
    c.finish.ensures.ends (λ h. h)

pub returns-in-None-clause-reads : goal.returns-in-None-clause-reads
returns-in-None-clause-reads g c = reads_then _ _ _ Usage _ none none c.finish.ensures.ends

pub returns-in-Ok-Output-clause-ends : goal.returns-in-Ok-Output-clause-ends
returns-in-Ok-Output-clause-ends g c =
    ends_by_output _ (change g.S.Source.left g.S.Source.faults c.args.input.now c.reply_to.new.input) _ _ _ Done _ _ _ c.deref.ensures.value
    (reply_output _ (change g.S.Source.left g.S.Source.faults c.args.input.now c.reply_to.new.input) _ _ _ (sym c.in-Some.ensures) c.in-Ok-Output.ensures.ok c.in-Ok-Output.field-0-is)
    c.finish-in-Ok-Output.ensures.ends (λ h. h)

pub returns-in-Ok-Faults-clause-ends : goal.returns-in-Ok-Faults-clause-ends
returns-in-Ok-Faults-clause-ends g c =
    ends_by_faults _ (change g.S.Source.left g.S.Source.faults c.args.input.now c.reply_to.new.input) _ _ _ Refused _ _ _ c.as_bytes-in-Ok-Faults.ensures.value
    (reply_faults _ (change g.S.Source.left g.S.Source.faults c.args.input.now c.reply_to.new.input) _ _ _ (sym c.in-Some.ensures) c.in-Ok-Faults.ensures.ok c.in-Ok-Faults.field-0-is)
    c.finish-in-Ok-Faults.ensures.ends (λ h. h)

pub returns-in-Err-Failed-clause-ends : goal.returns-in-Err-Failed-clause-ends
returns-in-Err-Failed-clause-ends g c = (
  (_, sym c.in-Some.ensures, (rw c.in-Err-Failed.field-0-is at c.in-Err-Failed.ensures.failed) refl),
  (rw c.in-Err-Failed.field-0-is at c.in-Err-Failed.ensures.cause) refl,
  (appends_nothing _, appends_nothing _),
)

pub returns-in-Err-NoMemory-clause-ends : goal.returns-in-Err-NoMemory-clause-ends
returns-in-Err-NoMemory-clause-ends g c = inl ((_, sym c.in-Some.ensures), (appends_nothing _, appends_nothing _))

pub returns-in-None-clause-writes : goal.returns-in-None-clause-writes
returns-in-None-clause-writes g c = writes_by_faults g.O.Sink.write_gives g.E.Sink.write_gives c.args.output.now Usage (λ w. (refl, w)) c.finish.ensures.writes

pub returns-in-Ok-Output-clause-writes : goal.returns-in-Ok-Output-clause-writes
returns-in-Ok-Output-clause-writes g c = writes_by_output g.O.Sink.write_gives g.E.Sink.write_gives c.args.faults.now c.finish-in-Ok-Output.ensures.writes

pub returns-in-Ok-Faults-clause-writes : goal.returns-in-Ok-Faults-clause-writes
returns-in-Ok-Faults-clause-writes g c = writes_by_faults g.O.Sink.write_gives g.E.Sink.write_gives c.args.output.now Refused (λ w. (refl, w)) c.finish-in-Ok-Faults.ensures.writes

pub returns-in-Err-Failed-clause-writes : goal.returns-in-Err-Failed-clause-writes
returns-in-Err-Failed-clause-writes g c = (refl, refl)

pub returns-in-Err-NoMemory-clause-writes : goal.returns-in-Err-NoMemory-clause-writes
returns-in-Err-NoMemory-clause-writes g c = inl (refl, refl)
