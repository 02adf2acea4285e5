use Rattle.comp_compose.proofs.Runs.{can_close, all_written}
use Rattle.comp_compose.proofs.writer.Writer.finish.Goals as goal

pub append_run-requires-clause-short : goal.append_run-requires-clause-short
append_run-requires-clause-short c = let r = c.requires.room in can_close c.args.self r.0 r.1 r.2

pub append_run-requires-clause-held : goal.append_run-requires-clause-held
append_run-requires-clause-held c = let w = c.requires.room.1 in (w.back, w.held)

pub returns : goal.returns
returns c = λ items w. all_written c.args.self items w c.append_run.new.out.items (c.in_ok-append_run.ensures w.back w.held)
