use Rattle.std.proofs.Common.{refl}
use Rattle.std.proofs.lemmas.Result.{on_ok_weaker}
use Rattle.comp_compose.proofs.Runs.{can_write, one_written}
use Rattle.comp_compose.proofs.writer.Writer.put.Goals as goal

pub put-requires-clause-room : goal.put-requires-clause-room
put-requires-clause-room c = can_write c.args.self.now c.requires.room.0 c.requires.room.1 _ c.requires.room.2

pub returns : goal.returns
returns c = λ items w. on_ok_weaker c.put.result (λ h. one_written c.args.self.now items w _ _ refl h) (c.put.ensures w.back w.held)
