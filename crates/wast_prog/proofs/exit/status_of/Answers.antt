use Rattle.std.proofs.Common.{map, string_bytes, ap, subst, ◌∙◌}
use Rattle.std.specs.Vec.Iter.{into_iter_items}
use Rattle.wast_prog.specs.Ends.{change, Ends}
use Rattle.wast_prog.proofs.Endings.{ends_without_memory}
use Rattle.wast_prog.proofs.Words.{map-drop}
use Rattle.wast_prog.proofs.exit.status_of.Goals as goal

pub returns-in-Ok : goal.returns-in-Ok
returns-in-Ok g c =
    subst (λ words. Ends words (change g.S.Source.left g.S.Source.faults c.args.input.now c.run.new.input) (change g.O.Sink.taken g.O.Sink.faults c.args.output.now c.run.new.output) (change g.E.Sink.taken g.E.Sink.faults c.args.faults.now c.run.new.faults) c.run.result)
    (ap (map string_bytes) (c.deref.ensures.value ∙ c.in-Ok.ensures) ∙ map-drop string_bytes (into_iter_items c.args.arguments)) c.run.ensures.ends

pub returns-in-Err : goal.returns-in-Err
returns-in-Err g c =
    ends_without_memory _ (change g.S.Source.left g.S.Source.faults c.args.input.now c.args.input.now)
    (g.O.Sink.taken c.args.output.now) (g.E.Sink.taken c.args.faults.now) (g.O.Sink.faults c.args.output.now) (g.E.Sink.faults c.args.faults.now)
