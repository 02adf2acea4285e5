use Rattle.std.proofs.lemmas.Result.{on_ok_weaker}
use Rattle.comp_wire.proofs.Steps.{flushed_sink}
use Rattle.comp_wire.proofs.sink.ComponentSink.flush.Goals as goal

pub returns-in-Some : goal.returns-in-Some
returns-in-Some c = λ items h.
    on_ok_weaker c.append_section.result (λ e. flushed_sink c.args.self.now c.in-Some.kind items _ c.in-Some.is h (rw c.as_slice.ensures.value at e)) c.append_section.ensures
