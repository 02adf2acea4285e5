use Rattle.std.proofs.Common.{refl}
use Rattle.comp_wire.proofs.Steps.{new_sink}
use Rattle.comp_wire.proofs.sink.ComponentSink.new.Goals as goal

pub returns : goal.returns
returns c = record { empty = new_sink _ c.in_ok-done.ensures refl }
