use Rattle.std.proofs.Common.{◌∙◌, sym, refl}
use Rattle.comp_wire.proofs.Steps.{takes_open, takes_new}
use Rattle.comp_wire.proofs.sink.ComponentSink.open.Goals as goal

pub returns-then-joins_open-clause-takes : goal.returns-then-joins_open-clause-takes
returns-then-joins_open-clause-takes c = λ items h. takes_open c.args.self.now c.args.kind items (sym c.joins_open.ensures ∙ c.if-joins_open.true) h

pub returns-clause-takes : goal.returns-clause-takes
returns-clause-takes c = λ items h.
    takes_new c.args.self.now _ c.args.kind items (sym c.if-joins_open.ensures) h (c.in_ok-flush.ensures items h) refl refl c.clear.ensures.items
