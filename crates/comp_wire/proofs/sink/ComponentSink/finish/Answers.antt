use Rattle.std.proofs.lemmas.Result.{IfOk-weaker}
use Rattle.comp_wire.specs.Spelled.{items_of}
use Rattle.comp_wire.specs.Definitions.{named_defs}
use Rattle.comp_wire.proofs.sink.ComponentSink.finish.Goals as goal

pub returns-clause-reads : goal.returns-clause-reads
returns-clause-reads c = λ defs names held fits.
    IfOk-weaker c.closed.result _ _ (λ v e. record { fits = fits; spelled = e }) (c.closed.ensures (items_of (named_defs defs names)) held)
