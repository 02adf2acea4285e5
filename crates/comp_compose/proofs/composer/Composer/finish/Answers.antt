use Rattle.std.proofs.lemmas.Result.{IfOk-weaker}
use Rattle.comp_wire.specs.Spelled.{items_of}
use Rattle.comp_compose.proofs.Going.{composed_of}
use Rattle.comp_compose.proofs.composer.Composer.finish.Goals as goal

pub returns : goal.returns
returns c = λ ls spent g k. IfOk-weaker c.finish.result _ _ (λ v e. composed_of c.args.self ls spent v.items g k e) (c.finish.ensures (items_of g.definitions) g.written)
