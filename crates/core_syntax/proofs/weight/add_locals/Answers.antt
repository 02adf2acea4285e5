use Rattle.core_model.specs.Weight.{weight_of_local}
use Rattle.core_syntax.specs.Fields.{local_of}
use Rattle.core_syntax.proofs.Turns.{all-weighed}
use Rattle.core_syntax.proofs.weight.add_locals.Goals as goal

pub returns : goal.returns
returns c = all-weighed weight_of_local local_of c.args.locals.now c.loop-local.local-index c.loop-local.total _ c.loop-local-test.false c.loop-local.invariant.within c.loop-local.invariant.sum
