use Rattle.core_model.specs.Weight.{weight_of_local}
use Rattle.core_syntax.specs.Fields.{param_of}
use Rattle.core_syntax.proofs.Turns.{all-weighed}
use Rattle.core_syntax.proofs.weight.add_params.Goals as goal

pub returns : goal.returns
returns c = all-weighed weight_of_local param_of c.args.params.now c.loop-param.param-index c.loop-param.total _ c.loop-param-test.false c.loop-param.invariant.within c.loop-param.invariant.sum
