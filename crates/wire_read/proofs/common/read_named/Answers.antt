use Rattle.wire_read.proofs.WrittenOut.{no_name, no_value, named_read}
use Rattle.wire_read.proofs.common.read_named.Goals as goal

pub returns-in-None : goal.returns-in-None
returns-in-None c = λ left. no_name left c.args.input.now c.in-None.ensures

pub returns-in-None-value_leaf : goal.returns-in-None-value_leaf
returns-in-None-value_leaf c = λ left. no_value left c.args.input.now c.in-Some.name _ c.in-Some.ensures c.in-None-value_leaf.ensures

pub returns-in-Ok : goal.returns-in-Ok
returns-in-Ok c = λ left. named_read left c.args.input.now c.in-Some.name c.in-Some-value_leaf.value _ _ c.in-Ok.leaves c.in-Some.ensures c.in-Some-value_leaf.ensures c.in-Ok.ensures
