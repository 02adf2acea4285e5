use Rattle.core_model.specs.Weight.{weight_of_field}
use Rattle.core_syntax.specs.Fields.{field_of}
use Rattle.core_syntax.proofs.Turns.{all-weighed}
use Rattle.core_syntax.proofs.weight.core_weight.Goals as goal

pub returns : goal.returns
returns c = all-weighed weight_of_field field_of c.args.fields.now c.loop-field.field-index c.loop-field.total _ c.loop-field-test.false c.loop-field.invariant.within c.loop-field.invariant.sum
