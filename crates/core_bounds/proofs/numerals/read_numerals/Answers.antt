use Rattle.core_model.specs.Words.{FieldsWord}
use Rattle.core_syntax.specs.Fields.{field_of}
use Rattle.core_bounds.proofs.Turns.{held-turn, held-end}
use Rattle.core_bounds.proofs.numerals.read_numerals.Goals as goal

pub loop-field-init : goal.loop-field-init
loop-field-init c = λ h. h

pub loop-field-preserved : goal.loop-field-preserved
loop-field-preserved c = held-turn FieldsWord field_of _ c.args.fields.now c.loop-field.field-index c.field-item.result c.loop-field-test.true c.field-item.is (λ rest. (c.read_field.ensures, rest)) c.loop-field.invariant

pub returns : goal.returns
returns c = held-end FieldsWord field_of _ c.args.fields.now c.loop-field.field-index c.loop-field-test.false tt c.loop-field.invariant
