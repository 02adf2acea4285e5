use Rattle.core_syntax.specs.Fields.{field_of}
use Rattle.core_syntax.proofs.Turns.{refused-at}
use Rattle.core_syntax.proofs.uncovered.core_uncovered.Goals as goal

pub returns-in-Some : goal.returns-in-Some
returns-in-Some c = refused-at field_of c.args.fields.now c.loop-field.field-index c.field-item.result c.in-Some.refusal _ c.loop-field-test.true c.field-item.is c.loop-field.invariant c.in-Some.ensures
