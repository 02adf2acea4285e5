use Rattle.core_syntax.specs.Fields.{fields_of}
use Rattle.core_resolve.proofs.field.number_all.Given as goal

abbrev pub ghost-number_each : goal.ghost-number_each
ghost-number_each a = fields_of a.fields.now
