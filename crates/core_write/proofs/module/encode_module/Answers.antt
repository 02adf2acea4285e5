use Rattle.std.proofs.Common.{◌∙◌}
use Rattle.core_syntax.specs.Fields.{naming_of, fields_of}
use Rattle.core_write.proofs.ModuleBytes.{bytes-same}
use Rattle.core_write.proofs.module.encode_module.Goals as goal

pub returns-in-Ok-clause-bytes : goal.returns-in-Ok-clause-bytes
returns-in-Ok-clause-bytes c = c.in-Ok.ensures ∙ bytes-same (naming_of c.args.id.now c.args.name.now) (fields_of c.args.fields.now) c.requires.resolved
