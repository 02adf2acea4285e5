-- What resolving leaves of types, and how it is refused.
use Rattle.std.specs.Prelude.{List, Option}
use Rattle.comp_model.specs.Core as core
use Rattle.comp_model.specs.Core.{CoreRefusal}
use Rattle.comp_model.specs.CoreModules as c
use Rattle.wast_tokens.specs.declared.error.Error.{Error}
use Rattle.wast_tokens.specs.declared.error.ErrorKind.TheVariants.{Unknown}
use Rattle.core_model.specs.Resolved.{numbered_signature}
use Rattle.core_names.specs.Names.{refusal}

-- a type definition with each name replaced by its number
abbrev pub numbered_def : List (Option core.Id) → c.TypeDef → c.TypeDef
numbered_def ids (c.function t) = c.function (numbered_signature ids t)
numbered_def ids (c.other_type o) = c.other_type o

-- a name that isn't found, as an error of a scope
abbrev pub unknown_error : CoreRefusal → Error
unknown_error r = refusal Unknown r.offset
