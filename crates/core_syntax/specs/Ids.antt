-- What ids and references of a tree stand for as data of a core module or component.
use Rattle.std.specs.Prelude.{Option, Some, None}
use Rattle.comp_model.specs.Core as core
use Rattle.comp_model.specs.CoreModules as c
use Rattle.wast_parser.specs.declared.index.Id.{Id}
use Rattle.wast_parser.specs.declared.index.Index.{Index}
use Rattle.wast_parser.specs.declared.index.Index.TheVariants as tree

-- an id with its number and its place
abbrev pub id_of : Id → core.Id
id_of x = record { name = x.name.now; number = x.number; offset = x.span.offset }

abbrev pub option_id : Option Id → Option core.Id
option_id None = None
option_id (Some x) = Some (id_of x)

-- a reference with its place
abbrev pub reference_of : Index → c.Index
reference_of (tree.Num n s) = c.number s.offset n
reference_of (tree.Id x) = c.named (id_of x)
