-- Parts of the rule as one goes over the fields of a module.
use Rattle.std.specs.Prelude.{List, [], ◌∷◌, ◌++◌, flat_map, Option}
use Rattle.comp_model.specs.Core.{Id, CoreRefusal}
use Rattle.comp_model.specs.CoreModules.{Local, TypeDef, Field, type_field}
use Rattle.core_model.specs.Rule.{first_broken, unknown_in_value, repeated}

-- the type definitions of the fields, in order: the place of one is its index
abbrev pub def_in : Field → List TypeDef
def_in (type_field o n d) = d ∷ []
def_in _ = []

abbrev pub type_defs : List Field → List TypeDef
type_defs fs = flat_map def_in fs

-- parameters or locals behind others of these ids: the names in the type of each, then its id
abbrev pub broken_behind : List (Option Id) → List (Option Id) → List Local → List (Option CoreRefusal)
broken_behind types ids [] = []
broken_behind types ids (l ∷ ls) =
    first_broken (unknown_in_value types l.value ∷ repeated ids l.naming.id ∷ []) ∷ broken_behind types (ids ++ l.naming.id ∷ []) ls
