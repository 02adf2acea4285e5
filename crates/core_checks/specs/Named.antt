-- Names that are registered field by field.
use Rattle.std.specs.Prelude.{◌<◌, ◌-◌, ◌^◌, List, [], ◌∷◌, ◌++◌, length, Option, Some, None}
use Rattle.comp_model.specs.declared.Space.{Space}
use Rattle.comp_model.specs.declared.Space.TheVariants.{CoreFunc, CoreTable, CoreMemory, CoreGlobal, CoreType}
use Rattle.comp_model.specs.Core.{Id, CoreRefusal}
use Rattle.core_model.specs.Rule.{repeated}
use Rattle.core_names.specs.declared.module_names.ModuleNames.{ModuleNames}

-- the ids of a space
abbrev pub ids_at : ModuleNames → Space → List (Option Id)
ids_at n CoreType = n.types
ids_at n CoreFunc = n.funcs
ids_at n CoreTable = n.tables
ids_at n CoreMemory = n.memories
ids_at n CoreGlobal = n.globals
ids_at n _ = []

-- one more item, in a space or none
abbrev pub with_item : ModuleNames → Option Space → Option Id → ModuleNames
with_item n (Some CoreType) x = record n { types = n.types ++ x ∷ [] }
with_item n (Some CoreFunc) x = record n { funcs = n.funcs ++ x ∷ [] }
with_item n (Some CoreTable) x = record n { tables = n.tables ++ x ∷ [] }
with_item n (Some CoreMemory) x = record n { memories = n.memories ++ x ∷ [] }
with_item n (Some CoreGlobal) x = record n { globals = n.globals ++ x ∷ [] }
with_item n _ x = n

-- an id that another item of its space has
abbrev pub repeated_at : ModuleNames → Option Space → Option Id → Option CoreRefusal
repeated_at n None x = None
repeated_at n (Some s) x = repeated (ids_at n s) x

-- each space takes one more item
pub record HasRoom (n : ModuleNames) : Type 0 where
  pub types : length n.types < 2 ^ 32 - 1
  pub funcs : length n.funcs < 2 ^ 32 - 1
  pub tables : length n.tables < 2 ^ 32 - 1
  pub memories : length n.memories < 2 ^ 32 - 1
  pub globals : length n.globals < 2 ^ 32 - 1
