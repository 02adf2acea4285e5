-- How many bytes the parts of a core module take that hold one number: where each is below 2 ^ 32, a value type 6 at most, an index 5, limits and an instruction 11.
use Rattle.std.specs.Prelude.{◌^◌, ◌<◌, ◌≤◌, List, [], ◌∷◌, length, Option, Some, None, ⊤}
use Rattle.comp_model.specs.Core.{Id, CoreValue}
use Rattle.comp_model.specs.Leb.{uleb}
use Rattle.comp_model.specs.CoreModules as c
use Rattle.comp_model.specs.CoreModules.{Local, FunctionType, TypeDef, TypeUse, Limits, Entity, Instruction, Field}
use Rattle.core_model.specs.Items.{ids_in, index_of}
use Rattle.core_model.specs.Types.{type_of_use, locals_of, ids_of}
use Rattle.core_model.specs.Bytes.{value_bytes, limits_bytes, instruction_bytes}

module _ (fs : List Field) where
  abbrev pub ShortValue : CoreValue → Type 0
  ShortValue v = length (value_bytes fs v) ≤ 6

  abbrev pub ShortValues : List CoreValue → Type 0
  ShortValues [] = ⊤
  ShortValues (v ∷ vs) = ShortValue v × ShortValues vs

  abbrev pub ShortLocals : List Local → Type 0
  ShortLocals [] = ⊤
  ShortLocals (l ∷ ls) = ShortValue l.value × ShortLocals ls

  abbrev pub ShortType : FunctionType → Type 0
  ShortType t = ShortLocals t.params × ShortValues t.results

  abbrev pub ShortDef : TypeDef → Type 0
  ShortDef (c.function t) = ShortType t
  ShortDef (c.other_type o) = ⊤

  abbrev pub ShortSignature : Option FunctionType → Type 0
  ShortSignature None = ⊤
  ShortSignature (Some t) = ShortType t

  abbrev pub ShortUse : TypeUse → Type 0
  ShortUse u = (length (uleb (type_of_use fs u)) ≤ 5) × ShortSignature u.signature

  abbrev pub ShortLimits : Limits → Type 0
  ShortLimits l = length (limits_bytes l) ≤ 11

  abbrev pub ShortEntity : Entity → Type 0
  ShortEntity (c.func u) = ShortUse u
  ShortEntity (c.table l v) = ShortLimits l × ShortValue v
  ShortEntity (c.memory l) = ShortLimits l
  ShortEntity (c.global v m) = ShortValue v
  ShortEntity (c.other_entity o) = ⊤

  abbrev pub ShortBody : List (Option Id) → List Instruction → Type 0
  ShortBody locals [] = ⊤
  ShortBody locals (i ∷ is) = (length (instruction_bytes fs locals i) ≤ 11) × ShortBody locals is

  -- the indices of parameters and locals are numbers too
  abbrev pub ShortField : Field → Type 0
  ShortField (c.type_field o n d) = ShortDef d
  ShortField (c.import_field o m x n e) = ShortEntity e
  ShortField (c.func_field o n i u ls is) = ShortUse u × ShortLocals ls × ShortBody (ids_of (locals_of fs u ls)) is × (length (locals_of fs u ls) < 2 ^ 32)
  ShortField (c.table_field o n i l v) = ShortLimits l × ShortValue v
  ShortField (c.memory_field o n i l) = ShortLimits l
  ShortField (c.global_field o n i v m is) = ShortValue v × ShortBody [] is
  ShortField (c.export_field o x s i) = length (uleb (index_of (ids_in s fs) i)) ≤ 5
  ShortField (c.other_field o) = ⊤

  abbrev pub EachShort : List Field → Type 0
  EachShort [] = ⊤
  EachShort (f ∷ gs) = ShortField f × EachShort gs

-- of each field
abbrev pub ShortParts : List Field → Type 0
ShortParts fs = EachShort fs fs
