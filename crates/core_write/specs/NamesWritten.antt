-- The names of items, parameters and locals of resolved fields.
use Rattle.std.specs.Prelude.{ℕ, zero, suc, ◌+◌, List, [], ◌∷◌, ◌++◌, map, flat_map, length, slice_get, Option, Some, None, unwrap_or, ⊤}
use Rattle.comp_model.specs.declared.Space.{Space}
use Rattle.comp_model.specs.declared.Space.TheVariants.{CoreFunc, CoreTable, CoreMemory, CoreGlobal, CoreType}
use Rattle.comp_model.specs.Core.{Text}
use Rattle.comp_model.specs.Leb.{uleb}
use Rattle.comp_model.specs.Payloads.{framed}
use Rattle.comp_model.specs.CoreModules as c
use Rattle.comp_model.specs.CoreModules.{Naming, Local, FunctionType, TypeDef, TypeUse, Field}
use Rattle.core_model.specs.Items.{naming_of, items_in}
use Rattle.core_model.specs.Types.{type_of_use}
use Rattle.core_model.specs.Words.{Word}
use Rattle.core_model.specs.Bytes.{section}
use Rattle.core_model.specs.NameSection.{name_of, names_from, names_in, locals_at, module_name, section_name}
use Rattle.core_write.specs.Fits.{FitsSection}

-- ---- parameters and locals

-- how many parameters the types have, by their indices
abbrev pub params_in : TypeDef → ℕ
params_in (c.function t) = length t.params
params_in (c.other_type o) = 0

abbrev pub params_of_field : Field → List ℕ
params_of_field (c.type_field o n d) = params_in d ∷ []
params_of_field _ = []

abbrev pub param_counts : List Field → List ℕ
param_counts fs = flat_map params_of_field fs

-- the place of the first local: behind the parameters that a use writes, or else behind those of its type
abbrev pub first_behind : List ℕ → ℕ → Option FunctionType → ℕ
first_behind counts i None = unwrap_or (slice_get counts i) 0
first_behind counts i (Some t) = length t.params

abbrev pub first_local : List ℕ → TypeUse → ℕ
first_local counts u = first_behind counts (type_of_use [] u) u.signature

abbrev pub namings_of : List Local → List Naming
namings_of ls = map (λ l. l.naming) ls

-- the parameters that a use writes
abbrev pub written_namings : Option FunctionType → List Naming
written_namings None = []
written_namings (Some t) = namings_of t.params

-- the names of the parameters and locals of a function
abbrev pub function_names : List ℕ → TypeUse → List Local → List (List ℕ)
function_names counts u ls = names_from 0 (written_namings u.signature) ++ names_from (first_local counts u) (namings_of ls)

-- those of a function that is no import, by its index
abbrev pub unless_named_import : Option (Text × Text) → List (List ℕ) → List (List ℕ)
unless_named_import None items = items
unless_named_import (Some p) items = []

abbrev pub local_items : List ℕ → ℕ → Field → List (List ℕ)
local_items counts i (c.func_field o n l u ls is) = unless_named_import l.imported (locals_at i (function_names counts u ls))
local_items counts i _ = []

abbrev pub local_items_from : List ℕ → ℕ → List Field → List (List ℕ)
local_items_from counts i [] = []
local_items_from counts i (f ∷ fs) = local_items counts i f ++ local_items_from counts (i + 1) fs

-- ---- what fits

-- an index and the length of a name
abbrev pub FitsNamed : ℕ → Option Text → Type 0
FitsNamed i None = ⊤
FitsNamed i (Some x) = Word i × Word (length x)

abbrev pub FitsNamesFrom : ℕ → List Naming → Type 0
FitsNamesFrom i [] = ⊤
FitsNamesFrom i (n ∷ ns) = FitsNamed i (name_of n) × FitsNamesFrom (i + 1) ns

-- the index of a function, and the count of its names, where there are any
abbrev pub FitsLocalsAt : ℕ → List (List ℕ) → Type 0
FitsLocalsAt i [] = ⊤
FitsLocalsAt i (n ∷ ns) = Word i × Word (length (n ∷ ns))

pub record FitsFunctionNames (counts : List ℕ) (i : ℕ) (u : TypeUse) (ls : List Local) : Type 0 where
  pub params : FitsNamesFrom 0 (written_namings u.signature)
  pub locals : FitsNamesFrom (first_local counts u) (namings_of ls)
  pub whole : FitsLocalsAt i (function_names counts u ls)

abbrev pub FitsUnlessImported : Option (Text × Text) → Type 0 → Type 0
FitsUnlessImported None P = P
FitsUnlessImported (Some p) P = ⊤

abbrev pub FitsLocalItems : List ℕ → ℕ → Field → Type 0
FitsLocalItems counts i (c.func_field o n l u ls is) = FitsUnlessImported l.imported (FitsFunctionNames counts i u ls)
FitsLocalItems counts i _ = ⊤

abbrev pub FitsLocalsFrom : List ℕ → ℕ → List Field → Type 0
FitsLocalsFrom counts i [] = ⊤
FitsLocalsFrom counts i (f ∷ fs) = FitsLocalItems counts i f × FitsLocalsFrom counts (i + 1) fs

-- ---- names within a function by how many there are and their bytes

abbrev pub locals_by_count : ℕ → ℕ → List ℕ → List (List ℕ)
locals_by_count i zero bytes = []
locals_by_count i (suc n) bytes = (uleb i ++ (uleb (suc n) ++ bytes)) ∷ []

abbrev pub FitsByCount : ℕ → ℕ → Type 0
FitsByCount i zero = ⊤
FitsByCount i (suc n) = Word i

-- ---- the name section

-- the subsections, in order
abbrev pub subsections_of : Naming → List Field → List ℕ
subsections_of n fs =
    module_name (name_of n)
    ++ section 0x01 (names_in CoreFunc fs)
    ++ section 0x02 (local_items_from (param_counts fs) 0 (items_in CoreFunc fs))
    ++ section 0x04 (names_in CoreType fs)
    ++ section 0x05 (names_in CoreTable fs)
    ++ section 0x06 (names_in CoreMemory fs)
    ++ section 0x07 (names_in CoreGlobal fs)

abbrev pub FitsModuleName : Option Text → Type 0
FitsModuleName None = ⊤
FitsModuleName (Some x) = Word (length x) × Word (length (framed x))

-- the names of the items of a space
pub record FitsNamesIn (s : Space) (fs : List Field) : Type 0 where
  pub each : FitsNamesFrom 0 (map naming_of (items_in s fs))
  pub whole : FitsSection (names_in s fs)

-- the names within functions
pub record FitsLocalNames (fs : List Field) : Type 0 where
  pub each : FitsLocalsFrom (param_counts fs) 0 (items_in CoreFunc fs)
  pub whole : FitsSection (local_items_from (param_counts fs) 0 (items_in CoreFunc fs))

pub record FitsNameSection (n : Naming) (fs : List Field) : Type 0 where
  pub module_name : FitsModuleName (name_of n)
  pub funcs : FitsNamesIn CoreFunc fs
  pub locals : FitsLocalNames fs
  pub types : FitsNamesIn CoreType fs
  pub tables : FitsNamesIn CoreTable fs
  pub memories : FitsNamesIn CoreMemory fs
  pub globals : FitsNamesIn CoreGlobal fs
  pub whole : Word (length (framed section_name ++ subsections_of n fs))
