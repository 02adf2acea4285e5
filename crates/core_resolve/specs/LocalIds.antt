-- The ids of the parameters and locals of a function.
use Rattle.std.specs.Prelude.{◌≡◌, ℕ, zero, suc, ◌+◌, ◌<◌, ◌^◌, List, ◌∷◌, length, slice_get, Option, Some, None}
use Rattle.comp_model.specs.Core.{Id}
use Rattle.comp_model.specs.CoreModules.{FunctionType, TypeUse, Field}
use Rattle.core_model.specs.Items.{place_of}
use Rattle.core_model.specs.Types.{Signature, all_types, type_of_use, params_of_type}

-- ids behind so many items that have none
abbrev pub behind_nameless : ℕ → List (Option Id) → List (Option Id)
behind_nameless zero ids = ids
behind_nameless (suc n) ids = None ∷ behind_nameless n ids

-- how many parameters only the type at an index tells of
abbrev pub nameless_by : List Field → ℕ → Option FunctionType → ℕ
nameless_by fs i (Some t) = 0
nameless_by fs i None = length (params_of_type (slice_get (all_types fs) i))

abbrev pub nameless_count : List Field → TypeUse → ℕ
nameless_count fs u = nameless_by fs (type_of_use fs u) u.signature

-- each type has few parameters
abbrev pub FewParams : List (Option Signature) → Type 0
FewParams ts = (i : ℕ) → length (params_of_type (slice_get ts i)) < 2 ^ 31

-- the places among some ids are numbers of 32 bits behind so many others too
abbrev pub FitsBehind : ℕ → List (Option Id) → Type 0
FitsBehind n ids = (x : Id) (i : ℕ) → i < 2 ^ 32 → Some i ≡ place_of x ids → n + i < 2 ^ 32
