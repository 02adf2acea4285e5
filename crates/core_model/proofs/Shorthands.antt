-- Shorthands for the worked rows.
use Rattle.std.proofs.Common.{ℕ, ◌+◌, ◌*◌, ◌-◌, Bool, cond, nat_lt, List, [], ◌∷◌, ◌++◌, Some, None}
use Rattle.comp_model.specs.Core as core
use Rattle.comp_model.specs.Core.{Text, Id, CoreValue}
use Rattle.comp_model.specs.CoreModules as c
use Rattle.comp_model.specs.CoreModules.{Index, Naming, Local, FunctionType, TypeDef, TypeUse, Limits, Inline}
use Rattle.core_model.specs.Bytes.{preamble}

-- an id at an offset, and an index that names it
abbrev pub id_at : ℕ → Text → Id
id_at o x = record { name = x; number = 0; offset = o }

abbrev pub name : ℕ → Text → Index
name o x = c.named (id_at o x)

-- an id alone, a label alone, both
abbrev pub called : ℕ → Text → Naming
called o x = record { id = Some (id_at o x); label = None }

abbrev pub labelled : Text → Naming
labelled t = record { id = None; label = Some t }

abbrev pub both_names : ℕ → Text → Text → Naming
both_names o x t = record { id = Some (id_at o x); label = Some t }

abbrev pub local : Naming → CoreValue → Local
local n v = record { naming = n; value = v }

-- a reference type that names its type
abbrev pub type_named : Bool → ℕ → Text → CoreValue
type_named b o x = core.ref_name b core.own (id_at o x)

abbrev pub function_type : List Local → List CoreValue → FunctionType
function_type ps rs = record { params = ps; results = rs }

abbrev pub function_of : List Local → List CoreValue → TypeDef
function_of ps rs = c.function (function_type ps rs)

-- type uses: of neither part, an index, a signature, both
abbrev pub no_use : TypeUse
no_use = record { index = None; signature = None }

abbrev pub by_index : Index → TypeUse
by_index i = record { index = Some i; signature = None }

abbrev pub by_signature : List Local → List CoreValue → TypeUse
by_signature ps rs = record { index = None; signature = Some (function_type ps rs) }

abbrev pub by_both : Index → List Local → List CoreValue → TypeUse
by_both i ps rs = record { index = Some i; signature = Some (function_type ps rs) }

abbrev pub at_least : ℕ → Limits
at_least n = record { least = n; most = None }

abbrev pub between : ℕ → ℕ → Limits
between n m = record { least = n; most = Some m }

-- inline exports and an inline import: none, the first, the second, both
abbrev pub plain : Inline
plain = record { exports = []; imported = None }

abbrev pub exporting : List Text → Inline
exporting xs = record { exports = xs; imported = None }

abbrev pub importing : Text → Text → Inline
importing m x = record { exports = []; imported = Some (m, x) }

abbrev pub passing_on : List Text → Text → Text → Inline
passing_on xs m x = record { exports = xs; imported = Some (m, x) }

-- the value of a hexadecimal digit in lower case
abbrev digit : ℕ → ℕ
digit d = cond (nat_lt d 97) (d - 48) (d - 87)

-- bytes as they are printed: two digits each, with a space between
abbrev hexadecimal : List ℕ → List ℕ
hexadecimal (a ∷ b ∷ s ∷ rest) = (16 * digit a + digit b) ∷ hexadecimal rest
hexadecimal (a ∷ b ∷ []) = (16 * digit a + digit b) ∷ []
hexadecimal _ = []

-- the bytes printed so, behind the preamble of a core module
abbrev pub behind_preamble : List ℕ → List ℕ
behind_preamble digits = preamble ++ hexadecimal digits
