-- When a module can be written: each count, index and length in its bytes is below 2 ^ 32. The numerals of a tree are by their type.
use Rattle.std.specs.Prelude.{ℕ, List, [], ◌∷◌, length, Option, Some, None, ⊤}
use Rattle.comp_model.specs.Core.{Text, CoreValue}
use Rattle.comp_model.specs.CoreModules as c
use Rattle.comp_model.specs.CoreModules.{Local, FunctionType, TypeDef, Instruction, Field}
use Rattle.core_model.specs.Items.{import_names}
use Rattle.core_model.specs.Types.{Signature, signature_of}
use Rattle.core_model.specs.Words.{Word}
use Rattle.core_model.specs.Bytes.{counted, values, runs}
use Rattle.core_write.specs.declared.part.Part.{Part}
use Rattle.core_write.specs.declared.part.Part.TheVariants as part
use Rattle.core_write.specs.Written.{values_of, code_entry}

-- the counts of parameters and results
abbrev pub FitsSignature : Signature → Type 0
FitsSignature s = Word (length (values s.params)) × Word (length (values s.results))

abbrev pub FitsDef : TypeDef → Type 0
FitsDef (c.function t) = FitsSignature (signature_of [] t)
FitsDef (c.other_type o) = ⊤

-- the lengths of two texts
abbrev pub FitsPair : Option (Text × Text) → Type 0
FitsPair None = ⊤
FitsPair (Some p) = Word (length p.0) × Word (length p.1)

abbrev pub FitsRuns : List (ℕ × CoreValue) → Type 0
FitsRuns [] = ⊤
FitsRuns (r ∷ rs) = Word r.0 × FitsRuns rs

-- an entry of code, where it is written: how many runs of locals, how long each, and the length of the whole
abbrev pub FitsCode : Option (Text × Text) → List Local → List Instruction → Type 0
FitsCode None ls is = Word (length (runs (values_of ls))) × FitsRuns (runs (values_of ls)) × Word (length (code_entry ls is))
FitsCode (Some p) ls is = ⊤

abbrev pub FitsCodeOf : Field → Type 0
FitsCodeOf (c.func_field o n i u ls is) = FitsCode i.imported ls is
FitsCodeOf _ = ⊤

abbrev pub FitsTypeOf : Field → Type 0
FitsTypeOf (c.type_field o n d) = FitsDef d
FitsTypeOf _ = ⊤

-- what a field gives to a section
abbrev pub FitsItem : Part → Field → Type 0
FitsItem part.Types f = FitsTypeOf f
FitsItem part.Imports f = FitsPair (import_names f)
FitsItem part.Code f = FitsCodeOf f
FitsItem _ f = ⊤

abbrev pub FitsItems : Part → List Field → Type 0
FitsItems p [] = ⊤
FitsItems p (f ∷ fs) = FitsItem p f × FitsItems p fs

-- the count of a section's items, and its length
abbrev pub FitsSection : List (List ℕ) → Type 0
FitsSection items = Word (length items) × Word (length (counted items))
