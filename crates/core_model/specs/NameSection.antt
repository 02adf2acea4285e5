-- The name section of a core module (WebAssembly, binary format, Name Section): a name is the label, or else the id.
use Rattle.std.specs.Prelude.{ℕ, ◌+◌, List, [], ◌∷◌, ◌++◌, map, Option, Some, None}
use Rattle.comp_model.specs.declared.Space.{Space}
use Rattle.comp_model.specs.declared.Space.TheVariants.{CoreFunc, CoreTable, CoreMemory, CoreGlobal, CoreType}
use Rattle.comp_model.specs.Core.{Text, label_or_id}
use Rattle.comp_model.specs.Leb.{uleb}
use Rattle.comp_model.specs.Payloads.{framed}
use Rattle.comp_model.specs.CoreModules.{Naming, Field, func_field, CoreModule}
use Rattle.core_model.specs.Items.{naming_of, import_names, items_in}
use Rattle.core_model.specs.Types.{locals_of}
use Rattle.core_model.specs.Bytes.{counted, section}

-- the label, or else the id
abbrev pub name_of : Naming → Option Text
name_of n = label_or_id n.label n.id

-- an index and a name
abbrev pub named_at : ℕ → Option Text → List (List ℕ)
named_at i None = []
named_at i (Some x) = (uleb i ++ framed x) ∷ []

-- the items with a name, by their places
abbrev pub names_from : ℕ → List Naming → List (List ℕ)
names_from i [] = []
names_from i (n ∷ ns) = named_at i (name_of n) ++ names_from (i + 1) ns

-- the names of the items of a space
abbrev pub names_in : Space → List Field → List (List ℕ)
names_in s fs = names_from 0 (map naming_of (items_in s fs))

-- the function of this index, where one of its parameters and locals has a name
abbrev pub locals_at : ℕ → List (List ℕ) → List (List ℕ)
locals_at i [] = []
locals_at i (n ∷ ns) = (uleb i ++ counted (n ∷ ns)) ∷ []

-- the names of the parameters and locals of a function that is no import, by its index
abbrev pub locals_named : List Field → Option (Text × Text) → ℕ → Field → List (List ℕ)
locals_named fs None i (func_field o n l u ls is) = locals_at i (names_from 0 (map (λ x. x.naming) (locals_of fs u ls)))
locals_named fs _ i _ = []

abbrev pub local_names_from : List Field → ℕ → List Field → List (List ℕ)
local_names_from fs i [] = []
local_names_from fs i (f ∷ gs) = locals_named fs (import_names f) i f ++ local_names_from fs (i + 1) gs

-- subsection 0: the name of the module
abbrev pub module_name : Option Text → List ℕ
module_name None = []
module_name (Some x) = 0x00 ∷ framed (framed x)

-- the subsections, in order
abbrev pub subsections : CoreModule → List ℕ
subsections m =
    module_name (name_of m.naming)
    ++ section 0x01 (names_in CoreFunc m.fields)
    ++ section 0x02 (local_names_from m.fields 0 (items_in CoreFunc m.fields))
    ++ section 0x04 (names_in CoreType m.fields)
    ++ section 0x05 (names_in CoreTable m.fields)
    ++ section 0x06 (names_in CoreMemory m.fields)
    ++ section 0x07 (names_in CoreGlobal m.fields)

-- "name"
abbrev pub section_name : Text
section_name = 0x6e ∷ 0x61 ∷ 0x6d ∷ 0x65 ∷ []

-- a custom section, where there is a name
abbrev pub custom : List ℕ → List ℕ
custom [] = []
custom (b ∷ bs) = 0x00 ∷ framed (framed section_name ++ b ∷ bs)

abbrev pub name_section : CoreModule → List ℕ
name_section m = custom (subsections m)
