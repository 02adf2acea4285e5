-- What each field gives to each section of a module whose names are resolved: its numerals stand for themselves, so no other field has a part in it.
use Rattle.std.specs.Prelude.{ℕ, zero, suc, List, [], ◌∷◌, ◌++◌, map, Option, Some, None}
use Rattle.comp_model.specs.Core.{Text, CoreValue}
use Rattle.comp_model.specs.Leb.{uleb}
use Rattle.comp_model.specs.Payloads.{framed}
use Rattle.comp_model.specs.CoreModules as c
use Rattle.comp_model.specs.CoreModules.{Local, Instruction, Field}
use Rattle.core_model.specs.Types.{defined, type_of_use}
use Rattle.core_model.specs.Bytes.{counted, values, type_item, limits_bytes, mutable_byte, runs, run_bytes, value, value_bytes, expression, import_item}
use Rattle.core_write.specs.declared.part.Part.{Part}
use Rattle.core_write.specs.declared.part.Part.TheVariants as part

-- the value types of parameters or locals, as far as they have bytes
abbrev pub values_of : List Local → List CoreValue
values_of ls = values (map (λ l. value [] l.value) ls)

-- an item that is defined, and none of one that is imported
abbrev pub unless_imported : Option (Text × Text) → List ℕ → List (List ℕ)
unless_imported None item = item ∷ []
unless_imported (Some p) item = []

-- an entry of code: the runs of locals, the instructions
abbrev pub code_entry : List Local → List Instruction → List ℕ
code_entry ls is = counted (map run_bytes (runs (values_of ls))) ++ expression [] [] is

abbrev pub type_items : Field → List (List ℕ)
type_items (c.type_field o n d) = type_item (defined [] d)
type_items _ = []

abbrev pub function_items : Field → List (List ℕ)
function_items (c.func_field o n i u ls is) = unless_imported i.imported (uleb (type_of_use [] u))
function_items _ = []

abbrev pub table_items : Field → List (List ℕ)
table_items (c.table_field o n i l v) = unless_imported i.imported (value_bytes [] v ++ limits_bytes l)
table_items _ = []

abbrev pub memory_items : Field → List (List ℕ)
memory_items (c.memory_field o n i l) = unless_imported i.imported (limits_bytes l)
memory_items _ = []

abbrev pub global_items : Field → List (List ℕ)
global_items (c.global_field o n i v m is) = unless_imported i.imported (value_bytes [] v ++ (mutable_byte m ∷ expression [] [] is))
global_items _ = []

abbrev pub code_items : Field → List (List ℕ)
code_items (c.func_field o n i u ls is) = unless_imported i.imported (framed (code_entry ls is))
code_items _ = []

-- what a field gives to a section
abbrev pub items_of : Part → Field → List (List ℕ)
items_of part.Types f = type_items f
items_of part.Imports f = import_item [] f
items_of part.Functions f = function_items f
items_of part.Tables f = table_items f
items_of part.Memories f = memory_items f
items_of part.Globals f = global_items f
items_of part.Code f = code_items f

-- the numbers of the sections (WebAssembly, binary format, Sections)
abbrev pub section_number : Part → ℕ
section_number part.Types = 0x01
section_number part.Imports = 0x02
section_number part.Functions = 0x03
section_number part.Tables = 0x04
section_number part.Memories = 0x05
section_number part.Globals = 0x06
section_number part.Code = 0x0a

-- a section of so many items, whose bytes these are; without an item it is left out
abbrev pub section_of : ℕ → ℕ → List ℕ → List ℕ
section_of number zero bytes = []
section_of number (suc n) bytes = number ∷ framed (uleb (suc n) ++ bytes)
