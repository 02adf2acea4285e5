-- What the value of the fields of a core module stands for, as data of the model (WebAssembly text format, Modules).
use Rattle.std.specs.Prelude.{ℕ, zero, suc, Bool, true, false, List, [], ◌∷◌, Option, Some, None}
use Rattle.std.specs.Int.{w32, w64, cast_signed}
use Rattle.comp_model.specs.declared.Space.{Space}
use Rattle.comp_model.specs.declared.Space.TheVariants as space
use Rattle.comp_model.specs.Core as core
use Rattle.comp_model.specs.Core.{Text, CoreValue}
use Rattle.comp_model.specs.CoreModules as c
use Rattle.wast_grammar.specs.Grammar.{Value, none, num, numeral_at, name_at, text, both, left, right, part_at, numbered}

-- ---- parts

-- an optional part
abbrev pub optional : {A : Type 0} → (Value → A) → Value → Option A
optional f (left v) = Some (f v)
optional f v = None

-- one of some, by its number
abbrev pub one_of : {A : Type 0} → A → List A → ℕ → A
one_of d [] n = d
one_of d (x ∷ xs) zero = x
one_of d (x ∷ xs) (suc n) = one_of d xs n

-- a list
unfoldable pub list_made : {A : Type 0} → (Value → A) → Value → List A
list_made f (both v w) = f v ∷ list_made f w
list_made f v = []

abbrev pub text_made : Value → Text
text_made (text t) = t
text_made v = []

abbrev pub number_made : Value → ℕ
number_made (num n) = n
number_made v = 0

abbrev pub id_made : Value → core.Id
id_made (name_at x k o) = record { name = x; number = k; offset = o }
id_made v = record { name = []; number = 0; offset = 0 }

abbrev pub index_made : Value → c.Index
index_made (left v) = c.named (id_made v)
index_made (right (numeral_at n o)) = c.number o n
index_made v = c.number 0 0

-- an id and a label, either of which may be missing
abbrev pub naming_made : Value → Value → c.Naming
naming_made i n = record { id = optional id_made i; label = optional text_made n }

abbrev pub names_made : Value → c.Naming
names_made (both i n) = naming_made i n
names_made v = naming_made none none

-- ---- value types

-- whether it is written
abbrev pub is_there : Value → Bool
is_there (left v) = true
is_there v = false

abbrev pub concrete : Bool → Value → CoreValue
concrete nullable (left v) = core.ref_name nullable core.own (id_made v)
concrete nullable (right (numeral_at n o)) = core.ref_numeral nullable o n
concrete nullable v = core.other_value

abbrev pub heap_made : Bool → Value → CoreValue
heap_made nullable (left v) = concrete nullable v
heap_made nullable (right (left v)) = core.ref_func nullable
heap_made nullable v = core.ref_extern nullable

-- a reference type, however it is spelled
abbrev pub reference_type_made : Value → CoreValue
reference_type_made (both (left (both f h)) v) = heap_made (is_there f) h
reference_type_made v = core.other_value

abbrev pub word_made : ℕ → CoreValue
word_made n = one_of core.v128 (core.i32 ∷ core.i64 ∷ core.f32 ∷ core.f64 ∷ core.v128 ∷ []) n

abbrev pub value_made : Value → CoreValue
value_made (left (num n)) = word_made n
value_made (right (left v)) = reference_type_made v
value_made v = core.other_value

-- ---- function types

abbrev pub local : c.Naming → Value → c.Local
local n v = record { naming = n; value = value_made v }

-- with an id, with a name alone, or without
abbrev pub local_made : Value → c.Local
local_made (left (both i (both n v))) = local (record { id = Some (id_made i); label = optional text_made n }) v
local_made (right (left (both n v))) = local (record { id = None; label = Some (text_made n) }) v
local_made (right (right v)) = local (record { id = None; label = None }) v
local_made v = local (record { id = None; label = None }) none

-- an item behind another
abbrev pub item_behind : {A : Type 0} → (Value → A) → Value → A
item_behind f (both j (both v e)) = f v
item_behind f v = f none

-- the items of groups
abbrev pub grouped : {A : Type 0} → (Value → A) → Value → List A
grouped f (both e (left (both v (both d w)))) = f v ∷ list_made (item_behind f) w
grouped f v = []

abbrev pub function_made : Value → c.FunctionType
function_made (both p r) = record { params = grouped local_made p; results = grouped value_made r }
function_made v = record { params = []; results = [] }

abbrev pub use_made : Value → c.TypeUse
use_made (both i s) = record { index = optional index_made i; signature = optional function_made s }
use_made v = record { index = None; signature = None }

abbrev pub definition_made : Value → c.TypeDef
definition_made (left v) = c.function (function_made v)
definition_made (right (part_at o v)) = c.other_type o
definition_made v = c.other_type 0

-- ---- items

abbrev pub limits_made : Value → c.Limits
limits_made (both n m) = record { least = number_made n; most = optional number_made m }
limits_made v = record { least = 0; most = None }

-- a global's type, whether it is mutable
abbrev pub global_made : {A : Type 0} → (CoreValue → Bool → A) → Value → A
global_made f (left v) = f (value_made v) true
global_made f (right v) = f (value_made v) false
global_made f v = f core.other_value false

abbrev pub no_names : c.Naming
no_names = record { id = None; label = None }

-- an import by its signature, whose word stands at the offset
abbrev pub signature_made : {A : Type 0} → (c.Naming → c.Entity → A) → ℕ → Value → A
signature_made f o (left (both n v)) = f (names_made n) (c.func (use_made v))
signature_made f o (right (left (both n v))) = f (names_made n) (global_made c.global v)
signature_made f o (right (right (left (both n (both l (both r e)))))) = f (names_made n) (c.table (limits_made l) (reference_type_made r))
signature_made f o (right (right (right (left (both n (both l e)))))) = f (names_made n) (c.memory (limits_made l))
signature_made f o v = f no_names (c.other_entity o)

abbrev pub export_space : ℕ → Space
export_space n = one_of space.CoreFunc (space.CoreFunc ∷ space.CoreTable ∷ space.CoreMemory ∷ space.CoreGlobal ∷ []) n

-- ---- instructions

abbrev pub plain_made : ℕ → c.Instruction
plain_made n = one_of c.nop (c.unreachable ∷ c.nop ∷ c.return ∷ c.drop ∷ c.i32_add ∷ c.i32_sub ∷ c.i32_mul ∷ []) n

abbrev pub indexed_made : ℕ → (c.Index → c.Instruction)
indexed_made n = one_of c.call (c.call ∷ c.local_get ∷ c.local_set ∷ c.local_tee ∷ c.global_get ∷ c.global_set ∷ []) n

abbrev pub instruction_made : Value → c.Instruction
instruction_made (left (num n)) = plain_made n
instruction_made (right (left (both (num n) v))) = indexed_made n (index_made v)
instruction_made (right (right (left (num n)))) = c.i32_const (cast_signed w32 n)
instruction_made (right (right (right (numbered n v)))) = c.i64_const (cast_signed w64 n)
instruction_made (part_at o v) = c.other_instruction o
instruction_made v = c.other_instruction 0

-- ---- fields

abbrev pub pair_made : Value → Text × Text
pair_made (both a b) = (text_made a, text_made b)
pair_made v = ([], [])

-- id, label, inline exports, and what is made of them
abbrev pub head_made : {A : Type 0} → (c.Naming → List Text → A) → Value → A
head_made f (both n e) = f (names_made n) (list_made text_made e)
head_made f v = f no_names []

abbrev pub func_rest : ℕ → Value → c.Naming → List Text → c.Field
func_rest o (left (both i u)) n e = c.func_field o n (record { exports = e; imported = Some (pair_made i) }) (use_made u) [] []
func_rest o (right (both u (both l b))) n e = c.func_field o n (record { exports = e; imported = None }) (use_made u) (grouped local_made l) (list_made instruction_made b)
func_rest o v n e = c.other_field o

abbrev pub global_rest : ℕ → Value → c.Naming → List Text → c.Field
global_rest o (left (both i g)) n e = global_made (λ v m. c.global_field o n (record { exports = e; imported = Some (pair_made i) }) v m []) g
global_rest o (right (both g b)) n e = global_made (λ v m. c.global_field o n (record { exports = e; imported = None }) v m (list_made instruction_made b)) g
global_rest o v n e = c.other_field o

-- a head with an optional import
abbrev pub imported_head : (c.Naming → c.Inline → c.Field) → Value → c.Field
imported_head f (both h i) = head_made (λ n e. f n (record { exports = e; imported = optional pair_made i })) h
imported_head f v = f no_names (record { exports = []; imported = None })

abbrev pub last_made : ℕ → Value → c.Field
last_made o (left (both h (both l (both r e)))) = imported_head (λ n i. c.table_field o n i (limits_made l) (reference_type_made r)) h
last_made o (right (left (both h (both l e)))) = imported_head (λ n i. c.memory_field o n i (limits_made l)) h
last_made o v = c.other_field o

abbrev pub field_made : Value → c.Field
field_made (left (both (part_at o u) (both i (both n d)))) = c.type_field o (naming_made i n) (definition_made d)
field_made (right (left (both (part_at o u) (both (both a b) (part_at p s))))) = signature_made (c.import_field o (text_made a) (text_made b)) p s
field_made (right (right (left (part_at o (both h r))))) = head_made (func_rest o r) h
field_made (right (right (right (left (part_at o (both h r)))))) = head_made (global_rest o r) h
field_made (right (right (right (right (left (both (part_at o u) (both x (both (num k) i)))))))) = c.export_field o (text_made x) (export_space k) (index_made i)
field_made (right (right (right (right (right (part_at o v)))))) = last_made o v
field_made v = c.other_field 0

-- a field in its group
abbrev pub grouped_field : Value → c.Field
grouped_field (right v) = field_made v
grouped_field (left v) = field_made v
grouped_field v = field_made v

-- the core module of the value of its fields, without names
unfoldable pub core_module_of : Value → c.CoreModule
core_module_of v = record { naming = no_names; fields = list_made grouped_field v }
