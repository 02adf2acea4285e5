-- What the fields of a tree meet by their types: each numeral is below 2 ^ 32, and each constant within its 32 or 64 bits.
use Rattle.std.specs.Prelude.{ℕ, ◌^◌, ◌<◌, ℤ, pos, negsuc, List, [], ◌∷◌, Option, Some, None, ⊤}
use Rattle.comp_model.specs.Core.{CoreValue, ref_index, ref_numeral}
use Rattle.comp_model.specs.CoreModules as c
use Rattle.comp_model.specs.CoreModules.{Index, number, named, Local, FunctionType, TypeDef, TypeUse, Limits, Entity, Instruction, Field}

abbrev pub Word : ℕ → Type 0
Word n = n < 2 ^ 32

abbrev pub IndexWord : Index → Type 0
IndexWord (number o n) = Word n
IndexWord (named x) = ⊤

abbrev pub ValueWord : CoreValue → Type 0
ValueWord (ref_index b n) = Word n
ValueWord (ref_numeral b o n) = Word n
ValueWord v = ⊤

abbrev pub ValuesWord : List CoreValue → Type 0
ValuesWord [] = ⊤
ValuesWord (v ∷ vs) = ValueWord v × ValuesWord vs

abbrev pub LocalsWord : List Local → Type 0
LocalsWord [] = ⊤
LocalsWord (l ∷ ls) = ValueWord l.value × LocalsWord ls

abbrev pub TypeWord : FunctionType → Type 0
TypeWord t = LocalsWord t.params × ValuesWord t.results

abbrev pub DefWord : TypeDef → Type 0
DefWord (c.function t) = TypeWord t
DefWord (c.other_type o) = ⊤

abbrev pub OptionWord : Option Index → Type 0
OptionWord None = ⊤
OptionWord (Some i) = IndexWord i

abbrev pub SignatureWord : Option FunctionType → Type 0
SignatureWord None = ⊤
SignatureWord (Some t) = TypeWord t

abbrev pub UseWord : TypeUse → Type 0
UseWord u = OptionWord u.index × SignatureWord u.signature

abbrev pub MostWord : Option ℕ → Type 0
MostWord None = ⊤
MostWord (Some n) = Word n

abbrev pub LimitsWord : Limits → Type 0
LimitsWord l = Word l.least × MostWord l.most

abbrev pub EntityWord : Entity → Type 0
EntityWord (c.func u) = UseWord u
EntityWord (c.table l v) = LimitsWord l × ValueWord v
EntityWord (c.memory l) = LimitsWord l
EntityWord (c.global v m) = ValueWord v
EntityWord (c.other_entity o) = ⊤

-- within this many bits beside the sign
abbrev pub IntWord : ℕ → ℤ → Type 0
IntWord limit (pos n) = n < limit
IntWord limit (negsuc n) = n < limit

abbrev pub InstructionWord : Instruction → Type 0
InstructionWord (c.call i) = IndexWord i
InstructionWord (c.local_get i) = IndexWord i
InstructionWord (c.local_set i) = IndexWord i
InstructionWord (c.local_tee i) = IndexWord i
InstructionWord (c.global_get i) = IndexWord i
InstructionWord (c.global_set i) = IndexWord i
InstructionWord (c.i32_const n) = IntWord (2 ^ 31) n
InstructionWord (c.i64_const n) = IntWord (2 ^ 63) n
InstructionWord i = ⊤

abbrev pub BodyWord : List Instruction → Type 0
BodyWord [] = ⊤
BodyWord (i ∷ is) = InstructionWord i × BodyWord is

abbrev pub FieldWord : Field → Type 0
FieldWord (c.type_field o n d) = DefWord d
FieldWord (c.import_field o m x n e) = EntityWord e
FieldWord (c.func_field o n i u ls is) = UseWord u × LocalsWord ls × BodyWord is
FieldWord (c.table_field o n i l v) = LimitsWord l × ValueWord v
FieldWord (c.memory_field o n i l) = LimitsWord l
FieldWord (c.global_field o n i v m is) = ValueWord v × BodyWord is
FieldWord (c.export_field o x s i) = IndexWord i
FieldWord (c.other_field o) = ⊤

abbrev pub FieldsWord : List Field → Type 0
FieldsWord [] = ⊤
FieldsWord (f ∷ fs) = FieldWord f × FieldsWord fs
