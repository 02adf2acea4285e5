-- The core module of a value of a text has short numerals, and constants within their bits.
use Rattle.std.proofs.Common.{◌≡◌, ◌^◌, ℕ, zero, suc, Bool, true, false, ltb, List, [], Some, None, arith, ltb-true, ltb-false, refl, w32, w64}
use Rattle.std.specs.Int.{cast_signed}
use Rattle.comp_model.specs.Core as core
use Rattle.comp_model.specs.Core.{Text, CoreValue}
use Rattle.comp_model.specs.CoreModules as c
use Rattle.wast_grammar.specs.Grammar.{Value, none, num, numeral_at, both, left, right, part_at, numbered}
use Rattle.wast_grammar.specs.OfText.{IsOfText}
use Rattle.core_model.specs.Words.{Word, IndexWord, ValueWord, ValuesWord, LocalsWord, TypeWord, DefWord, OptionWord, SignatureWord, UseWord, MostWord, LimitsWord, EntityWord, IntWord, InstructionWord, BodyWord, FieldWord, FieldsWord}
use Rattle.text_rules.specs.CoreMade.{optional, list_made, text_made, number_made, index_made, names_made, is_there, concrete, heap_made, reference_type_made, word_made, value_made, local_made, item_behind, grouped, function_made, use_made, definition_made, limits_made, global_made, no_names, signature_made, plain_made, indexed_made, instruction_made, pair_made, head_made, func_rest, global_rest, imported_head, last_made, field_made, grouped_field, core_module_of}

number_word : (v : Value) → IsOfText v → Word (number_made v)
number_word (num n) h = h
number_word _ h = omega arith

index_word : (v : Value) → IsOfText v → IndexWord (index_made v)
index_word (left v) h = tt
index_word (right (numeral_at n o)) h = h
index_word _ h = omega arith

optional_index : (v : Value) → IsOfText v → OptionWord (optional index_made v)
optional_index (left v) h = index_word v h
optional_index _ h = tt

optional_number : (v : Value) → IsOfText v → MostWord (optional number_made v)
optional_number (left v) h = number_word v h
optional_number _ h = tt

-- ---- value types

concrete_word : (b : Bool) (v : Value) → IsOfText v → ValueWord (concrete b v)
concrete_word b (left v) h = tt
concrete_word b (right (numeral_at n o)) h = h
concrete_word b _ h = tt

heap_word : (b : Bool) (v : Value) → IsOfText v → ValueWord (heap_made b v)
heap_word b (left v) h = concrete_word b v h
heap_word b (right (left v)) h = tt
heap_word b _ h = tt

reference_word : (v : Value) → IsOfText v → ValueWord (reference_type_made v)
reference_word (both (left (both f g)) v) h = heap_word (is_there f) g (h.0).1
reference_word _ h = tt

number_type : (n : ℕ) → ValueWord (word_made n)
number_type zero = tt
number_type (suc zero) = tt
number_type (suc (suc zero)) = tt
number_type (suc (suc (suc zero))) = tt
number_type (suc (suc (suc (suc zero)))) = tt
number_type (suc (suc (suc (suc (suc n))))) = tt

value_word : (v : Value) → IsOfText v → ValueWord (value_made v)
value_word (left (num n)) h = number_type n
value_word (right (left v)) h = reference_word v h
value_word _ h = tt

-- ---- lists

module _ (f : Value → c.Local) (each : (v : Value) → IsOfText v → ValueWord (f v).value) where
  locals_listed : (v : Value) → IsOfText v → LocalsWord (list_made f v)
  unfolding list_made
  locals_listed (both v w) h = (each v h.0, locals_listed w h.1)
  locals_listed _ h = tt

module _ (f : Value → CoreValue) (each : (v : Value) → IsOfText v → ValueWord (f v)) where
  values_listed : (v : Value) → IsOfText v → ValuesWord (list_made f v)
  unfolding list_made
  values_listed (both v w) h = (each v h.0, values_listed w h.1)
  values_listed _ h = tt

module _ {A : Type 0} (f : Value → A) (p : A → Type 0) (each : (v : Value) → IsOfText v → p (f v)) where
  behind : (v : Value) → IsOfText v → p (item_behind f v)
  behind (both j (both v e)) h = each v (h.1).0
  behind _ h = each none tt

local_word : (v : Value) → IsOfText v → ValueWord (local_made v).value
local_word (left (both i (both n v))) h = value_word v (h.1).1
local_word (right (left (both n v))) h = value_word v h.1
local_word (right (right v)) h = value_word v h
local_word _ h = tt

locals_grouped : (v : Value) → IsOfText v → LocalsWord (grouped local_made v)
locals_grouped (both e (left (both v (both d w)))) h = (local_word v (h.1).0, locals_listed (item_behind local_made) (behind local_made (λ l. ValueWord l.value) local_word) w ((h.1).1).1)
locals_grouped _ h = tt

values_grouped : (v : Value) → IsOfText v → ValuesWord (grouped value_made v)
values_grouped (both e (left (both v (both d w)))) h = (value_word v (h.1).0, values_listed (item_behind value_made) (behind value_made ValueWord value_word) w ((h.1).1).1)
values_grouped _ h = tt

-- ---- types

function_word : (v : Value) → IsOfText v → TypeWord (function_made v)
function_word (both p r) h = (locals_grouped p h.0, values_grouped r h.1)
function_word _ h = (tt, tt)

signature_word : (v : Value) → IsOfText v → SignatureWord (optional function_made v)
signature_word (left v) h = function_word v h
signature_word _ h = tt

use_word : (v : Value) → IsOfText v → UseWord (use_made v)
use_word (both i s) h = (optional_index i h.0, signature_word s h.1)
use_word _ h = (tt, tt)

definition_word : (v : Value) → IsOfText v → DefWord (definition_made v)
definition_word (left v) h = function_word v h
definition_word (right (part_at o v)) h = tt
definition_word _ h = tt

limits_word : (v : Value) → IsOfText v → LimitsWord (limits_made v)
limits_word (both n m) h = (number_word n h.0, optional_number m h.1)
limits_word _ h = (omega arith, tt)

module _ {A : Type 0} (f : CoreValue → Bool → A) (p : A → Type 0) (each : (v : CoreValue) (b : Bool) → ValueWord v → p (f v b)) where
  global_word : (v : Value) → IsOfText v → p (global_made f v)
  global_word (left v) h = each (value_made v) true (value_word v h)
  global_word (right v) h = each (value_made v) false (value_word v h)
  global_word _ h = each core.other_value false tt

module _ {A : Type 0} (f : c.Naming → c.Entity → A) (p : A → Type 0) (each : (n : c.Naming) (e : c.Entity) → EntityWord e → p (f n e)) where
  import_word : (o : ℕ) (v : Value) → IsOfText v → p (signature_made f o v)
  import_word o (left (both n v)) h = each (names_made n) (c.func (use_made v)) (use_word v h.1)
  import_word o (right (left (both n v))) h = each (names_made n) (global_made c.global v) (global_word c.global EntityWord (λ v b w. w) v h.1)
  import_word o (right (right (left (both n (both l (both r e)))))) h = each (names_made n) (c.table (limits_made l) (reference_type_made r)) (limits_word l (h.1).0, reference_word r ((h.1).1).0)
  import_word o (right (right (right (left (both n (both l e)))))) h = each (names_made n) (c.memory (limits_made l)) (limits_word l (h.1).0)
  import_word o _ h = each no_names (c.other_entity o) tt

-- ---- instructions

signed_32 : (n : ℕ) → IntWord (2 ^ 31) (cast_signed w32 n)
signed_32 n = go (ltb n (2 ^ 31)) refl
  where
    go : (b : Bool) → ltb n (2 ^ 31) ≡ b → IntWord (2 ^ 31) (cast_signed w32 n)
    go true e = rw (e) (ltb-true n (2 ^ 31) e)
    go false e = rw (e) (omega (arith, ltb-false n (2 ^ 31) e))

signed_64 : (n : ℕ) → IntWord (2 ^ 63) (cast_signed w64 n)
signed_64 n = go (ltb n (2 ^ 63)) refl
  where
    go : (b : Bool) → ltb n (2 ^ 63) ≡ b → IntWord (2 ^ 63) (cast_signed w64 n)
    go true e = rw (e) (ltb-true n (2 ^ 63) e)
    go false e = rw (e) (omega (arith, ltb-false n (2 ^ 63) e))

plain_word : (n : ℕ) → InstructionWord (plain_made n)
plain_word zero = tt
plain_word (suc zero) = tt
plain_word (suc (suc zero)) = tt
plain_word (suc (suc (suc zero))) = tt
plain_word (suc (suc (suc (suc zero)))) = tt
plain_word (suc (suc (suc (suc (suc zero))))) = tt
plain_word (suc (suc (suc (suc (suc (suc zero)))))) = tt
plain_word (suc (suc (suc (suc (suc (suc (suc n))))))) = tt

indexed_word : (n : ℕ) (i : c.Index) → IndexWord i → InstructionWord (indexed_made n i)
indexed_word zero i h = h
indexed_word (suc zero) i h = h
indexed_word (suc (suc zero)) i h = h
indexed_word (suc (suc (suc zero))) i h = h
indexed_word (suc (suc (suc (suc zero)))) i h = h
indexed_word (suc (suc (suc (suc (suc zero))))) i h = h
indexed_word (suc (suc (suc (suc (suc (suc n)))))) i h = h

instruction_word : (v : Value) → IsOfText v → InstructionWord (instruction_made v)
instruction_word (left (num n)) h = plain_word n
instruction_word (right (left (both (num n) v))) h = indexed_word n (index_made v) (index_word v h.1)
instruction_word (right (right (left (num n)))) h = signed_32 n
instruction_word (right (right (right (numbered n v)))) h = signed_64 n
instruction_word (part_at o v) h = tt
instruction_word _ h = tt

body_word : (v : Value) → IsOfText v → BodyWord (list_made instruction_made v)
unfolding list_made
body_word (both v w) h = (instruction_word v h.0, body_word w h.1)
body_word _ h = tt

-- ---- fields

func_word : (o : ℕ) (r : Value) → IsOfText r → (n : c.Naming) (e : List Text) → FieldWord (func_rest o r n e)
func_word o (left (both i u)) h n e = (use_word u h.1, tt, tt)
func_word o (right (both u (both l b))) h n e = (use_word u h.0, locals_grouped l (h.1).0, body_word b (h.1).1)
func_word o _ h n e = tt

global_field_word : (o : ℕ) (r : Value) → IsOfText r → (n : c.Naming) (e : List Text) → FieldWord (global_rest o r n e)
global_field_word o (left (both i g)) h n e = global_word (λ v m. c.global_field o n (record { exports = e; imported = Some (pair_made i) }) v m []) FieldWord (λ v b w. (w, tt)) g h.1
global_field_word o (right (both g b)) h n e = global_word (λ v m. c.global_field o n (record { exports = e; imported = None }) v m (list_made instruction_made b)) FieldWord (λ v m w. (w, body_word b h.1)) g h.0
global_field_word o _ h n e = tt

module _ (f : c.Naming → List Text → c.Field) (each : (n : c.Naming) (e : List Text) → FieldWord (f n e)) where
  head_word : (v : Value) → FieldWord (head_made f v)
  head_word (both n e) = each (names_made n) (list_made text_made e)
  head_word _ = each no_names []

module _ (f : c.Naming → c.Inline → c.Field) (each : (n : c.Naming) (i : c.Inline) → FieldWord (f n i)) where
  imported_word : (v : Value) → FieldWord (imported_head f v)
  imported_word (both h i) = head_word (λ n e. f n (record { exports = e; imported = optional pair_made i })) (λ n e. each n (record { exports = e; imported = optional pair_made i })) h
  imported_word _ = each no_names (record { exports = []; imported = None })

last_word : (o : ℕ) (v : Value) → IsOfText v → FieldWord (last_made o v)
last_word o (left (both h (both l (both r e)))) i = imported_word (λ n j. c.table_field o n j (limits_made l) (reference_type_made r)) (λ n j. (limits_word l (i.1).0, reference_word r ((i.1).1).0)) h
last_word o (right (left (both h (both l e)))) i = imported_word (λ n j. c.memory_field o n j (limits_made l)) (λ n j. limits_word l (i.1).0) h
last_word o _ i = tt

field_word : (v : Value) → IsOfText v → FieldWord (field_made v)
field_word (left (both (part_at o u) (both i (both n d)))) h = definition_word d ((h.1).1).1
field_word (right (left (both (part_at o u) (both (both a b) (part_at p s))))) h = import_word (c.import_field o (text_made a) (text_made b)) FieldWord (λ n e w. w) p s (h.1).1
field_word (right (right (left (part_at o (both g r))))) h = head_word (func_rest o r) (func_word o r h.1) g
field_word (right (right (right (left (part_at o (both g r)))))) h = head_word (global_rest o r) (global_field_word o r h.1) g
field_word (right (right (right (right (left (both (part_at o u) (both x (both (num k) i)))))))) h = index_word i ((h.1).1).1
field_word (right (right (right (right (right (part_at o v)))))) h = last_word o v h
field_word _ h = tt

grouped_word : (v : Value) → IsOfText v → FieldWord (grouped_field v)
grouped_word (right v) h = field_word v h
grouped_word (left v) h = field_word v h
grouped_word _ h = tt

fields_word : (v : Value) → IsOfText v → FieldsWord (list_made grouped_field v)
unfolding list_made
fields_word (both v w) h = (grouped_word v h.0, fields_word w h.1)
fields_word _ h = tt

pub core_module_word : (v : Value) → IsOfText v → FieldsWord (core_module_of v).fields
unfolding core_module_of
core_module_word v h = fields_word v h
