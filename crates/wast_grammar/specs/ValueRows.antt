-- Ids, names and value types, in the words of the Component Model's Explainer.md. `row Val` stands where value types hold each other.
use Rattle.std.specs.Prelude.{ℕ, List, [], ◌∷◌, codes}
use Prim.Native.String.{String}
use Rattle.wast_grammar.specs.Classes.{Class, opening, id, utf8, binary, keyword, annotation}
use Rattle.wast_grammar.specs.Grammar.{Grammar, Test, Val, nothing, leaf, a_number, a_numeral, an_id, a_text, a_binary, words, pair, either, many, row, checked, cases, word, word_at, option, group, noted, next, next2, or_else, going, integers, one_of}

-- a string, of any bytes (WebAssembly text format, Strings)
unfoldable pub bytes : Grammar
bytes = either (next (utf8 ∷ [])) (leaf a_text) (leaf a_binary)

-- name = "(@name" text ")" (Name Annotations)
unfoldable pub name : Grammar
name = noted "(@name" (leaf a_text)

-- a reference: num, an integer without `-` below 2^32, or id (Index Spaces)
unfoldable pub reference : Grammar
reference = either (next (id ∷ [])) (leaf an_id) (leaf a_numeral)

-- a reference is next
abbrev pub is_reference : Test
is_reference = next (id ∷ integers)

-- the keywords of primitive types, each with its number among the types (Type Definitions)
abbrev pub prim_words : List (List ℕ × ℕ)
prim_words =
    (codes "bool", 0)
    ∷ (codes "s8", 1)
    ∷ (codes "u8", 2)
    ∷ (codes "s16", 3)
    ∷ (codes "u16", 4)
    ∷ (codes "s32", 5)
    ∷ (codes "u32", 6)
    ∷ (codes "s64", 7)
    ∷ (codes "u64", 8)
    ∷ (codes "f32", 9)
    ∷ (codes "float32", 9)
    ∷ (codes "f64", 10)
    ∷ (codes "float64", 10)
    ∷ (codes "char", 11)
    ∷ (codes "string", 12)
    ∷ (codes "error-context", 13)
    ∷ []

-- prim = "bool" | "s8" | "u8" | .. | "error-context" (Type Definitions)
unfoldable pub prim : Grammar
prim = words prim_words

-- a primitive type is next
abbrev pub is_prim : Test
is_prim = next (one_of prim_words)

-- the word is next
abbrev pub is_word : String → Test
is_word w = next (keyword (codes w) ∷ [])

-- the words are next, one behind the other
abbrev pub is_words : String → String → Test
is_words v w = next2 (keyword (codes v)) (keyword (codes w) ∷ [])

-- a group of the word is next
abbrev pub is_group : String → Test
is_group w = next2 opening (keyword (codes w) ∷ [])

-- the classes of strings
abbrev pub strings : List Class
strings = utf8 ∷ binary ∷ []

-- id? (Index Spaces)
abbrev pub optional_id : Grammar
optional_id = option (next (id ∷ [])) (leaf an_id)

-- name? (Name Annotations)
abbrev pub optional_name : Grammar
optional_name = option (next (annotation (codes "(@name") ∷ [])) name

-- the keywords of the value types that aren't primitive (Type Definitions)
abbrev pub nonprim_words : List (List ℕ × ℕ)
nonprim_words =
    (codes "record", 0)
    ∷ (codes "variant", 1)
    ∷ (codes "list", 2)
    ∷ (codes "map", 3)
    ∷ (codes "tuple", 4)
    ∷ (codes "flags", 5)
    ∷ (codes "enum", 6)
    ∷ (codes "option", 7)
    ∷ (codes "result", 8)
    ∷ (codes "own", 9)
    ∷ (codes "borrow", 10)
    ∷ (codes "stream", 11)
    ∷ (codes "future", 12)
    ∷ []

-- a value type as it is defined is next: a primitive type, or the group of another
abbrev pub is_defined : Test
is_defined = or_else is_prim (next2 opening (one_of nonprim_words))

-- a value type is next: a reference, or a type as it is defined
abbrev pub is_val : Test
is_val = or_else is_reference is_defined

-- val? (Type Definitions)
unfoldable pub optional_val : Grammar
optional_val = option is_val (row Val)

-- record = "record" ( "(" "field" text val ")" )* (Type Definitions)
unfoldable pub field_type : Grammar
field_type = word "field" (pair (leaf a_text) (row Val))

unfoldable pub field_types : Grammar
field_types = many going (group field_type)

unfoldable pub record_type : Grammar
record_type = word "record" field_types

-- variant = "variant" ( "(" "case" id? text val? ")" )* (Type Definitions)
unfoldable pub case_type : Grammar
case_type = pair (word_at "case") (pair optional_id (pair (leaf a_text) optional_val))

unfoldable pub case_types : Grammar
case_types = many going (group case_type)

unfoldable pub variant_type : Grammar
variant_type = word "variant" case_types

-- num? (Type Definitions)
unfoldable pub optional_number : Grammar
optional_number = option (next integers) (leaf a_number)

-- list = "list" val num? (Type Definitions)
unfoldable pub list_type : Grammar
list_type = word "list" (pair (row Val) optional_number)

-- map = "map" val val (Type Definitions)
unfoldable pub map_type : Grammar
map_type = word "map" (pair (row Val) (row Val))

-- tuple = "tuple" val* (Type Definitions)
unfoldable pub value_types : Grammar
value_types = many going (row Val)

unfoldable pub tuple_type : Grammar
tuple_type = word "tuple" value_types

-- flags = "flags" text* (Type Definitions)
unfoldable pub flags_type : Grammar
flags_type = word "flags" (many going (leaf a_text))

-- enum = "enum" text* (Type Definitions)
unfoldable pub enum_type : Grammar
enum_type = word "enum" (many going (leaf a_text))

-- option = "option" val (Type Definitions)
unfoldable pub option_type : Grammar
option_type = word "option" (row Val)

-- result = "result" val? ( "(" "error" val ")" )? (Type Definitions)
unfoldable pub error_type : Grammar
error_type = word "error" (row Val)

unfoldable pub optional_error : Grammar
optional_error = option (is_group "error") (group error_type)

unfoldable pub result_type : Grammar
result_type = word "result" (pair optional_val optional_error)

-- own = "own" idx, borrow = "borrow" idx (Type Definitions)
unfoldable pub own_type : Grammar
own_type = word "own" reference

unfoldable pub borrow_type : Grammar
borrow_type = word "borrow" reference

-- stream = "stream" val?, future = "future" val? (Type Definitions)
unfoldable pub stream_type : Grammar
stream_type = word "stream" optional_val

unfoldable pub future_type : Grammar
future_type = word "future" optional_val

-- nonprim = record | variant | list | .. | future, by the numbers of their words (Type Definitions)
unfoldable pub nonprim : Grammar
nonprim = cases (
    (is_word "record", record_type)
    ∷ (is_word "variant", variant_type)
    ∷ (is_word "list", list_type)
    ∷ (is_word "map", map_type)
    ∷ (is_word "tuple", tuple_type)
    ∷ (is_word "flags", flags_type)
    ∷ (is_word "enum", enum_type)
    ∷ (is_word "option", option_type)
    ∷ (is_word "result", result_type)
    ∷ (is_word "own", own_type)
    ∷ (is_word "borrow", borrow_type)
    ∷ (is_word "stream", stream_type)
    ∷ (is_word "future", future_type)
    ∷ [])

-- a value type that is written where it is needed: prim | "(" ! nonprim ")" (Type Definitions)
unfoldable pub inline_val : Grammar
inline_val = either is_prim prim (group (checked nonprim))

-- val = idx | prim | "(" ! nonprim ")" (Type Definitions)
unfoldable pub val : Grammar
val = either is_reference reference inline_val

-- a parameter: "param" text val (Type Definitions)
unfoldable pub param : Grammar
param = word "param" (pair (leaf a_text) (row Val))

-- a result: "result" val (Type Definitions)
unfoldable pub result : Grammar
result = word "result" (row Val)

-- ( "(" "param" text val ")" )* (Type Definitions)
unfoldable pub params : Grammar
params = many (is_group "param") (group param)

-- fty = "async"? ( "(" "param" text val ")" )* ( "(" "result" val ")" )? (Type Definitions)
unfoldable pub optional_async : Grammar
optional_async = option (is_word "async") (word "async" nothing)

unfoldable pub optional_result : Grammar
optional_result = option (is_group "result") (group result)

unfoldable pub fty : Grammar
fty = pair optional_async (pair params optional_result)
