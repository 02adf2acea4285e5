-- Value types and function types, in the words of the Component Model's Explainer.md.
use Rattle.std.specs.Prelude.{[], ◌∷◌, false, codes}
use Rattle.comp_model.specs.declared.Space.TheVariants as space
use Rattle.comp_model.specs.Core.{outward}
use Rattle.comp_model.specs.declared.row.Row.TheVariants as rows
use Rattle.wast_grammar.specs.Classes.{id, keyword}
use Rattle.wast_grammar.specs.Grammar as g
use Rattle.wast_grammar.specs.Grammar.{next, going, integers}
use Rattle.wast_grammar.specs.ValueRows.{is_reference, is_prim, is_val, is_word, is_group, prim_words, strings}
use Rattle.text_rules.specs.Rule.{Rule, nothing, placed, keeps, reference, told, pair, either, many, row, checked, also, wraps, a_number, no_case_id, a_text, a_count, a_case, inline, a_list, a_part}
use Rattle.text_rules.specs.Forms.{word, group, cases, of_row, entry, absent}

-- idx, of a type (Index Spaces)
abbrev pub type_index : Rule
type_index = reference space.Ty outward

-- prim = "bool" | "s8" | "u8" | .. | "error-context": the byte of each, by the number of its word (Type Definitions)
abbrev pub prim : Rule
prim = told prim_words (0x7f ∷ 0x7e ∷ 0x7d ∷ 0x7c ∷ 0x7b ∷ 0x7a ∷ 0x79 ∷ 0x78 ∷ 0x77 ∷ 0x76 ∷ 0x75 ∷ 0x74 ∷ 0x73 ∷ 0x64 ∷ [])

-- val = idx | prim | "(" ! nonprim ")" (Type Definitions)
abbrev pub val : Rule
val = row g.Val

-- val? (Type Definitions)
abbrev pub optional_val : Rule
optional_val = either is_val (wraps a_part val) absent

-- "field" text val, a field of a record (Type Definitions)
abbrev pub record_field : Rule
record_field = word "field" (pair (keeps a_text) val)

-- record = "record" ( "(" "field" text val ")" )* (Type Definitions)
abbrev pub record_type : Rule
record_type = word "record" (wraps a_list (many going (group (entry rows.NamedType record_field))))

-- id? of a case, which is looked for nowhere (Type Definitions)
abbrev pub case_id : Rule
case_id = either (next (id ∷ [])) (keeps a_case) (also nothing no_case_id)

-- "case" id? text val?, a case of a variant (Type Definitions)
abbrev pub variant_case : Rule
variant_case = pair (placed false (keyword (codes "case"))) (pair case_id (pair (keeps a_text) optional_val))

-- variant = "variant" ( "(" "case" id? text val? ")" )* (Type Definitions)
abbrev pub variant_type : Rule
variant_type = word "variant" (wraps a_list (many going (group (entry rows.CaseType variant_case))))

-- list = "list" val num? (Type Definitions)
abbrev pub list_type : Rule
list_type = word "list" (pair val (either (next integers) (of_row rows.FixedLengthListType (keeps a_count)) (of_row rows.ListType nothing)))

-- map = "map" val val (Type Definitions)
abbrev pub map_type : Rule
map_type = word "map" (pair val val)

-- tuple = "tuple" val* (Type Definitions)
abbrev pub tuple_type : Rule
tuple_type = word "tuple" (wraps a_list (many going (entry rows.LoneType val)))

-- text* (Type Definitions)
abbrev pub texts : Rule
texts = wraps a_list (many going (entry rows.LoneName (keeps a_text)))

-- flags = "flags" text* (Type Definitions)
abbrev pub flags_type : Rule
flags_type = word "flags" texts

-- enum = "enum" text* (Type Definitions)
abbrev pub enum_type : Rule
enum_type = word "enum" texts

-- option = "option" val (Type Definitions)
abbrev pub option_type : Rule
option_type = word "option" val

-- ( "(" "error" val ")" )? (Type Definitions)
abbrev pub optional_error : Rule
optional_error = either (is_group "error") (wraps a_part (group (word "error" val))) absent

-- result = "result" val? ( "(" "error" val ")" )? (Type Definitions)
abbrev pub result_type : Rule
result_type = word "result" (pair optional_val optional_error)

-- own = "own" idx (Type Definitions)
abbrev pub own_type : Rule
own_type = word "own" type_index

-- borrow = "borrow" idx (Type Definitions)
abbrev pub borrow_type : Rule
borrow_type = word "borrow" type_index

-- stream = "stream" val? (Type Definitions)
abbrev pub stream_type : Rule
stream_type = word "stream" optional_val

-- future = "future" val? (Type Definitions)
abbrev pub future_type : Rule
future_type = word "future" optional_val

-- nonprim = record | variant | list | .. | future, by the numbers of their words (Type Definitions)
abbrev pub nonprim : Rule
nonprim = cases (
    (is_word "record", of_row rows.RecordType record_type)
    ∷ (is_word "variant", of_row rows.VariantType variant_type)
    ∷ (is_word "list", list_type)
    ∷ (is_word "map", of_row rows.MapType map_type)
    ∷ (is_word "tuple", of_row rows.TupleType tuple_type)
    ∷ (is_word "flags", of_row rows.FlagsType flags_type)
    ∷ (is_word "enum", of_row rows.EnumType enum_type)
    ∷ (is_word "option", of_row rows.OptionType option_type)
    ∷ (is_word "result", of_row rows.ResultType result_type)
    ∷ (is_word "own", of_row rows.OwnType own_type)
    ∷ (is_word "borrow", of_row rows.BorrowType borrow_type)
    ∷ (is_word "stream", of_row rows.StreamType stream_type)
    ∷ (is_word "future", of_row rows.FutureType future_type)
    ∷ [])

-- a value type that is written where it is needed: prim | "(" ! nonprim ")" (Type Definitions)
abbrev pub inline_val : Rule
inline_val = either is_prim prim (wraps (inline space.Ty) (group (checked nonprim)))

-- val = idx | prim | "(" ! nonprim ")" (Type Definitions)
abbrev pub val_rule : Rule
val_rule = either is_reference type_index inline_val

-- ( "(" "result" val ")" )? (Type Definitions)
abbrev pub optional_result : Rule
optional_result = either (is_group "result") (wraps a_part (group (word "result" val))) absent

-- "async"? (Type Definitions)
abbrev pub optional_async : Rule
optional_async = either (is_word "async") (also (word "async" nothing) (a_number 1)) (also nothing (a_number 0))

-- "param" text val (Type Definitions)
abbrev pub function_param : Rule
function_param = word "param" (pair (keeps a_text) val)

-- "result" text? val, which stands in no other row: the result of a function may have had a name
abbrev pub function_result : Rule
function_result = word "result" (pair (either (next strings) (wraps a_part (keeps a_text)) absent) val)

-- fty = "async"? ( "(" "param" text val ")" )* ( "(" "result" val ")" )? (Type Definitions)
abbrev pub fty : Rule
fty = pair optional_async (pair (wraps a_list (many (is_group "param") (group (entry rows.NamedType function_param)))) optional_result)
