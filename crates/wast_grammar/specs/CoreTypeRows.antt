-- Core types, and the types of core modules, in the words of the WebAssembly text format and, where core types are definitions of a component, of
-- the Component Model's Explainer.md.
use Rattle.std.specs.Prelude.{List, [], ◌∷◌, codes}
use Rattle.wast_grammar.specs.Classes.{Class, opening, closing, id, numeral, Keywords, keyword, annotation}
use Rattle.wast_grammar.specs.Grammar.{Grammar, Test, next, form, or_else, word_in, nothing, leaf, a_number, an_id, a_text, word, word_at, group, pair, either, many, by_test, cases, placed, special, a_word, any_of, going, integers, group_ends, option, skipping, row, ModuleTypeItem, CoreValue, CoreTypeDefinition, checked}
use Rattle.wast_grammar.specs.ValueRows.{is_word, is_group, is_reference, reference, optional_id, name, optional_name}
use Rattle.wast_grammar.specs.ReferenceRows.{named}

-- ---- value types

-- what a heap type is spelled by
abbrev pub heap_classes : List Class
heap_classes = keyword (codes "func") ∷ keyword (codes "extern") ∷ id ∷ numeral ∷ []

-- "func" | "extern" | idx (Heap Types)
abbrev pub heap_type : Grammar
heap_type = either is_reference reference (either (is_word "func") (word "func" nothing) (word "extern" nothing))

-- a whole reference type is next
abbrev pub is_reference_type : Test
is_reference_type = or_else (next (keyword (codes "funcref") ∷ keyword (codes "externref") ∷ []))
    (or_else (form ((opening ∷ []) ∷ (keyword (codes "ref") ∷ []) ∷ heap_classes ∷ (closing ∷ []) ∷ []))
    (form ((opening ∷ []) ∷ (keyword (codes "ref") ∷ []) ∷ (keyword (codes "null") ∷ []) ∷ heap_classes ∷ (closing ∷ []) ∷ [])))

-- rtype = "funcref" | "externref" | "(" "ref" "null"? ( "func" | "extern" | idx ) ")" (Reference Types)
abbrev pub reference_type : Grammar
reference_type = either (is_word "funcref") (word "funcref" nothing) (either (is_word "externref") (word "externref" nothing)
    (group (word "ref" (either (is_word "null") (word "null" heap_type) heap_type))))

-- another word that ends in `ref`
abbrev pub other_references : Keywords
other_references = record { ending = codes "ref"; but = keyword (codes "funcref") ∷ keyword (codes "externref") ∷ [] }

-- a reference type that is read and never written: such a word, or another group of `ref` (Reference Types)
abbrev pub other_reference : Grammar
other_reference = either (word_in other_references) (special (a_word other_references)) (group (skipping (word "ref" nothing)))

-- a number type or the vector type is next
abbrev pub is_number_type : Test
is_number_type = next (keyword (codes "i32") ∷ keyword (codes "i64") ∷ keyword (codes "f32") ∷ keyword (codes "f64") ∷ keyword (codes "v128") ∷ [])

-- "i32" | "i64" | "f32" | "f64" | "v128" (Number Types, Vector Types)
abbrev pub number_type : Grammar
number_type = cases (
    (is_word "i32", word "i32" nothing)
    ∷ (is_word "i64", word "i64" nothing)
    ∷ (is_word "f32", word "f32" nothing)
    ∷ (is_word "f64", word "f64" nothing)
    ∷ (is_word "v128", word "v128" nothing)
    ∷ [])

-- cval = "i32" | "i64" | "f32" | "f64" | "v128" | rtype (Value Types)
abbrev pub core_value : Grammar
core_value = either is_number_type number_type (by_test is_reference_type reference_type other_reference)

-- every word that ends in `ref`
abbrev pub reference_words : Keywords
reference_words = record { ending = codes "ref"; but = [] }

-- a value type is next
abbrev pub is_core_value : Test
is_core_value = or_else is_number_type (or_else (word_in reference_words) (is_group "ref"))

-- ---- function types and groups of types

-- an annotation `@name` is next
abbrev pub is_name : Test
is_name = next (annotation (codes "(@name") ∷ [])

-- param = "(" "param" ( ( id name? | name ) cval | cval* ) ")" (Function Types)
abbrev pub core_param : Grammar
core_param = either (next (id ∷ [])) (pair (pair (leaf an_id) optional_name) (row CoreValue)) (either is_name (pair name (row CoreValue)) (many is_core_value (row CoreValue)))

-- result = "(" "result" cval* ")" (Function Types)
abbrev pub core_result : Grammar
core_result = many is_core_value (row CoreValue)

-- param* result* (Function Types)
abbrev pub core_function : Grammar
core_function = pair (many (is_group "param") (group (word "param" core_param))) (many (is_group "result") (group (word "result" core_result)))

-- a type that is read and never written (Composite Types, Recursive Types)
abbrev pub other_type_words : List Class
other_type_words = keyword (codes "sub") ∷ keyword (codes "struct") ∷ keyword (codes "array") ∷ keyword (codes "cont") ∷ keyword (codes "shared") ∷ []

-- ctdef = "func" param* result* (Composite Types)
abbrev pub core_type_definition : Grammar
core_type_definition = either (is_word "func") (word "func" core_function) (skipping (special (any_of other_type_words)))

-- "(" ctdef ")" (Composite Types)
abbrev pub core_type_group : Grammar
core_type_group = group core_type_definition

-- ( "(" "type" id? name? "(" ctdef ")" ")" )* (Recursive Types)
abbrev pub core_types : Grammar
core_types = many going (group (word "type" (named (row CoreTypeDefinition))))

-- ---- signatures of a module type

-- tuse = ( "(" "type" idx ")" )? param* result* (Type Uses)
abbrev pub core_use : Grammar
core_use = either (is_group "type") (pair (group (word "type" reference)) core_function) core_function

-- limits = num num? (Limits)
abbrev pub limits : Grammar
limits = pair (leaf a_number) (option (next integers) (leaf a_number))

-- what is read and never written, beside limits: the words of wider and of shared ones (Limits)
abbrev pub limit_words : List Class
limit_words = keyword (codes "i64") ∷ keyword (codes "shared") ∷ []

abbrev pub other_limits : Grammar
other_limits = skipping (special (any_of limit_words))

-- limits, or what is read and never written (Memory Types)
abbrev pub memory_type : Grammar
memory_type = either (next integers) (pair limits (by_test (next group_ends) nothing other_limits)) other_limits

-- limits rtype, or what is read and never written (Table Types)
abbrev pub other_element : Grammar
other_element = skipping (either (next limit_words) (special (any_of limit_words)) other_reference)

abbrev pub table_type : Grammar
table_type = either (next integers) (pair limits (by_test is_reference_type reference_type other_element)) other_limits

-- gtype = cval | "(" "mut" cval ")" (Global Types)
abbrev pub global_type : Grammar
global_type = either (is_group "mut") (group (word "mut" (row CoreValue))) (row CoreValue)

-- id? name? (Index Spaces; Name Annotations)
abbrev pub names : Grammar
names = pair optional_id optional_name

-- csig = "func" id? name? tuse | "table" id? name? limits rtype | "memory" id? name? limits | "global" id? name? gtype, or "tag" .., which is read
-- and never written (Imports)
abbrev pub core_signature : Grammar
core_signature = cases (
    (is_word "func", word "func" (pair names core_use))
    ∷ (is_word "table", word "table" (pair names table_type))
    ∷ (is_word "memory", word "memory" (pair names memory_type))
    ∷ (is_word "global", word "global" (pair names global_type))
    ∷ (is_word "tag", skipping (word "tag" nothing))
    ∷ [])

-- ---- module types

-- "alias" "outer" idx idx "(" "type" id? name? ")" (Component Model, Type Definitions)
abbrev pub module_type_alias : Grammar
module_type_alias = pair (word_at "alias") (word "outer" (pair reference (pair reference (group (word "type" names)))))

-- mdecl = "(" "type" id? name? "(" ctdef ")" ")" | "(" "rec" ( "(" "type" id? name? "(" ctdef ")" ")" )* ")" | "(" alias ")"
--     | "(" "import" text text "(" csig ")" ")" | "(" "export" text "(" csig ")" ")" (Component Model, Type Definitions)
abbrev pub module_type_item : Grammar
module_type_item = group (cases (
    (is_word "type", pair (word_at "type") (named (row CoreTypeDefinition)))
    ∷ (is_word "rec", pair (word_at "rec") core_types)
    ∷ (is_word "alias", module_type_alias)
    ∷ (is_word "import", pair (word_at "import") (pair (leaf a_text) (pair (leaf a_text) (group core_signature))))
    ∷ (is_word "export", word "export" (pair (leaf a_text) (group (placed core_signature))))
    ∷ []))

-- mty = ! mdecl* (Component Model, Type Definitions)
abbrev pub module_type : Grammar
module_type = checked (many going (row ModuleTypeItem))

-- "core" "type" id? name? "(" ( "module" mty | ctdef ) ")" (Component Model, Type Definitions)
abbrev pub core_type : Grammar
core_type = pair (placed (word "core" (word "type" nothing))) (named (group (either (is_word "module") (word "module" module_type) core_type_definition)))

-- "core" "rec" ( "(" "type" id? name? "(" ctdef ")" ")" )* (Component Model, Type Definitions)
abbrev pub core_rec : Grammar
core_rec = pair (placed (word "core" (word "rec" nothing))) core_types
