-- Core types and the types of core modules, in the words of the WebAssembly text format and of the Component Model's Explainer.md.
use Rattle.std.specs.Prelude.{[], ◌∷◌, Bool, true, false}
use Rattle.comp_model.specs.declared.Space.TheVariants as space
use Rattle.comp_model.specs.Core as core
use Rattle.comp_model.specs.Core.{Reach, own}
use Rattle.comp_model.specs.declared.row.ScopeKind.TheVariants as kinds
use Rattle.comp_model.specs.declared.row.Row.TheVariants as rows
use Rattle.wast_grammar.specs.Classes.{id}
use Rattle.wast_grammar.specs.Grammar as g
use Rattle.wast_grammar.specs.Grammar.{next, going, integers, group_ends, word_in, a_word, any_of}
use Rattle.wast_grammar.specs.ValueRows.{is_reference, is_word, is_group}
use Rattle.wast_grammar.specs.CoreTypeRows.{is_reference_type, other_references, is_number_type, is_core_value, is_name, other_type_words, limit_words}
use Rattle.text_rules.specs.Rule.{Rule, nothing, keeps, reference, pair, either, by_test, many, row, checked, also, wraps, a_core_value, a_number, a_kind, an_id, a_text, a_count, inline, a_node, a_list, a_part, a_def, a_scope, outer, dropped, heap, last_first, an_entry, alone, marks, silent, skipping}
use Rattle.text_rules.specs.Forms.{word, lone_word, group, first_word, first_words, cases, of_row, entry, optional_id, label, optional_name, named, part_named, absent}

-- ---- value types, whose names have the reach that is given

-- what spells a value type that has no parts
abbrev pub value_word : core.CoreValue → Rule → Rule
value_word v r = also r (a_core_value v)

-- "func" | "extern" | idx (Heap Types)
abbrev pub heap_type : Reach → Bool → Rule
heap_type r nullable = either is_reference (wraps (heap nullable) (reference space.CoreType r))
    (either (is_word "func") (value_word (core.ref_func nullable) (lone_word "func")) (value_word (core.ref_extern nullable) (lone_word "extern")))

-- rtype = "funcref" | "externref" | "(" "ref" "null"? ( "func" | "extern" | idx ) ")" (Reference Types)
abbrev pub reference_type : Reach → Rule
reference_type r = either (is_word "funcref") (value_word (core.ref_func true) (lone_word "funcref"))
    (either (is_word "externref") (value_word (core.ref_extern true) (lone_word "externref"))
    (group (word "ref" (either (is_word "null") (word "null" (heap_type r true)) (heap_type r false)))))

-- a reference type that is read and never written: such a word, or another group of `ref`, of which nothing is kept
-- (Reference Types)
abbrev pub other_reference : Rule
other_reference = either (word_in other_references) (silent (a_word other_references)) (group (skipping (word "ref" nothing)))

-- "i32" | "i64" | "f32" | "f64" | "v128" (Number Types, Vector Types)
abbrev pub number_type : Rule
number_type = cases (
    (is_word "i32", value_word core.i32 (lone_word "i32"))
    ∷ (is_word "i64", value_word core.i64 (lone_word "i64"))
    ∷ (is_word "f32", value_word core.f32 (lone_word "f32"))
    ∷ (is_word "f64", value_word core.f64 (lone_word "f64"))
    ∷ (is_word "v128", value_word core.v128 (lone_word "v128"))
    ∷ [])

-- cval = "i32" | "i64" | "f32" | "f64" | "v128" | rtype (Value Types)
abbrev pub core_value : Reach → Rule
core_value r = either is_number_type number_type (by_test is_reference_type (reference_type r) (value_word core.other_value other_reference))

-- ---- function types and groups of types

-- cval as an entry, whose names are looked for in its own scope alone
abbrev pub value_entry : Rule
value_entry = entry rows.CoreValueType (row g.CoreValue)

-- param = "(" "param" ( ( id name? | name ) cval | cval* ) ")", whose id and label aren't kept (Function Types)
abbrev pub core_param : Rule
core_param = either (next (id ∷ [])) (pair (wraps dropped (pair (keeps an_id) optional_name)) value_entry)
    (either is_name (pair (wraps dropped label) value_entry) (many is_core_value value_entry))

-- result = "(" "result" cval* ")" (Function Types)
abbrev pub core_result : Rule
core_result = many is_core_value value_entry

-- param* result* (Function Types)
abbrev pub core_function : Rule
core_function = pair (wraps a_list (many (is_group "param") (group (word "param" core_param)))) (wraps a_list (many (is_group "result") (group (word "result" core_result))))

-- ctdef = "func" param* result* (Composite Types)
abbrev pub core_type_definition : Rule
core_type_definition = either (is_word "func") (of_row rows.CoreFunctionType (word "func" core_function)) (of_row rows.OtherCoreType (skipping (silent (any_of other_type_words))))

-- "(" ctdef ")" (Composite Types)
abbrev pub core_type_group : Rule
core_type_group = group core_type_definition

-- ( "(" "type" id? name? "(" ctdef ")" ")" )*: the definition has an id and a label, or none, for each (Recursive Types)
abbrev pub core_types : Rule
core_types = wraps a_list (many going (group (word "type" (part_named (wraps an_entry (row g.CoreTypeDefinition))))))

-- ---- signatures of a module type

-- tuse = ( "(" "type" idx ")" )? param* result*, where parameters and results behind an index aren't kept (Type Uses)
abbrev pub core_use : Rule
core_use = either (is_group "type") (pair (group (word "type" (reference space.CoreType own))) (wraps dropped core_function))
    (wraps (inline space.CoreType) (of_row rows.CoreFunctionType core_function))

-- limits = num num? (Limits)
abbrev pub limits : Rule
limits = pair (keeps a_count) (either (next integers) (wraps a_part (keeps a_count)) absent)

-- an import or export that is read and never written
abbrev pub other : Rule → Rule
other r = of_row rows.OtherEntity r

abbrev pub other_limits : Rule
other_limits = other (skipping (silent (any_of limit_words)))

-- limits, or what is read and never written (Memory Types)
abbrev pub memory_type : Rule
memory_type = either (next integers) (pair limits (by_test (next group_ends) (of_row rows.MemoryEntity nothing) other_limits)) other_limits

-- limits rtype, or what is read and never written (Table Types)
abbrev pub other_element : Rule
other_element = other (skipping (either (next limit_words) (silent (any_of limit_words)) other_reference))

-- limits rtype, or what is read and never written; the limits stand behind the type (Table Types)
abbrev pub table_type : Rule
table_type = either (next integers) (wraps last_first (pair limits (by_test is_reference_type (of_row rows.TableEntity (reference_type own)) other_element))) other_limits

-- gtype = cval | "(" "mut" cval ")" (Global Types)
abbrev pub global_type : Rule
global_type = of_row rows.GlobalEntity (either (is_group "mut") (also (group (word "mut" (row g.CoreValue))) (a_number 1)) (also (row g.CoreValue) (a_number 0)))

-- an item of a module type has no names
abbrev pub unnamed : Rule → Rule
unnamed r = pair (wraps dropped (pair optional_id optional_name)) r

-- csig = "func" id? name? tuse | "table" id? name? limits rtype | "memory" id? name? limits | "global" id? name? gtype, or "tag" ..; what is
-- read and never written has no parts (Imports)
abbrev pub core_signature : Rule
core_signature = wraps a_node (wraps (alone rows.OtherEntity) (cases (
    (is_word "func", of_row rows.FuncEntity (word "func" (unnamed core_use)))
    ∷ (is_word "table", word "table" (unnamed table_type))
    ∷ (is_word "memory", word "memory" (unnamed memory_type))
    ∷ (is_word "global", word "global" (unnamed global_type))
    ∷ (is_word "tag", other (skipping (word "tag" nothing)))
    ∷ [])))

-- ---- module types

-- idx, of a core type that is looked for in its own scope alone (Index Spaces)
abbrev pub core_index : Rule
core_index = reference space.CoreType own

-- "alias" "outer" idx idx "(" "type" id? name? ")" (Component Model, Type Definitions)
abbrev pub module_type_alias : Rule
module_type_alias = wraps a_def (wraps outer (pair (first_word "alias") (word "outer" (pair core_index (pair core_index (group (word "type"
    (also (of_row rows.AliasOuter (pair optional_id optional_name)) (a_kind space.CoreType)))))))))

-- mdecl = "(" "type" id? name? "(" ctdef ")" ")" | "(" "rec" ( "(" "type" id? name? "(" ctdef ")" ")" )* ")" | "(" alias ")"
--     | "(" "import" text text "(" csig ")" ")" | "(" "export" text "(" csig ")" ")", in its parentheses (Component Model, Type Definitions)
-- The offset of an export is that of its signature.
abbrev pub module_declaration : Rule
module_declaration = cases (
    (is_word "type", wraps a_def (pair (first_word "type") (named (row g.CoreTypeDefinition))))
    ∷ (is_word "rec", wraps a_def (of_row rows.CoreRec (pair (first_word "rec") core_types)))
    ∷ (is_word "alias", module_type_alias)
    ∷ (is_word "import", wraps a_def (of_row rows.ModuleImport (pair (first_word "import") (pair (keeps a_text) (pair (keeps a_text) (group core_signature))))))
    ∷ (is_word "export", wraps a_def (of_row rows.ModuleExport (word "export" (pair (keeps a_text) (group (marks core_signature))))))
    ∷ [])

-- mdecl (Component Model, Type Definitions)
abbrev pub module_type_item : Rule
module_type_item = group module_declaration

-- mdecl* (Component Model, Type Definitions)
abbrev pub module_declarations : Rule
module_declarations = many going (row g.ModuleTypeItem)

-- mty = ! mdecl* (Component Model, Type Definitions)
abbrev pub module_type : Rule
module_type = of_row rows.ModuleType (wraps (a_scope kinds.ModuleType) (checked module_declarations))

-- "module" mty | ctdef (Component Model, Type Definitions)
abbrev pub core_or_module_type : Rule
core_or_module_type = either (is_word "module") (word "module" module_type) core_type_definition

-- "core" "type" id? name? "(" ( "module" mty | ctdef ) ")" (Component Model, Type Definitions)
abbrev pub core_type : Rule
core_type = wraps a_def (pair (first_words "core" "type") (named (group core_or_module_type)))

-- "core" "rec" ( "(" "type" id? name? "(" ctdef ")" ")" )* (Component Model, Type Definitions)
abbrev pub core_rec : Rule
core_rec = wraps a_def (of_row rows.CoreRec (pair (first_words "core" "rec") core_types))
