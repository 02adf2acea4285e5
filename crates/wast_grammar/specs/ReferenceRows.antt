-- References to items, with the names of exports that lead to them, in the words of the Component Model's Explainer.md.
use Rattle.std.specs.Prelude.{List, [], ◌∷◌, codes}
use Prim.Native.String.{String}
use Rattle.wast_grammar.specs.Classes.{Class, closing, opening, id, keyword}
use Rattle.wast_grammar.specs.Grammar.{Grammar, Test, nothing, leaf, a_text, pair, either, many, cases, word, option, group, next, or_else, integers, form, by_test, legacy}
use Rattle.wast_grammar.specs.ValueRows.{reference, is_reference, is_word, strings, optional_id, optional_name}

-- id? name? and what follows (Index Spaces; Name Annotations)
abbrev pub named : Grammar → Grammar
named g = pair optional_id (pair optional_name g)

-- idx text* (Alias Definitions)
abbrev pub item_path : Grammar
item_path = pair reference (many (next strings) (leaf a_text))

-- idx text? (Alias Definitions)
abbrev pub core_path : Grammar
core_path = pair reference (option (next strings) (leaf a_text))

-- ior(k) = idx | "(" k idx text* ")" (Alias Definitions)
abbrev pub index_or_item : String → Grammar
index_or_item k = either is_reference reference (group (word k item_path))

-- the classes of an index, and of what stands behind one that is a reference
abbrev pub indices : List Class
indices = id ∷ integers

abbrev pub behind_index : List Class
behind_index = closing ∷ strings

-- `(type idx` is a reference where `)` or a string stands behind it, and else begins an inline type; `instance idx` alike in an argument
abbrev pub is_type_use : Test
is_type_use = form ((opening ∷ []) ∷ (keyword (codes "type") ∷ []) ∷ indices ∷ behind_index ∷ [])

abbrev pub is_index_alone : Test
is_index_alone = form (indices ∷ behind_index ∷ [])

-- "(" "type" idx text* ")", and of a core type "(" "type" idx text? ")" (Alias Definitions)
abbrev pub type_item : Grammar
type_item = group (word "type" item_path)

abbrev pub core_type_item : Grammar
core_type_item = group (word "type" core_path)

-- ekind idx text*, where ekind = "core" "module" | "func" | "value" | "type" | "component" | "instance" (Instance Definitions)
abbrev pub item : Grammar
item = cases (
    (is_word "core", word "core" (word "module" item_path))
    ∷ (is_word "func", word "func" item_path)
    ∷ (is_word "value", word "value" item_path)
    ∷ (is_word "type", word "type" item_path)
    ∷ (is_word "component", word "component" item_path)
    ∷ (is_word "instance", word "instance" item_path)
    ∷ [])

-- an index stands behind the words of ekind
abbrev pub is_item : Test
is_item = or_else
    (form ((opening ∷ []) ∷ (keyword (codes "func") ∷ keyword (codes "value") ∷ keyword (codes "type") ∷ keyword (codes "component") ∷ keyword (codes "instance") ∷ []) ∷ indices ∷ []))
    (form ((opening ∷ []) ∷ (keyword (codes "core") ∷ []) ∷ (keyword (codes "module") ∷ []) ∷ indices ∷ []))

-- ckind idx text?, where ckind = "func" | "table" | "memory" | "global" | "tag" (Instance Definitions)
abbrev pub core_item : Grammar
core_item = cases (
    (is_word "func", word "func" core_path)
    ∷ (is_word "table", word "table" core_path)
    ∷ (is_word "memory", word "memory" core_path)
    ∷ (is_word "global", word "global" core_path)
    ∷ (is_word "tag", word "tag" core_path)
    ∷ [])

-- "core" k idx text? (Alias Definitions)
abbrev pub core_words : String → Grammar
core_words k = word "core" (word k core_path)

-- nref(k) = idx | "(" "core" k idx text? ")" (Canonical Definitions)
abbrev pub index_or_core : String → Grammar
index_or_core k = either is_reference reference (group (core_words k))

-- cref(k) = idx | "(" "core" k idx text? ")", or in the older form "(" k idx text? ")" (Canonical Definitions)
abbrev pub core_reference : String → Grammar
core_reference k = either is_reference reference (group (by_test legacy (either (is_word "core") (core_words k) (word k core_path)) (core_words k)))

-- memory = idx | "(" "core" "memory" idx text? ")", or in the older form idx text (Canonical Definitions)
abbrev pub memory_reference : Grammar
memory_reference = either is_reference (pair reference (by_test legacy (option (next strings) (leaf a_text)) nothing)) (group (core_words "memory"))
