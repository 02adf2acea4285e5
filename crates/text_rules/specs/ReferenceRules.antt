-- References to items, with the names of exports that lead to them, in the words of the Component Model's Explainer.md.
use Rattle.std.specs.Prelude.{[], ◌∷◌}
use Prim.Native.String.{String}
use Rattle.comp_model.specs.declared.Space.{Space}
use Rattle.comp_model.specs.declared.Space.TheVariants as space
use Rattle.comp_model.specs.Core.{outward}
use Rattle.wast_grammar.specs.Grammar.{next, legacy}
use Rattle.wast_grammar.specs.ValueRows.{is_reference, is_word, strings}
use Rattle.text_rules.specs.Rule.{Rule, nothing, keeps, reference, pair, either, by_test, many, wraps, a_text, path}
use Rattle.text_rules.specs.Forms.{word, group, cases}

-- idx text*, of a space (Alias Definitions)
abbrev pub item_path : Space → Rule
item_path s = wraps path (pair (reference s outward) (many (next strings) (keeps a_text)))

-- idx text?, of a space (Alias Definitions)
abbrev pub core_path : Space → Rule
core_path s = wraps path (pair (reference s outward) (either (next strings) (keeps a_text) nothing))

-- the word of a space (Index Spaces)
abbrev pub space_word : Space → String
space_word space.Func = "func"
space_word space.Value = "value"
space_word space.Ty = "type"
space_word space.Component = "component"
space_word space.Instance = "instance"
space_word space.CoreModule = "module"
space_word space.CoreFunc = "func"
space_word space.CoreTable = "table"
space_word space.CoreMemory = "memory"
space_word space.CoreGlobal = "global"
space_word space.CoreTag = "tag"
space_word space.CoreType = "type"
space_word space.CoreInstance = "instance"

-- k idx text*, of a space, whose word k is (Alias Definitions)
abbrev pub item_of : Space → Rule
item_of s = word (space_word s) (item_path s)

-- k idx text?, of a space, whose word k is (Alias Definitions)
abbrev pub core_item_of : Space → Rule
core_item_of s = word (space_word s) (core_path s)

-- ior(k) = idx | "(" k idx text* ")" (Alias Definitions)
abbrev pub index_or_item : String → Space → Rule
index_or_item k s = either is_reference (reference s outward) (group (word k (item_path s)))

-- "(" "type" idx text* ")", and of a core type "(" "type" idx text? ")" (Alias Definitions)
abbrev pub type_item : Rule
type_item = group (word "type" (item_path space.Ty))

abbrev pub core_type_item : Rule
core_type_item = group (word "type" (core_path space.CoreType))

-- ekind idx text*, where ekind = "core" "module" | "func" | "value" | "type" | "component" | "instance" (Instance Definitions)
abbrev pub item : Rule
item = cases (
    (is_word "core", word "core" (item_of space.CoreModule))
    ∷ (is_word "func", item_of space.Func)
    ∷ (is_word "value", item_of space.Value)
    ∷ (is_word "type", item_of space.Ty)
    ∷ (is_word "component", item_of space.Component)
    ∷ (is_word "instance", item_of space.Instance)
    ∷ [])

-- eref = "(" ekind idx text* ")" (Instance Definitions)
abbrev pub item_group : Rule
item_group = group item

-- ckind idx text?, where ckind = "func" | "table" | "memory" | "global" | "tag" (Instance Definitions)
abbrev pub core_item : Rule
core_item = cases (
    (is_word "func", core_item_of space.CoreFunc)
    ∷ (is_word "table", core_item_of space.CoreTable)
    ∷ (is_word "memory", core_item_of space.CoreMemory)
    ∷ (is_word "global", core_item_of space.CoreGlobal)
    ∷ (is_word "tag", core_item_of space.CoreTag)
    ∷ [])

-- "core" k idx text? (Alias Definitions)
abbrev pub core_words : String → Space → Rule
core_words k s = word "core" (word k (core_path s))

-- nref(k) = idx | "(" "core" k idx text? ")" (Canonical Definitions)
abbrev pub index_or_core : String → Space → Rule
index_or_core k s = either is_reference (reference s outward) (group (core_words k s))

-- cref(k) = idx | "(" "core" k idx text? ")", or in the older form "(" k idx text? ")" (Canonical Definitions)
abbrev pub core_reference : String → Space → Rule
core_reference k s = either is_reference (reference s outward) (group (by_test legacy (either (is_word "core") (core_words k s) (word k (core_path s))) (core_words k s)))

-- memory = idx | "(" "core" "memory" idx text? ")", or in the older form idx text (Canonical Definitions)
abbrev pub memory_reference : Rule
memory_reference = either is_reference
    (wraps path (pair (reference space.CoreMemory outward) (by_test legacy (either (next strings) (keeps a_text) nothing) nothing)))
    (group (core_words "memory" space.CoreMemory))
