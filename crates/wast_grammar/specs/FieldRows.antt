-- The fields of a component, and a whole text, in the words of the Component Model's Explainer.md.
use Rattle.std.specs.Prelude.{List, [], ◌∷◌, ℕ, codes}
use Rattle.wast_grammar.specs.Classes.{closing, annotation}
use Rattle.wast_grammar.specs.Grammar.{Grammar, Test, ComponentItem, CoreField, CoreFunc, Canon, TypeDefinition, nothing, before, after, leaf, a_text, pair, either, many, row, words, checked, cases, word, word_at, group, placed, next, going, by_test}
use Rattle.wast_grammar.specs.ValueRows.{bytes, is_word, is_words, is_group, optional_id, reference}
use Rattle.wast_grammar.specs.NameRows.{is_inline_import, inline_import}
use Rattle.wast_grammar.specs.ReferenceRows.{named, item_path}
use Rattle.wast_grammar.specs.CoreTypeRows.{core_type, core_rec}
use Rattle.wast_grammar.specs.TypeRows.{inline_exports, module_use, component_use, alias, import_item, export_item}
use Rattle.wast_grammar.specs.InstanceRows.{core_instance, instance}
use Rattle.wast_grammar.specs.CoreRows.{field_group}
use Rattle.wast_grammar.specs.CanonRows.{func}

-- ---- core modules

-- cfield, as `CoreRows` has it (WebAssembly text format, Module Fields)
abbrev pub core_field : Grammar
core_field = field_group

-- cfield*, and cfield cfield* (WebAssembly text format, Modules)
abbrev pub core_fields : Grammar
core_fields = many going (row CoreField)

abbrev pub some_core_fields : Grammar
some_core_fields = pair (row CoreField) core_fields

-- "core" "module" id? name? iexp* ( iimp cuse(mty) | cfield* ) (Component Definitions; Import and Export Definitions)
abbrev pub core_module : Grammar
core_module = pair (placed (word "core" (word "module" nothing))) (named (pair inline_exports (by_test is_inline_import (pair inline_import module_use) core_fields)))

-- ---- components, types, start, custom sections

-- field* (Component Definitions)
abbrev pub component_items : Grammar
component_items = many going (row ComponentItem)

-- "component" id? name? iexp* ( iimp use(cty) | field* ) (Component Definitions; Import and Export Definitions)
abbrev pub inner_component : Grammar
inner_component = pair (word_at "component") (named (pair inline_exports (by_test is_inline_import (pair inline_import component_use) component_items)))

-- "type" id? name? iexp* typedef (Type Definitions; Import and Export Definitions)
abbrev pub type_item : Grammar
type_item = pair (word_at "type") (named (pair inline_exports (row TypeDefinition)))

-- "start" idx ( "(" "value" idx text* ")" )* ( "(" "result" "(" "value" id? ")" ")" )* (Start Definitions)
abbrev pub start : Grammar
start = pair (word_at "start") (pair reference (pair (many (is_group "value") (group (word "value" item_path))) (many going (group (word "result" (group (word "value" optional_id)))))))

-- an annotation that begins a field is next
abbrev pub is_custom : Test
is_custom = next (annotation (codes "(@custom") ∷ [])

abbrev pub is_producers : Test
is_producers = next (annotation (codes "(@producers") ∷ [])

-- string* (WebAssembly text format, Strings)
abbrev pub payload : Grammar
payload = many going bytes

-- "(@custom" text string* ")", whose group the annotation opens itself (WebAssembly text format, Custom Annotations)
abbrev pub custom : Grammar
custom = pair (placed (before (annotation (codes "(@custom")) nothing)) (after (pair (leaf a_text) payload) closing)

-- "(@producers" ( "(" ( "language" | "sdk" | "processed-by" ) text text ")" )* ")" (WebAssembly tool conventions, Producers Section)
abbrev pub producer_words : List (List ℕ × ℕ)
producer_words = (codes "language", 0) ∷ (codes "sdk", 1) ∷ (codes "processed-by", 2) ∷ []

abbrev pub producers : Grammar
producers = pair (placed (before (annotation (codes "(@producers")) nothing)) (after (many going (group (pair (words producer_words) (pair (leaf a_text) (leaf a_text))))) closing)

-- field (Component Definitions)
abbrev pub component_item : Grammar
component_item = either is_custom custom (either is_producers producers (group (cases (
    (is_words "core" "module", checked core_module)
    ∷ (is_words "core" "instance", core_instance)
    ∷ (is_words "core" "type", core_type)
    ∷ (is_words "core" "rec", core_rec)
    ∷ (is_words "core" "func", row CoreFunc)
    ∷ (is_word "component", checked inner_component)
    ∷ (is_word "instance", instance)
    ∷ (is_word "alias", alias)
    ∷ (is_word "type", type_item)
    ∷ (is_word "func", func)
    ∷ (is_word "import", import_item)
    ∷ (is_word "export", export_item)
    ∷ (is_word "start", start)
    ∷ (is_word "canon", row Canon)
    ∷ []))))

-- ---- a text

-- wat = "(" "component" id? name? ( field* | "binary" string* ) ")" | "(" "module" id? name? ( cfield* | "binary" string* ) ")" | cfield cfield*
-- (Component Definitions; WebAssembly text format, Modules)
abbrev pub whole_component : Grammar
whole_component = pair (word_at "component") (named (either (is_word "binary") (word "binary" payload) component_items))

abbrev pub whole_module : Grammar
whole_module = pair (word_at "module") (named (either (is_word "binary") (word "binary" payload) core_fields))

abbrev pub wat_item : Grammar
wat_item = either (is_group "component") (group whole_component) (either (is_group "module") (group whole_module) some_core_fields)
