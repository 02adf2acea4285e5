-- The fields of a component, and a whole text, in the words of the Component Model's Explainer.md.
use Rattle.std.specs.Prelude.{[], ◌∷◌, true, codes}
use Prim.Native.String.{String}
use Rattle.comp_model.specs.declared.Space.TheVariants as space
use Rattle.comp_model.specs.Core.{outward}
use Rattle.comp_model.specs.declared.row.ScopeKind.TheVariants as kinds
use Rattle.comp_model.specs.declared.row.Row.TheVariants as rows
use Rattle.comp_model.specs.declared.row.Row.{Row}
use Rattle.wast_grammar.specs.Classes.{utf8, closing, annotation}
use Rattle.wast_grammar.specs.Grammar as g
use Rattle.wast_grammar.specs.Grammar.{next, going}
use Rattle.wast_grammar.specs.ValueRows.{is_word, is_words, is_group}
use Rattle.wast_grammar.specs.NameRows.{is_inline_import}
use Rattle.wast_grammar.specs.FieldRows.{is_custom, is_producers, producer_words}
use Rattle.text_rules.specs.Rule.{Rule, after, placed, keeps, reference, told, pair, either, by_test, many, row, checked, wraps, outside, a_text, a_string, a_node, a_list, a_def, a_scope, results, joined, by_number, core_fields, some_core_fields}
use Rattle.text_rules.specs.Forms.{word, group, first_word, first_words, cases, of_row, entry, part_id, named}
use Rattle.text_rules.specs.ReferenceRules.{item_path}
use Rattle.text_rules.specs.CoreTypeRules.{core_type, core_rec}
use Rattle.text_rules.specs.TypeRules.{inline_exports, module_use, component_use, alias, import_item, export_item}
use Rattle.text_rules.specs.InstanceRules.{inline_import, core_instance, instance}
use Rattle.text_rules.specs.CanonRules.{func}

-- "core" "module" id? name? iexp* ( iimp cuse(mty) | cfield* ) (Component Definitions; Import and Export Definitions)
abbrev pub core_module : Rule
core_module = wraps a_def (pair (first_words "core" "module") (named (pair inline_exports (by_test is_inline_import
    (of_row rows.Import (pair inline_import (wraps a_node (of_row rows.ModuleDescription module_use))))
    (of_row rows.CoreModule (outside core_fields))))))

-- field*, as the scope of a component (Component Definitions)
abbrev pub component_items : Rule
component_items = wraps (a_scope kinds.Component) (many going (row g.ComponentItem))

-- "component" id? name? iexp* ( iimp use(cty) | field* ) (Component Definitions; Import and Export Definitions)
abbrev pub inner_component : Rule
inner_component = wraps a_def (pair (first_word "component") (named (pair inline_exports (by_test is_inline_import
    (of_row rows.Import (pair inline_import (wraps a_node (of_row rows.ComponentDescription component_use))))
    (of_row rows.Component component_items)))))

-- "type" id? name? iexp* typedef (Type Definitions; Import and Export Definitions)
abbrev pub type_item : Rule
type_item = wraps a_def (pair (first_word "type") (named (pair inline_exports (row g.TypeDefinition))))

-- "start" idx ( "(" "value" idx text* ")" )* ( "(" "result" "(" "value" id? ")" ")" )* (Start Definitions)
-- Each result is a part of the definition, with an id or none.
abbrev pub start : Rule
start = wraps a_def (of_row rows.Start (pair (first_word "start") (pair (reference space.Func outward)
    (pair (wraps a_list (many (is_group "value") (group (entry rows.StartArgument (word "value" (item_path space.Value))))))
    (wraps results (many going (group (word "result" (group (word "value" part_id))))))))))

-- string*, as one text (WebAssembly text format, Strings)
abbrev pub payload : Rule
payload = wraps joined (many going (either (next (utf8 ∷ [])) (keeps a_text) (keeps a_string)))

-- a row from its annotation on, and what stands behind that
abbrev pub noted : Row → String → Rule → Rule
noted t w r = wraps a_def (of_row t (pair (placed true (annotation (codes w))) r))

-- text string* (WebAssembly text format, Custom Annotations)
abbrev pub custom_parts : Rule
custom_parts = pair (keeps a_text) payload

-- "(@custom" text string* ")", whose group the annotation opens itself (WebAssembly text format, Custom Annotations)
abbrev pub custom : Rule
custom = noted rows.Custom "(@custom" (after custom_parts closing)

-- ( "(" ( "language" | "sdk" | "processed-by" ) text text ")" )* (WebAssembly tool conventions, Producers Section)
abbrev pub producers_parts : Rule
producers_parts = wraps (by_number 3) (many going (group (entry rows.Producer (pair (told producer_words (0 ∷ 1 ∷ 2 ∷ [])) (pair (keeps a_text) (keeps a_text))))))

-- "(@producers" ( "(" ( "language" | "sdk" | "processed-by" ) text text ")" )* ")" (WebAssembly tool conventions, Producers Section)
abbrev pub producers : Rule
producers = noted rows.Producers "(@producers" (after producers_parts closing)

-- the same up to what closes their group
abbrev pub custom_contents : Rule
custom_contents = noted rows.Custom "(@custom" custom_parts

abbrev pub producers_contents : Rule
producers_contents = noted rows.Producers "(@producers" producers_parts

-- field, in its parentheses (Component Definitions)
abbrev pub field_in_group : Rule
field_in_group = cases (
    (is_words "core" "module", checked core_module)
    ∷ (is_words "core" "instance", core_instance)
    ∷ (is_words "core" "type", core_type)
    ∷ (is_words "core" "rec", core_rec)
    ∷ (is_words "core" "func", row g.CoreFunc)
    ∷ (is_word "component", checked inner_component)
    ∷ (is_word "instance", instance)
    ∷ (is_word "alias", alias)
    ∷ (is_word "type", type_item)
    ∷ (is_word "func", func)
    ∷ (is_word "import", import_item)
    ∷ (is_word "export", export_item)
    ∷ (is_word "start", start)
    ∷ (is_word "canon", row g.Canon)
    ∷ [])

-- field (Component Definitions)
abbrev pub component_item : Rule
component_item = either is_custom custom (either is_producers producers (group field_in_group))

-- field, without what opens its group, if that isn't its annotation, and without what closes it
abbrev pub field_contents : Rule
field_contents = either is_custom custom_contents (either is_producers producers_contents field_in_group)

-- wat = "(" "component" id? name? ( field* | "binary" string* ) ")" | "(" "module" id? name? ( cfield* | "binary" string* ) ")" | cfield cfield*
-- (Component Definitions; WebAssembly text format, Modules)
-- A text is one definition, of a component or of a core module, at its word, or at no place where it is the fields of a core module alone. In the
-- place of the scope or the fields of a text in binary form stand its bytes.
abbrev pub whole_component : Rule
whole_component = wraps a_def (of_row rows.Component (pair (first_word "component") (named (either (is_word "binary") (word "binary" payload) component_items))))

abbrev pub whole_module : Rule
whole_module = wraps a_def (of_row rows.CoreModule (pair (first_word "module") (named (either (is_word "binary") (word "binary" payload) (outside core_fields)))))

abbrev pub wat_item : Rule
wat_item = either (is_group "component") (group whole_component) (either (is_group "module") (group whole_module) (wraps a_def (of_row rows.CoreModule (outside some_core_fields))))
