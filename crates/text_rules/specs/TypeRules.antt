-- Types, aliases, imports and exports, and the declarations of the types of components and instances, in the words of the Component Model's
-- Explainer.md.
use Rattle.std.specs.Prelude.{List, [], ◌∷◌, ◌++◌}
use Rattle.comp_model.specs.declared.Space.TheVariants as space
use Rattle.comp_model.specs.Core.{outward}
use Rattle.comp_model.specs.declared.row.ScopeKind.TheVariants as kinds
use Rattle.comp_model.specs.declared.row.Row.TheVariants as rows
use Rattle.wast_grammar.specs.Classes.{opening}
use Rattle.wast_grammar.specs.Grammar as g
use Rattle.wast_grammar.specs.Grammar.{Test, next, going}
use Rattle.wast_grammar.specs.ValueRows.{is_prim, is_word, is_words, is_group, strings}
use Rattle.wast_grammar.specs.ReferenceRows.{is_type_use}
use Rattle.wast_grammar.specs.TypeRows.{is_inline_export}
use Rattle.text_rules.specs.Rule.{Rule, nothing, keeps, reference, pair, either, by_test, many, many_by, row, checked, also, wraps, outside, a_kind, a_text, an_export, inline, a_node, a_part, a_def, a_scope, swapped, outer, an_extern_name}
use Rattle.text_rules.specs.Forms.{word, lone_word, group, first_word, cases, of_row, optional_id, optional_name, named, absent}
use Rattle.text_rules.specs.ValueRules.{type_index, prim, nonprim, inline_val, fty}
use Rattle.text_rules.specs.ReferenceRules.{item_group, type_item, core_type_item, core_reference}
use Rattle.text_rules.specs.CoreTypeRules.{core_value, module_type, core_type, core_rec}

-- ---- types

-- "(" "rep" cval ")" ( "(" "dtor" cref("func") ")" )? (Type Definitions)
abbrev pub resource_parts : Rule
resource_parts = pair (group (word "rep" (core_value outward)))
    (either (next (opening ∷ [])) (wraps a_part (group (word "dtor" (core_reference "func" space.CoreFunc)))) absent)

-- "resource" "(" "rep" cval ")" ( "(" "dtor" cref("func") ")" )? (Type Definitions)
abbrev pub resource_type : Rule
resource_type = of_row rows.ResourceType (word "resource" resource_parts)

-- ( tdecl | import )* (Type Definitions)
abbrev pub component_declarations : Rule
component_declarations = many going (row g.ComponentTypeItem)

-- tdecl* (Type Definitions)
abbrev pub instance_declarations : Rule
instance_declarations = many going (row g.InstanceTypeItem)

-- cty = ! ( tdecl | import )*, ity = ! tdecl*, with the rows of these types (Type Definitions)
abbrev pub component_type_items : Rule
component_type_items = of_row rows.ComponentType (wraps (a_scope kinds.ComponentType) (checked component_declarations))

abbrev pub instance_type_items : Rule
instance_type_items = of_row rows.InstanceType (wraps (a_scope kinds.InstanceType) (checked instance_declarations))

-- typedef = prim | "(" "func" fty ")" | "(" "component" cty ")" | "(" "instance" ity ")" | "(" resource ")" | "(" ! nonprim ")" (Type Definitions)
abbrev pub type_definition : Rule
type_definition = either is_prim (of_row rows.Primitive prim) (group (
    either (is_word "func") (of_row rows.FunctionType (word "func" fty))
    (either (is_word "component") (word "component" component_type_items)
    (either (is_word "instance") (word "instance" instance_type_items)
    (either (is_word "resource") resource_type
    (checked nonprim))))))

-- "type" id? name? typedef (Type Definitions)
abbrev pub type_declaration : Rule
type_declaration = wraps a_def (pair (first_word "type") (named (row g.TypeDefinition)))

-- ---- aliases

-- ekind = "core" "module" | "func" | "value" | "type" | "component" | "instance" (Alias Definitions)
abbrev pub export_kind : Rule
export_kind = cases (
    (is_word "core", also (word "core" (lone_word "module")) (a_kind space.CoreModule))
    ∷ (is_word "func", also (lone_word "func") (a_kind space.Func))
    ∷ (is_word "value", also (lone_word "value") (a_kind space.Value))
    ∷ (is_word "type", also (lone_word "type") (a_kind space.Ty))
    ∷ (is_word "component", also (lone_word "component") (a_kind space.Component))
    ∷ (is_word "instance", also (lone_word "instance") (a_kind space.Instance))
    ∷ [])

-- okind = "core" "module" | "core" "type" | "type" | "component" (Alias Definitions)
abbrev pub outer_kind : Rule
outer_kind = cases (
    (is_words "core" "module", also (word "core" (lone_word "module")) (a_kind space.CoreModule))
    ∷ (is_word "core", also (word "core" (lone_word "type")) (a_kind space.CoreType))
    ∷ (is_word "type", also (lone_word "type") (a_kind space.Ty))
    ∷ (is_word "component", also (lone_word "component") (a_kind space.Component))
    ∷ [])

-- ckind = "func" | "table" | "memory" | "global" | "tag" (Alias Definitions)
abbrev pub core_kind : Rule
core_kind = cases (
    (is_word "func", also (lone_word "func") (a_kind space.CoreFunc))
    ∷ (is_word "table", also (lone_word "table") (a_kind space.CoreTable))
    ∷ (is_word "memory", also (lone_word "memory") (a_kind space.CoreMemory))
    ∷ (is_word "global", also (lone_word "global") (a_kind space.CoreGlobal))
    ∷ (is_word "tag", also (lone_word "tag") (a_kind space.CoreTag))
    ∷ [])

-- "export" idx text "(" ekind id? name? ")" (Alias Definitions)
abbrev pub export_alias : Rule
export_alias = of_row rows.AliasExport (word "export" (pair (reference space.Instance outward) (pair (keeps a_text) (group (pair export_kind (pair optional_id optional_name))))))

-- "core" "export" idx text "(" "core" ckind id? name? ")" (Alias Definitions)
abbrev pub core_export_alias : Rule
core_export_alias = of_row rows.AliasCoreExport (word "core" (word "export" (pair (reference space.CoreInstance outward) (pair (keeps a_text) (group (word "core" (pair core_kind (pair optional_id optional_name))))))))

-- "outer" idx idx "(" okind id? name? ")" (Alias Definitions)
abbrev pub outer_alias : Rule
outer_alias = of_row rows.AliasOuter (word "outer" (pair type_index (pair type_index (group (pair outer_kind (pair optional_id optional_name))))))

-- alias = "alias" ( "export" .. | "core" "export" .. | "outer" .. ), whose first word gives the leaves of an outer alias their offset (Alias Definitions)
abbrev pub alias : Rule
alias = wraps a_def (wraps outer (pair (first_word "alias") (either (is_word "export") export_alias (either (is_word "core") core_export_alias outer_alias))))

-- ---- imports and exports

-- use(fty) = "(" "type" idx text* ")" | fty, and the same of cty, ity and mty (Import and Export Definitions)
abbrev pub func_use : Rule
func_use = either (is_group "type") type_item (wraps (inline space.Ty) (of_row rows.FunctionType fty))

abbrev pub component_use : Rule
component_use = by_test is_type_use type_item (wraps (inline space.Ty) component_type_items)

abbrev pub instance_use : Rule
instance_use = by_test is_type_use type_item (wraps (inline space.Ty) instance_type_items)

abbrev pub module_use : Rule
module_use = by_test is_type_use core_type_item (wraps (inline space.CoreType) module_type)

-- valuse = "(" "type" idx ")" | prim | "(" ! nonprim ")" (Import and Export Definitions)
abbrev pub value_use : Rule
value_use = either (is_group "type") (group (word "type" type_index)) inline_val

-- bound = "eq" idx | "sub" "resource" (Type Definitions)
abbrev pub bound : Rule
bound = either (is_word "eq") (of_row rows.TypeEq (word "eq" type_index)) (of_row rows.SubResource (word "sub" (lone_word "resource")))

-- sig = "core" "module" id? name? cuse(mty) | "func" id? name? use(fty) | "component" id? name? use(cty) | "instance" id? name? use(ity)
--     | "value" id? name? valuse | "type" id? name? "(" bound ")", with or without the names (Import and Export Definitions)
abbrev pub described : (Rule → Rule) → Rule
described names = cases (
    (is_word "core", of_row rows.ModuleDescription (word "core" (word "module" (names module_use))))
    ∷ (is_word "func", of_row rows.FuncDescription (word "func" (names func_use)))
    ∷ (is_word "component", of_row rows.ComponentDescription (word "component" (names component_use)))
    ∷ (is_word "instance", of_row rows.InstanceDescription (word "instance" (names instance_use)))
    ∷ (is_word "value", of_row rows.ValueDescription (word "value" (names value_use)))
    ∷ (is_word "type", word "type" (names (group bound)))
    ∷ [])

-- sig, and signn, the same without names (Import and Export Definitions)
abbrev pub description : Rule
description = described named

abbrev pub nameless_description : Rule
nameless_description = described (λ r. r)

-- "(" sig ")" and "(" signn ")" as leaves (Import and Export Definitions)
abbrev pub signature : Rule
signature = wraps a_node (group description)

abbrev pub nameless_signature : Rule
nameless_signature = wraps a_node (group nameless_description)

-- ename = ( text | "(" "interface" text ")" ) attr* (Import and Export Definitions)
abbrev pub extern_name : Rule
extern_name = outside an_extern_name

-- import = "import" ename "(" sig ")" (Import and Export Definitions)
abbrev pub import_item : Rule
import_item = wraps a_def (of_row rows.Import (pair (first_word "import") (pair extern_name (row g.Signature))))

-- the export of a component type or an instance type: "export" ename "(" sig ")" (Type Definitions)
abbrev pub exported_type : Rule
exported_type = wraps a_def (of_row rows.ExportType (pair (first_word "export") (pair extern_name (row g.Signature))))

-- export = "export" id? name? ename "(" eref ")" ( "(" signn ")" )?; the description stands in front of the item (Import and Export Definitions)
abbrev pub export_item : Rule
export_item = wraps a_def (of_row rows.Export (wraps swapped (pair (first_word "export") (named (pair extern_name (pair item_group
    (either (next (opening ∷ [])) (wraps a_part (row g.NamelessSignature)) absent)))))))

-- ( "(" export ")" )*, each a definition (Import and Export Definitions)
abbrev pub exports : Rule
exports = many going (group export_item)

-- iexp*, of which the texts are kept (Import and Export Definitions)
abbrev pub inline_exports : Rule
inline_exports = many_by is_inline_export (group (word "export" (either (next strings) (keeps an_export) (group (word "interface" (keeps an_export))))))

-- the same alone, with nothing behind them (Import and Export Definitions)
abbrev pub lone_inline_exports : Rule
lone_inline_exports = pair inline_exports nothing

-- ---- declarations

-- tdecl = "(" ctype ")" | "(" crec ")" | "(" "type" id? name? typedef ")" | "(" alias ")" | "(" "export" ename "(" sig ")" ")" (Type Definitions)
abbrev pub declarations : List (Test × Rule)
declarations =
    (is_words "core" "type", core_type)
    ∷ (is_words "core" "rec", core_rec)
    ∷ (is_word "type", type_declaration)
    ∷ (is_word "alias", alias)
    ∷ (is_word "export", exported_type)
    ∷ []

-- what stands in the parentheses of tdecl | "(" import ")" (Type Definitions)
abbrev pub component_declaration : Rule
component_declaration = cases (declarations ++ ((is_word "import", import_item) ∷ []))

-- what stands in the parentheses of tdecl (Type Definitions)
abbrev pub instance_declaration : Rule
instance_declaration = cases declarations

-- tdecl | "(" import ")" (Type Definitions)
abbrev pub component_type_item : Rule
component_type_item = group component_declaration

-- tdecl (Type Definitions)
abbrev pub instance_type_item : Rule
instance_type_item = group instance_declaration
