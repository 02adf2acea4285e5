-- Definitions as lists, and the item of each.
use Rattle.std.proofs.Common.{◌≡◌, ℕ, List, ◌∷◌, ◌++◌, Option, refl, ap, subst, ◌∙◌, append-nil, append_assoc}
use Rattle.std.specs.Borrow.{Bor}
use Rattle.comp_model.specs.Core.{Text}
use Rattle.comp_model.specs.Leb.{uleb}
use Rattle.comp_model.specs.Payloads.{framed, sort_bytes}
use Rattle.comp_model.specs.Model.{Node, nodes, one_def}
use Rattle.comp_wire.specs.declared.types.WireCoreType.{WireCoreType, Func}
use Rattle.comp_wire.specs.declared.types.WireType.{WireType}
use Rattle.comp_wire.specs.declared.types.WireType.TheVariants as ty
use Rattle.comp_wire.specs.declared.externs.Alias.{Alias}
use Rattle.comp_wire.specs.declared.externs.Alias.TheVariants as alias
use Rattle.comp_wire.specs.declared.externs.ComponentExternName.{ComponentExternName}
use Rattle.comp_wire.specs.declared.externs.ComponentTypeRef.{ComponentTypeRef}
use Rattle.comp_wire.specs.declared.kinds.ComponentExportKind.{ComponentExportKind}
use Rattle.comp_wire.specs.declared.canon.WireCanon.{WireCanon}
use Rattle.comp_wire.specs.declared.canon.WireCanon.TheVariants as canon
use Rattle.comp_wire.specs.declared.names.NameMaps.{NameMaps}
use Rattle.comp_wire.specs.declared.defs.WireDef.{WireDef, Component, Row_of-WireDef, end_of-WireDef, more_of-WireDef, items-the_row-WireDef, items_hidden-the_row-WireDef-0}
use Rattle.comp_wire.specs.declared.defs.WireDef.TheBlock.{hidden-the_row-WireDef-0}
use Rattle.comp_wire.specs.declared.defs.WireDef.TheVariants as def
use Rattle.comp_wire.specs.Table as table
use Rattle.comp_wire.specs.Table.{each, one, optional}
use Rattle.comp_wire.specs.declared.sections.SectionKind.{SectionKind}
use Rattle.comp_wire.specs.declared.sections.SectionKind.TheVariants as section_kinds
use Rattle.comp_wire.specs.Sections.{item}
use Rattle.comp_wire.specs.Spelled.{spell_leaf, spell_node, spell_component, item_of_node, item_of_def, FitsNode, FitsItem, FitsDefinition, FitsSections}
use Rattle.comp_wire.specs.Values.{alias_row, rows_of_list, core_argument_row, core_export_row, argument_row, bundle_export_row, start_argument_row, description_leaf, optional_of, space_of}
use Rattle.comp_wire.specs.NameSection.{maps_of, name_definition}
use Rattle.comp_wire.specs.Definitions.{core_type_row, type_row, canon_row, definition_row, definitions_of_row, def_of, wire_defs, defs_append, named_defs, component_of_defs, component_row}

-- a row whose item is that of a section with these rows
abbrev ItemIn : Node → SectionKind → table.Family → Type 0
ItemIn n s f = (item_of_node n ≡ item s (spell_node n f)) × (FitsItem n → FitsNode n f)

pub core_type_item : (t : WireCoreType) → ItemIn (core_type_row t) section_kinds.CoreType table.core_types
core_type_item (Func f) = (refl, λ h. h)
core_type_item _ = (refl, λ h. h)

pub type_item : (t : WireType) → ItemIn (type_row t) section_kinds.Type table.types
type_item (ty.Primitive p) = (refl, λ h. h)
type_item _ = (refl, λ h. h)

pub alias_item : (a : Alias) → ItemIn (alias_row a) section_kinds.Alias table.aliases
alias_item (alias.Outer n k i) = (refl, λ h. h)
alias_item _ = (refl, λ h. h)

pub canon_item : (f : WireCanon) → ItemIn (canon_row f) section_kinds.Canon table.canons
canon_item canon.TaskCancel = (refl, λ h. h)
canon_item _ = (refl, λ h. h)

as_list : {n : _} (ds : Row_of-WireDef n) → definitions_of_row ds ≡ wire_defs (items-the_row-WireDef n ds)
as_list end_of-WireDef = refl
as_list (more_of-WireDef d ds) = ap (one_def (def_of d)) (as_list ds)

pub definition_row-Component : (ds : List WireDef) (names : NameMaps) → definition_row (Component ds names) ≡ component_row (named_defs ds names)
definition_row-Component ds names = ap (λ es. component_row (defs_append es (name_definition (maps_of names)))) (as_list (hidden-the_row-WireDef-0 ds) ∙ ap wire_defs (items_hidden-the_row-WireDef-0 ds))

pub component_item : (ds : List WireDef) (names : NameMaps) → item_of_def (def_of (Component ds names)) ≡ item section_kinds.Component (spell_component (component_of_defs (named_defs ds names)))
component_item ds names = ap item_of_node (definition_row-Component ds names) ∙ ap (item section_kinds.Component) (append-nil (spell_component (component_of_defs (named_defs ds names))))

pub component_fits : (ds : List WireDef) (names : NameMaps) → FitsDefinition (def_of (Component ds names)) → FitsSections (component_of_defs (named_defs ds names))
component_fits ds names h = (subst FitsItem (definition_row-Component ds names) h.1).1.0

-- ---- the bytes of a definition that has no row of its own, as they are appended

abbrev Content : WireDef → List ℕ → Type 0
Content d bytes = (item_of_def (def_of d)).content ≡ bytes

pub core_module_content : (bytes : List ℕ) → Content (def.CoreModule bytes) bytes
core_module_content bytes = append-nil bytes

pub core_instantiate_content : (i : ℕ) (args : _) → Content (def.CoreInstantiate i args) (0x00 ∷ (uleb i ++ spell_leaf (nodes (rows_of_list core_argument_row args)) (each table.core_arguments)))
core_instantiate_content i args = ap (λ x. 0x00 ∷ (uleb i ++ x)) (append-nil _)

pub core_bundle_content : (exports : _) → Content (def.CoreBundle exports) (0x01 ∷ spell_leaf (nodes (rows_of_list core_export_row exports)) (each table.core_bundle_exports))
core_bundle_content exports = ap (λ x. 0x01 ∷ x) (append-nil _)

pub instantiate_content : (i : ℕ) (args : _) → Content (def.Instantiate i args) (0x00 ∷ (uleb i ++ spell_leaf (nodes (rows_of_list argument_row args)) (each table.arguments)))
instantiate_content i args = ap (λ x. 0x00 ∷ (uleb i ++ x)) (append-nil _)

pub bundle_content : (exports : _) → Content (def.Bundle exports) (0x01 ∷ spell_leaf (nodes (rows_of_list bundle_export_row exports)) (each table.bundle_exports))
bundle_content exports = ap (λ x. 0x01 ∷ x) (append-nil _)

pub start_content : (f : ℕ) (args : _) (n : ℕ) → Content (def.Start f args n) (uleb f ++ (spell_leaf (nodes (rows_of_list start_argument_row args)) (each table.start_arguments) ++ uleb n))
start_content f args n = ap (λ x. uleb f ++ (spell_leaf (nodes (rows_of_list start_argument_row args)) (each table.start_arguments) ++ x)) (append-nil (uleb n))

pub import_content : (x : ComponentExternName) (d : ComponentTypeRef) → Content (def.Import x d) (0x00 ∷ (framed x.name.now ++ spell_leaf (description_leaf d) (one table.descriptions)))
import_content x d = ap (λ y. 0x00 ∷ (framed x.name.now ++ y)) (append-nil _)

pub export_content : (x : ComponentExternName) (d : Option ComponentTypeRef) (k : ComponentExportKind) (i : ℕ)
    → Content (def.Export x d k i) (0x00 ∷ (framed x.name.now ++ (sort_bytes (space_of k) ++ (uleb i ++ spell_leaf (optional_of description_leaf d) (optional (one table.descriptions))))))
export_content x d k i = ap (λ y. 0x00 ∷ (framed x.name.now ++ y)) (append_assoc (sort_bytes (space_of k)) (uleb i) _ ∙ ap (λ y. sort_bytes (space_of k) ++ (uleb i ++ y)) (append-nil _))

pub custom_content : (x : Bor Text) (payload : List ℕ) → Content (def.Custom x payload) (framed x.now ++ payload)
custom_content x payload = ap (λ y. framed x.now ++ y) (append-nil payload)
