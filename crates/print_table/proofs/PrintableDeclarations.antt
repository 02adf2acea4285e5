-- The definitions of types alone, which fit the table of bytes and pass the test of the printed table, as they are without name sections.
use Rattle.std.proofs.Common.{◌≡◌, true, refl, [], ◌∷◌, length}
use Rattle.comp_model.specs.declared.row.Row.TheVariants as rows
use Rattle.comp_model.specs.Model as m
use Rattle.comp_model.specs.declared.row.ScopeKind.TheVariants as kinds
use Rattle.comp_model.specs.Model.{Leaf, Leaves, no_leaf, ◌▸◌, row}
use Rattle.comp_model.specs.declared.row.ScopeKind.{ScopeKind}
use Rattle.comp_wire.specs.Table as t
use Rattle.comp_wire.specs.Spelled.{FitsPieces, fits_leaves}
use Rattle.comp_wire.proofs.Groups.{and_both}
use Rattle.print_table.specs.Lines as line
use Rattle.print_table.specs.Lines.{definition_line, module_definition_line}
use Rattle.print_table.specs.TextOf.{unnamed_leaves}
use Rattle.print_table.specs.HasText.{line_has, leaves_have}
use Rattle.print_table.specs.Printable.{CoreValuePrintable, CoreFunctionPrintable, DescriptionPrintable, EntityPrintable, DefPrintable}
use Rattle.print_table.proofs.PrintableLeaves.{one_leaf, two_leaves, three_leaves, TextLeaf, a_text, NodesLeaf, some_nodes, NodeLeaf, a_node, text_at, name_at, groups_at, node_at, as_unnamed, as_named}
use Rattle.print_table.proofs.PrintableEntries.{core_value_of, core_function_of, description_of, entity_of}

component_import_made : {a b : Leaf} → TextLeaf a → NodeLeaf DescriptionPrintable b → DefPrintable kinds.ComponentType (row rows.Import (a ▸ b ▸ no_leaf))
component_import_made (a_text x) (a_node d) = DefPrintable.import_in_type x d

pub component_import_row : (ls : Leaves) → (length (fits_leaves ls) ≡ 2) × FitsPieces (t.leaf 0 (t.extern_name) ∷ t.leaf 1 (t.one t.descriptions) ∷ []) (fits_leaves ls) → line_has (definition_line rows.Import) (leaves_have (unnamed_leaves ls)) ≡ true → DefPrintable kinds.ComponentType (row rows.Import (unnamed_leaves ls))
component_import_row ls h1 e = two_leaves (λ ls. FitsPieces (t.leaf 0 (t.extern_name) ∷ t.leaf 1 (t.one t.descriptions) ∷ []) (fits_leaves ls) → line_has (definition_line rows.Import) (leaves_have (unnamed_leaves ls)) ≡ true → DefPrintable kinds.ComponentType (row rows.Import (unnamed_leaves ls))) ls h1.0 (λ a b f e. component_import_made (as_unnamed (TextLeaf) (t.extern_name) a refl f.0 (name_at a f.0 (as_named (t.extern_name) (line.string) a refl f.0 (and_both _ _ e).0))) (as_unnamed (NodeLeaf DescriptionPrintable) (t.one t.descriptions) b refl f.1.0 (node_at DescriptionPrintable t.descriptions description_of b f.1.0 (as_named (t.one t.descriptions) (line.one) b refl f.1.0 (and_both _ _ (and_both _ _ e).1).0)))) h1.1 e

component_export_made : {a b : Leaf} → TextLeaf a → NodeLeaf DescriptionPrintable b → DefPrintable kinds.ComponentType (row rows.ExportType (a ▸ b ▸ no_leaf))
component_export_made (a_text x) (a_node d) = DefPrintable.export_in_component_type x d

pub component_export_row : (ls : Leaves) → (length (fits_leaves ls) ≡ 2) × FitsPieces (t.leaf 0 (t.extern_name) ∷ t.leaf 1 (t.one t.descriptions) ∷ []) (fits_leaves ls) → line_has (definition_line rows.ExportType) (leaves_have (unnamed_leaves ls)) ≡ true → DefPrintable kinds.ComponentType (row rows.ExportType (unnamed_leaves ls))
component_export_row ls h1 e = two_leaves (λ ls. FitsPieces (t.leaf 0 (t.extern_name) ∷ t.leaf 1 (t.one t.descriptions) ∷ []) (fits_leaves ls) → line_has (definition_line rows.ExportType) (leaves_have (unnamed_leaves ls)) ≡ true → DefPrintable kinds.ComponentType (row rows.ExportType (unnamed_leaves ls))) ls h1.0 (λ a b f e. component_export_made (as_unnamed (TextLeaf) (t.extern_name) a refl f.0 (name_at a f.0 (as_named (t.extern_name) (line.string) a refl f.0 (and_both _ _ e).0))) (as_unnamed (NodeLeaf DescriptionPrintable) (t.one t.descriptions) b refl f.1.0 (node_at DescriptionPrintable t.descriptions description_of b f.1.0 (as_named (t.one t.descriptions) (line.one) b refl f.1.0 (and_both _ _ (and_both _ _ e).1).0)))) h1.1 e

instance_export_made : {a b : Leaf} → TextLeaf a → NodeLeaf DescriptionPrintable b → DefPrintable kinds.InstanceType (row rows.ExportType (a ▸ b ▸ no_leaf))
instance_export_made (a_text x) (a_node d) = DefPrintable.export_in_instance_type x d

pub instance_export_row : (ls : Leaves) → (length (fits_leaves ls) ≡ 2) × FitsPieces (t.leaf 0 (t.extern_name) ∷ t.leaf 1 (t.one t.descriptions) ∷ []) (fits_leaves ls) → line_has (definition_line rows.ExportType) (leaves_have (unnamed_leaves ls)) ≡ true → DefPrintable kinds.InstanceType (row rows.ExportType (unnamed_leaves ls))
instance_export_row ls h1 e = two_leaves (λ ls. FitsPieces (t.leaf 0 (t.extern_name) ∷ t.leaf 1 (t.one t.descriptions) ∷ []) (fits_leaves ls) → line_has (definition_line rows.ExportType) (leaves_have (unnamed_leaves ls)) ≡ true → DefPrintable kinds.InstanceType (row rows.ExportType (unnamed_leaves ls))) ls h1.0 (λ a b f e. instance_export_made (as_unnamed (TextLeaf) (t.extern_name) a refl f.0 (name_at a f.0 (as_named (t.extern_name) (line.string) a refl f.0 (and_both _ _ e).0))) (as_unnamed (NodeLeaf DescriptionPrintable) (t.one t.descriptions) b refl f.1.0 (node_at DescriptionPrintable t.descriptions description_of b f.1.0 (as_named (t.one t.descriptions) (line.one) b refl f.1.0 (and_both _ _ (and_both _ _ e).1).0)))) h1.1 e

module_function_made : {a b : Leaf} → NodesLeaf CoreValuePrintable a → NodesLeaf CoreValuePrintable b → DefPrintable kinds.ModuleType (row rows.CoreFunctionType (a ▸ b ▸ no_leaf))
module_function_made (some_nodes p) (some_nodes r) = DefPrintable.module_function_type p r

pub module_function_row : (ls : Leaves) → (length (fits_leaves ls) ≡ 2) × FitsPieces (t.leaf 0 (t.each t.core_values) ∷ t.leaf 1 (t.each t.core_values) ∷ []) (fits_leaves ls) → line_has (module_definition_line rows.CoreFunctionType) (leaves_have (unnamed_leaves ls)) ≡ true → DefPrintable kinds.ModuleType (row rows.CoreFunctionType (unnamed_leaves ls))
module_function_row ls h1 e = two_leaves (λ ls. FitsPieces (t.leaf 0 (t.each t.core_values) ∷ t.leaf 1 (t.each t.core_values) ∷ []) (fits_leaves ls) → line_has (module_definition_line rows.CoreFunctionType) (leaves_have (unnamed_leaves ls)) ≡ true → DefPrintable kinds.ModuleType (row rows.CoreFunctionType (unnamed_leaves ls))) ls h1.0 (λ a b f e. module_function_made (as_unnamed (NodesLeaf CoreValuePrintable) (t.each t.core_values) a refl f.0 (groups_at CoreValuePrintable t.core_values core_value_of "param" a f.0 (as_named (t.each t.core_values) (line.each_in "param") a refl f.0 (and_both _ _ e).0))) (as_unnamed (NodesLeaf CoreValuePrintable) (t.each t.core_values) b refl f.1.0 (groups_at CoreValuePrintable t.core_values core_value_of "result" b f.1.0 (as_named (t.each t.core_values) (line.each_in "result") b refl f.1.0 (and_both _ _ (and_both _ _ e).1).0)))) h1.1 e

module_rec_made : {a : Leaf} → NodesLeaf CoreFunctionPrintable a → DefPrintable kinds.ModuleType (row rows.CoreRec (a ▸ no_leaf))
module_rec_made (some_nodes n) = DefPrintable.module_rec n

pub module_rec_row : (ls : Leaves) → (length (fits_leaves ls) ≡ 1) × FitsPieces (t.leaf 0 (t.each t.core_functions) ∷ []) (fits_leaves ls) → line_has (module_definition_line rows.CoreRec) (leaves_have (unnamed_leaves ls)) ≡ true → DefPrintable kinds.ModuleType (row rows.CoreRec (unnamed_leaves ls))
module_rec_row ls h1 e = one_leaf (λ ls. FitsPieces (t.leaf 0 (t.each t.core_functions) ∷ []) (fits_leaves ls) → line_has (module_definition_line rows.CoreRec) (leaves_have (unnamed_leaves ls)) ≡ true → DefPrintable kinds.ModuleType (row rows.CoreRec (unnamed_leaves ls))) ls h1.0 (λ a f e. module_rec_made (as_unnamed (NodesLeaf CoreFunctionPrintable) (t.each t.core_functions) a refl f.0 (groups_at CoreFunctionPrintable t.core_functions core_function_of "type" a f.0 (as_named (t.each t.core_functions) (line.each_in "type") a refl f.0 (and_both _ _ e).0)))) h1.1 e

module_import_made : {a b d : Leaf} → TextLeaf a → TextLeaf b → NodeLeaf EntityPrintable d → DefPrintable kinds.ModuleType (row rows.ModuleImport (a ▸ b ▸ d ▸ no_leaf))
module_import_made (a_text x) (a_text y) (a_node d) = DefPrintable.module_import x y d

pub module_import_row : (ls : Leaves) → (length (fits_leaves ls) ≡ 3) × FitsPieces (t.leaf 0 (t.string) ∷ t.leaf 1 (t.string) ∷ t.leaf 2 (t.one t.entities) ∷ []) (fits_leaves ls) → line_has (module_definition_line rows.ModuleImport) (leaves_have (unnamed_leaves ls)) ≡ true → DefPrintable kinds.ModuleType (row rows.ModuleImport (unnamed_leaves ls))
module_import_row ls h1 e = three_leaves (λ ls. FitsPieces (t.leaf 0 (t.string) ∷ t.leaf 1 (t.string) ∷ t.leaf 2 (t.one t.entities) ∷ []) (fits_leaves ls) → line_has (module_definition_line rows.ModuleImport) (leaves_have (unnamed_leaves ls)) ≡ true → DefPrintable kinds.ModuleType (row rows.ModuleImport (unnamed_leaves ls))) ls h1.0 (λ a b d f e. module_import_made (as_unnamed (TextLeaf) (t.string) a refl f.0 (text_at a f.0 (as_named (t.string) (line.string) a refl f.0 (and_both _ _ e).0))) (as_unnamed (TextLeaf) (t.string) b refl f.1.0 (text_at b f.1.0 (as_named (t.string) (line.string) b refl f.1.0 (and_both _ _ (and_both _ _ e).1).0))) (as_unnamed (NodeLeaf EntityPrintable) (t.one t.entities) d refl f.1.1.0 (node_at EntityPrintable t.entities entity_of d f.1.1.0 (as_named (t.one t.entities) (line.one) d refl f.1.1.0 (and_both _ _ (and_both _ _ (and_both _ _ e).1).1).0)))) h1.1 e

module_export_made : {a b : Leaf} → TextLeaf a → NodeLeaf EntityPrintable b → DefPrintable kinds.ModuleType (row rows.ModuleExport (a ▸ b ▸ no_leaf))
module_export_made (a_text x) (a_node d) = DefPrintable.module_export x d

pub module_export_row : (ls : Leaves) → (length (fits_leaves ls) ≡ 2) × FitsPieces (t.leaf 0 (t.string) ∷ t.leaf 1 (t.one t.entities) ∷ []) (fits_leaves ls) → line_has (module_definition_line rows.ModuleExport) (leaves_have (unnamed_leaves ls)) ≡ true → DefPrintable kinds.ModuleType (row rows.ModuleExport (unnamed_leaves ls))
module_export_row ls h1 e = two_leaves (λ ls. FitsPieces (t.leaf 0 (t.string) ∷ t.leaf 1 (t.one t.entities) ∷ []) (fits_leaves ls) → line_has (module_definition_line rows.ModuleExport) (leaves_have (unnamed_leaves ls)) ≡ true → DefPrintable kinds.ModuleType (row rows.ModuleExport (unnamed_leaves ls))) ls h1.0 (λ a b f e. module_export_made (as_unnamed (TextLeaf) (t.string) a refl f.0 (text_at a f.0 (as_named (t.string) (line.string) a refl f.0 (and_both _ _ e).0))) (as_unnamed (NodeLeaf EntityPrintable) (t.one t.entities) b refl f.1.0 (node_at EntityPrintable t.entities entity_of b f.1.0 (as_named (t.one t.entities) (line.one) b refl f.1.0 (and_both _ _ (and_both _ _ e).1).0)))) h1.1 e
