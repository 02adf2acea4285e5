-- The definitions of a component alone, which fit the table of bytes and pass the test of the printed table, as they are without name sections.
use Rattle.std.proofs.Common.{◌≡◌, true, refl, [], ◌∷◌, length}
use Rattle.comp_model.specs.declared.Space.TheVariants as space
use Rattle.comp_model.specs.declared.row.Row.TheVariants as rows
use Rattle.comp_model.specs.Model as m
use Rattle.comp_model.specs.declared.row.ScopeKind.TheVariants as kinds
use Rattle.comp_model.specs.Model.{Leaf, Leaves, no_leaf, ◌▸◌, row}
use Rattle.comp_model.specs.declared.row.ScopeKind.{ScopeKind}
use Rattle.comp_wire.specs.Table as t
use Rattle.comp_wire.specs.Spelled.{FitsPieces, fits_leaves}
use Rattle.comp_wire.proofs.Groups.{and_both}
use Rattle.print_table.specs.Lines as line
use Rattle.print_table.specs.Lines.{definition_line, module_definition_line}
use Rattle.print_table.specs.TextOf.{unnamed_leaves}
use Rattle.print_table.specs.HasText.{line_has, leaves_have}
use Rattle.print_table.specs.Printable.{MaybePrintable, CoreArgumentPrintable, CoreExportPrintable, ArgumentPrintable, ExportPrintable, StartArgumentPrintable, OptionPrintable, DescriptionPrintable, MaybeDescription, DefPrintable}
use Rattle.print_table.proofs.PrintableLeaves.{no_leaves, one_leaf, two_leaves, three_leaves, NumberLeaf, a_number, FlagLeaf, off, on, IndexLeaf, an_index, ItemLeaf, an_item, TextLeaf, a_text, CoreLeaf, a_core_value, ResultsLeaf, a_count, NodesLeaf, some_nodes, NodeLeaf, a_node, MaybeNode, no_part, a_part, number_at, flag_at, index_at, result_at, results_at, core_at, name_at, item_at, nodes_at, groups_at, node_at, maybe_node_at, as_unnamed, as_named}
use Rattle.print_table.proofs.PrintableEntries.{core_argument_of, core_export_of, argument_of, export_of, start_argument_of, option_of, description_of}

core_instantiate_made : {a b : Leaf} → IndexLeaf space.CoreModule a → NodesLeaf CoreArgumentPrintable b → DefPrintable kinds.Component (row rows.CoreInstantiate (a ▸ b ▸ no_leaf))
core_instantiate_made (an_index w) (some_nodes n) = DefPrintable.core_instantiate w n

pub core_instantiate_row : (ls : Leaves) → (length (fits_leaves ls) ≡ 2) × FitsPieces (t.leaf 0 (t.index_in space.CoreModule) ∷ t.leaf 1 (t.each t.core_arguments) ∷ []) (fits_leaves ls) → line_has (definition_line rows.CoreInstantiate) (leaves_have (unnamed_leaves ls)) ≡ true → DefPrintable kinds.Component (row rows.CoreInstantiate (unnamed_leaves ls))
core_instantiate_row ls h1 e = two_leaves (λ ls. FitsPieces (t.leaf 0 (t.index_in space.CoreModule) ∷ t.leaf 1 (t.each t.core_arguments) ∷ []) (fits_leaves ls) → line_has (definition_line rows.CoreInstantiate) (leaves_have (unnamed_leaves ls)) ≡ true → DefPrintable kinds.Component (row rows.CoreInstantiate (unnamed_leaves ls))) ls h1.0 (λ a b f e. core_instantiate_made (as_unnamed (IndexLeaf space.CoreModule) (t.index_in space.CoreModule) a refl f.0 (index_at space.CoreModule a f.0)) (as_unnamed (NodesLeaf CoreArgumentPrintable) (t.each t.core_arguments) b refl f.1.0 (groups_at CoreArgumentPrintable t.core_arguments core_argument_of "with" b f.1.0 (as_named (t.each t.core_arguments) (line.each_in "with") b refl f.1.0 (and_both _ _ (and_both _ _ e).1).0)))) h1.1 e

core_bundle_made : {a : Leaf} → NodesLeaf CoreExportPrintable a → DefPrintable kinds.Component (row rows.CoreBundle (a ▸ no_leaf))
core_bundle_made (some_nodes n) = DefPrintable.core_bundle n

pub core_bundle_row : (ls : Leaves) → (length (fits_leaves ls) ≡ 1) × FitsPieces (t.leaf 0 (t.each t.core_bundle_exports) ∷ []) (fits_leaves ls) → line_has (definition_line rows.CoreBundle) (leaves_have (unnamed_leaves ls)) ≡ true → DefPrintable kinds.Component (row rows.CoreBundle (unnamed_leaves ls))
core_bundle_row ls h1 e = one_leaf (λ ls. FitsPieces (t.leaf 0 (t.each t.core_bundle_exports) ∷ []) (fits_leaves ls) → line_has (definition_line rows.CoreBundle) (leaves_have (unnamed_leaves ls)) ≡ true → DefPrintable kinds.Component (row rows.CoreBundle (unnamed_leaves ls))) ls h1.0 (λ a f e. core_bundle_made (as_unnamed (NodesLeaf CoreExportPrintable) (t.each t.core_bundle_exports) a refl f.0 (groups_at CoreExportPrintable t.core_bundle_exports core_export_of "export" a f.0 (as_named (t.each t.core_bundle_exports) (line.each_in "export") a refl f.0 (and_both _ _ e).0)))) h1.1 e

instantiate_made : {a b : Leaf} → IndexLeaf space.Component a → NodesLeaf ArgumentPrintable b → DefPrintable kinds.Component (row rows.Instantiate (a ▸ b ▸ no_leaf))
instantiate_made (an_index w) (some_nodes n) = DefPrintable.instantiate w n

pub instantiate_row : (ls : Leaves) → (length (fits_leaves ls) ≡ 2) × FitsPieces (t.leaf 0 (t.index_in space.Component) ∷ t.leaf 1 (t.each t.arguments) ∷ []) (fits_leaves ls) → line_has (definition_line rows.Instantiate) (leaves_have (unnamed_leaves ls)) ≡ true → DefPrintable kinds.Component (row rows.Instantiate (unnamed_leaves ls))
instantiate_row ls h1 e = two_leaves (λ ls. FitsPieces (t.leaf 0 (t.index_in space.Component) ∷ t.leaf 1 (t.each t.arguments) ∷ []) (fits_leaves ls) → line_has (definition_line rows.Instantiate) (leaves_have (unnamed_leaves ls)) ≡ true → DefPrintable kinds.Component (row rows.Instantiate (unnamed_leaves ls))) ls h1.0 (λ a b f e. instantiate_made (as_unnamed (IndexLeaf space.Component) (t.index_in space.Component) a refl f.0 (index_at space.Component a f.0)) (as_unnamed (NodesLeaf ArgumentPrintable) (t.each t.arguments) b refl f.1.0 (groups_at ArgumentPrintable t.arguments argument_of "with" b f.1.0 (as_named (t.each t.arguments) (line.each_in "with") b refl f.1.0 (and_both _ _ (and_both _ _ e).1).0)))) h1.1 e

bundle_made : {a : Leaf} → NodesLeaf ExportPrintable a → DefPrintable kinds.Component (row rows.Bundle (a ▸ no_leaf))
bundle_made (some_nodes n) = DefPrintable.bundle n

pub bundle_row : (ls : Leaves) → (length (fits_leaves ls) ≡ 1) × FitsPieces (t.leaf 0 (t.each t.bundle_exports) ∷ []) (fits_leaves ls) → line_has (definition_line rows.Bundle) (leaves_have (unnamed_leaves ls)) ≡ true → DefPrintable kinds.Component (row rows.Bundle (unnamed_leaves ls))
bundle_row ls h1 e = one_leaf (λ ls. FitsPieces (t.leaf 0 (t.each t.bundle_exports) ∷ []) (fits_leaves ls) → line_has (definition_line rows.Bundle) (leaves_have (unnamed_leaves ls)) ≡ true → DefPrintable kinds.Component (row rows.Bundle (unnamed_leaves ls))) ls h1.0 (λ a f e. bundle_made (as_unnamed (NodesLeaf ExportPrintable) (t.each t.bundle_exports) a refl f.0 (groups_at ExportPrintable t.bundle_exports export_of "export" a f.0 (as_named (t.each t.bundle_exports) (line.each_in "export") a refl f.0 (and_both _ _ e).0)))) h1.1 e

lift_made : {a b d : Leaf} → IndexLeaf space.Ty a → IndexLeaf space.CoreFunc b → NodesLeaf OptionPrintable d → DefPrintable kinds.Component (row rows.Lift (a ▸ b ▸ d ▸ no_leaf))
lift_made (an_index w) (an_index x) (some_nodes n) = DefPrintable.lift w x n

pub lift_row : (ls : Leaves) → (length (fits_leaves ls) ≡ 3) × FitsPieces (t.leaf 1 (t.index_in space.CoreFunc) ∷ t.leaf 2 (t.each t.options) ∷ t.leaf 0 (t.index_in space.Ty) ∷ []) (fits_leaves ls) → line_has (definition_line rows.Lift) (leaves_have (unnamed_leaves ls)) ≡ true → DefPrintable kinds.Component (row rows.Lift (unnamed_leaves ls))
lift_row ls h1 e = three_leaves (λ ls. FitsPieces (t.leaf 1 (t.index_in space.CoreFunc) ∷ t.leaf 2 (t.each t.options) ∷ t.leaf 0 (t.index_in space.Ty) ∷ []) (fits_leaves ls) → line_has (definition_line rows.Lift) (leaves_have (unnamed_leaves ls)) ≡ true → DefPrintable kinds.Component (row rows.Lift (unnamed_leaves ls))) ls h1.0 (λ a b d f e. lift_made (as_unnamed (IndexLeaf space.Ty) (t.index_in space.Ty) a refl f.1.1.0 (index_at space.Ty a f.1.1.0)) (as_unnamed (IndexLeaf space.CoreFunc) (t.index_in space.CoreFunc) b refl f.0 (index_at space.CoreFunc b f.0)) (as_unnamed (NodesLeaf OptionPrintable) (t.each t.options) d refl f.1.0 (nodes_at OptionPrintable t.options option_of d f.1.0 (as_named (t.each t.options) (line.each) d refl f.1.0 (and_both _ _ (and_both _ _ e).1).0)))) h1.1 e

lower_made : {a b : Leaf} → IndexLeaf space.Func a → NodesLeaf OptionPrintable b → DefPrintable kinds.Component (row rows.Lower (a ▸ b ▸ no_leaf))
lower_made (an_index w) (some_nodes n) = DefPrintable.lower w n

pub lower_row : (ls : Leaves) → (length (fits_leaves ls) ≡ 2) × FitsPieces (t.leaf 0 (t.index_in space.Func) ∷ t.leaf 1 (t.each t.options) ∷ []) (fits_leaves ls) → line_has (definition_line rows.Lower) (leaves_have (unnamed_leaves ls)) ≡ true → DefPrintable kinds.Component (row rows.Lower (unnamed_leaves ls))
lower_row ls h1 e = two_leaves (λ ls. FitsPieces (t.leaf 0 (t.index_in space.Func) ∷ t.leaf 1 (t.each t.options) ∷ []) (fits_leaves ls) → line_has (definition_line rows.Lower) (leaves_have (unnamed_leaves ls)) ≡ true → DefPrintable kinds.Component (row rows.Lower (unnamed_leaves ls))) ls h1.0 (λ a b f e. lower_made (as_unnamed (IndexLeaf space.Func) (t.index_in space.Func) a refl f.0 (index_at space.Func a f.0)) (as_unnamed (NodesLeaf OptionPrintable) (t.each t.options) b refl f.1.0 (nodes_at OptionPrintable t.options option_of b f.1.0 (as_named (t.each t.options) (line.each) b refl f.1.0 (and_both _ _ (and_both _ _ e).1).0)))) h1.1 e

start_made : {a b d : Leaf} → IndexLeaf space.Func a → NodesLeaf StartArgumentPrintable b → ResultsLeaf d → DefPrintable kinds.Component (row rows.Start (a ▸ b ▸ d ▸ no_leaf))
start_made (an_index w) (some_nodes n) a_count = DefPrintable.start w n

pub start_row : (ls : Leaves) → (length (fits_leaves ls) ≡ 3) × FitsPieces (t.leaf 0 (t.index_in space.Func) ∷ t.leaf 1 (t.each t.start_arguments) ∷ t.leaf 2 (t.results) ∷ []) (fits_leaves ls) → line_has (definition_line rows.Start) (leaves_have (unnamed_leaves ls)) ≡ true → DefPrintable kinds.Component (row rows.Start (unnamed_leaves ls))
start_row ls h1 e = three_leaves (λ ls. FitsPieces (t.leaf 0 (t.index_in space.Func) ∷ t.leaf 1 (t.each t.start_arguments) ∷ t.leaf 2 (t.results) ∷ []) (fits_leaves ls) → line_has (definition_line rows.Start) (leaves_have (unnamed_leaves ls)) ≡ true → DefPrintable kinds.Component (row rows.Start (unnamed_leaves ls))) ls h1.0 (λ a b d f e. start_made (as_unnamed (IndexLeaf space.Func) (t.index_in space.Func) a refl f.0 (index_at space.Func a f.0)) (as_unnamed (NodesLeaf StartArgumentPrintable) (t.each t.start_arguments) b refl f.1.0 (groups_at StartArgumentPrintable t.start_arguments start_argument_of "value" b f.1.0 (as_named (t.each t.start_arguments) (line.each_in "value") b refl f.1.0 (and_both _ _ (and_both _ _ e).1).0))) (as_unnamed (ResultsLeaf) (t.results) d refl f.1.1.0 (results_at d f.1.1.0))) h1.1 e

import_row_made : {a b : Leaf} → TextLeaf a → NodeLeaf DescriptionPrintable b → DefPrintable kinds.Component (row rows.Import (a ▸ b ▸ no_leaf))
import_row_made (a_text x) (a_node d) = DefPrintable.import x d

pub import_row_row : (ls : Leaves) → (length (fits_leaves ls) ≡ 2) × FitsPieces (t.leaf 0 (t.extern_name) ∷ t.leaf 1 (t.one t.descriptions) ∷ []) (fits_leaves ls) → line_has (definition_line rows.Import) (leaves_have (unnamed_leaves ls)) ≡ true → DefPrintable kinds.Component (row rows.Import (unnamed_leaves ls))
import_row_row ls h1 e = two_leaves (λ ls. FitsPieces (t.leaf 0 (t.extern_name) ∷ t.leaf 1 (t.one t.descriptions) ∷ []) (fits_leaves ls) → line_has (definition_line rows.Import) (leaves_have (unnamed_leaves ls)) ≡ true → DefPrintable kinds.Component (row rows.Import (unnamed_leaves ls))) ls h1.0 (λ a b f e. import_row_made (as_unnamed (TextLeaf) (t.extern_name) a refl f.0 (name_at a f.0 (as_named (t.extern_name) (line.string) a refl f.0 (and_both _ _ e).0))) (as_unnamed (NodeLeaf DescriptionPrintable) (t.one t.descriptions) b refl f.1.0 (node_at DescriptionPrintable t.descriptions description_of b f.1.0 (as_named (t.one t.descriptions) (line.one) b refl f.1.0 (and_both _ _ (and_both _ _ e).1).0)))) h1.1 e

export_row_made : {a b d : Leaf} → TextLeaf a → MaybeNode DescriptionPrintable b → ItemLeaf d → DefPrintable kinds.Component (row rows.Export (a ▸ b ▸ d ▸ no_leaf))
export_row_made (a_text x) no_part (an_item s w) = DefPrintable.export x MaybeDescription.none s w
export_row_made (a_text x) (a_part d) (an_item s w) = DefPrintable.export x (MaybeDescription.some d) s w

pub export_row_row : (ls : Leaves) → (length (fits_leaves ls) ≡ 3) × FitsPieces (t.leaf 0 (t.extern_name) ∷ t.leaf 2 (t.sorted_index) ∷ t.leaf 1 (t.optional (t.one t.descriptions)) ∷ []) (fits_leaves ls) → line_has (definition_line rows.Export) (leaves_have (unnamed_leaves ls)) ≡ true → DefPrintable kinds.Component (row rows.Export (unnamed_leaves ls))
export_row_row ls h1 e = three_leaves (λ ls. FitsPieces (t.leaf 0 (t.extern_name) ∷ t.leaf 2 (t.sorted_index) ∷ t.leaf 1 (t.optional (t.one t.descriptions)) ∷ []) (fits_leaves ls) → line_has (definition_line rows.Export) (leaves_have (unnamed_leaves ls)) ≡ true → DefPrintable kinds.Component (row rows.Export (unnamed_leaves ls))) ls h1.0 (λ a b d f e. export_row_made (as_unnamed (TextLeaf) (t.extern_name) a refl f.0 (name_at a f.0 (as_named (t.extern_name) (line.string) a refl f.0 (and_both _ _ e).0))) (as_unnamed (MaybeNode DescriptionPrintable) (t.optional (t.one t.descriptions)) b refl f.1.1.0 (maybe_node_at DescriptionPrintable t.descriptions description_of b f.1.1.0 (as_named (t.optional (t.one t.descriptions)) (line.optional line.one) b refl f.1.1.0 (and_both _ _ (and_both _ _ (and_both _ _ e).1).1).0))) (as_unnamed (ItemLeaf) (t.sorted_index) d refl f.1.0 (item_at d f.1.0 (as_named (t.sorted_index) (line.item) d refl f.1.0 (and_both _ _ (and_both _ _ e).1).0)))) h1.1 e

task_return_made : {a b : Leaf} → MaybePrintable a → NodesLeaf OptionPrintable b → DefPrintable kinds.Component (row rows.TaskReturn (a ▸ b ▸ no_leaf))
task_return_made v (some_nodes n) = DefPrintable.task_return v n

pub task_return_row : (ls : Leaves) → (length (fits_leaves ls) ≡ 2) × FitsPieces (t.leaf 0 (t.result t.value) ∷ t.leaf 1 (t.each t.options) ∷ []) (fits_leaves ls) → line_has (definition_line rows.TaskReturn) (leaves_have (unnamed_leaves ls)) ≡ true → DefPrintable kinds.Component (row rows.TaskReturn (unnamed_leaves ls))
task_return_row ls h1 e = two_leaves (λ ls. FitsPieces (t.leaf 0 (t.result t.value) ∷ t.leaf 1 (t.each t.options) ∷ []) (fits_leaves ls) → line_has (definition_line rows.TaskReturn) (leaves_have (unnamed_leaves ls)) ≡ true → DefPrintable kinds.Component (row rows.TaskReturn (unnamed_leaves ls))) ls h1.0 (λ a b f e. task_return_made (as_unnamed (MaybePrintable) (t.result t.value) a refl f.0 (result_at a f.0)) (as_unnamed (NodesLeaf OptionPrintable) (t.each t.options) b refl f.1.0 (nodes_at OptionPrintable t.options option_of b f.1.0 (as_named (t.each t.options) (line.each) b refl f.1.0 (and_both _ _ (and_both _ _ e).1).0)))) h1.1 e

thread_spawn_indirect_made : {a b : Leaf} → IndexLeaf space.CoreType a → IndexLeaf space.CoreTable b → DefPrintable kinds.Component (row rows.ThreadSpawnIndirect (a ▸ b ▸ no_leaf))
thread_spawn_indirect_made (an_index w) (an_index x) = DefPrintable.thread_spawn_indirect w x

pub thread_spawn_indirect_row : (ls : Leaves) → (length (fits_leaves ls) ≡ 2) × FitsPieces (t.leaf 0 (t.index_in space.CoreType) ∷ t.leaf 1 (t.index_in space.CoreTable) ∷ []) (fits_leaves ls) → line_has (definition_line rows.ThreadSpawnIndirect) (leaves_have (unnamed_leaves ls)) ≡ true → DefPrintable kinds.Component (row rows.ThreadSpawnIndirect (unnamed_leaves ls))
thread_spawn_indirect_row ls h1 e = two_leaves (λ ls. FitsPieces (t.leaf 0 (t.index_in space.CoreType) ∷ t.leaf 1 (t.index_in space.CoreTable) ∷ []) (fits_leaves ls) → line_has (definition_line rows.ThreadSpawnIndirect) (leaves_have (unnamed_leaves ls)) ≡ true → DefPrintable kinds.Component (row rows.ThreadSpawnIndirect (unnamed_leaves ls))) ls h1.0 (λ a b f e. thread_spawn_indirect_made (as_unnamed (IndexLeaf space.CoreType) (t.index_in space.CoreType) a refl f.0 (index_at space.CoreType a f.0)) (as_unnamed (IndexLeaf space.CoreTable) (t.index_in space.CoreTable) b refl f.1.0 (index_at space.CoreTable b f.1.0))) h1.1 e

thread_spawn_ref_made : {a : Leaf} → IndexLeaf space.CoreType a → DefPrintable kinds.Component (row rows.ThreadSpawnRef (a ▸ no_leaf))
thread_spawn_ref_made (an_index w) = DefPrintable.thread_spawn_ref w

pub thread_spawn_ref_row : (ls : Leaves) → (length (fits_leaves ls) ≡ 1) × FitsPieces (t.leaf 0 (t.index_in space.CoreType) ∷ []) (fits_leaves ls) → line_has (definition_line rows.ThreadSpawnRef) (leaves_have (unnamed_leaves ls)) ≡ true → DefPrintable kinds.Component (row rows.ThreadSpawnRef (unnamed_leaves ls))
thread_spawn_ref_row ls h1 e = one_leaf (λ ls. FitsPieces (t.leaf 0 (t.index_in space.CoreType) ∷ []) (fits_leaves ls) → line_has (definition_line rows.ThreadSpawnRef) (leaves_have (unnamed_leaves ls)) ≡ true → DefPrintable kinds.Component (row rows.ThreadSpawnRef (unnamed_leaves ls))) ls h1.0 (λ a f e. thread_spawn_ref_made (as_unnamed (IndexLeaf space.CoreType) (t.index_in space.CoreType) a refl f.0 (index_at space.CoreType a f.0))) h1.1 e

subtask_cancel_made : {a : Leaf} → FlagLeaf a → DefPrintable kinds.Component (row rows.SubtaskCancel (a ▸ no_leaf))
subtask_cancel_made off = DefPrintable.subtask_cancel_0
subtask_cancel_made on = DefPrintable.subtask_cancel_1

pub subtask_cancel_row : (ls : Leaves) → (length (fits_leaves ls) ≡ 1) × FitsPieces (t.leaf 0 (t.flag) ∷ []) (fits_leaves ls) → line_has (definition_line rows.SubtaskCancel) (leaves_have (unnamed_leaves ls)) ≡ true → DefPrintable kinds.Component (row rows.SubtaskCancel (unnamed_leaves ls))
subtask_cancel_row ls h1 e = one_leaf (λ ls. FitsPieces (t.leaf 0 (t.flag) ∷ []) (fits_leaves ls) → line_has (definition_line rows.SubtaskCancel) (leaves_have (unnamed_leaves ls)) ≡ true → DefPrintable kinds.Component (row rows.SubtaskCancel (unnamed_leaves ls))) ls h1.0 (λ a f e. subtask_cancel_made (as_unnamed (FlagLeaf) (t.flag) a refl f.0 (flag_at a f.0))) h1.1 e

resource_new_made : {a : Leaf} → IndexLeaf space.Ty a → DefPrintable kinds.Component (row rows.ResourceNew (a ▸ no_leaf))
resource_new_made (an_index w) = DefPrintable.resource_new w

pub resource_new_row : (ls : Leaves) → (length (fits_leaves ls) ≡ 1) × FitsPieces (t.leaf 0 (t.index_in space.Ty) ∷ []) (fits_leaves ls) → line_has (definition_line rows.ResourceNew) (leaves_have (unnamed_leaves ls)) ≡ true → DefPrintable kinds.Component (row rows.ResourceNew (unnamed_leaves ls))
resource_new_row ls h1 e = one_leaf (λ ls. FitsPieces (t.leaf 0 (t.index_in space.Ty) ∷ []) (fits_leaves ls) → line_has (definition_line rows.ResourceNew) (leaves_have (unnamed_leaves ls)) ≡ true → DefPrintable kinds.Component (row rows.ResourceNew (unnamed_leaves ls))) ls h1.0 (λ a f e. resource_new_made (as_unnamed (IndexLeaf space.Ty) (t.index_in space.Ty) a refl f.0 (index_at space.Ty a f.0))) h1.1 e

resource_drop_made : {a : Leaf} → IndexLeaf space.Ty a → DefPrintable kinds.Component (row rows.ResourceDrop (a ▸ no_leaf))
resource_drop_made (an_index w) = DefPrintable.resource_drop w

pub resource_drop_row : (ls : Leaves) → (length (fits_leaves ls) ≡ 1) × FitsPieces (t.leaf 0 (t.index_in space.Ty) ∷ []) (fits_leaves ls) → line_has (definition_line rows.ResourceDrop) (leaves_have (unnamed_leaves ls)) ≡ true → DefPrintable kinds.Component (row rows.ResourceDrop (unnamed_leaves ls))
resource_drop_row ls h1 e = one_leaf (λ ls. FitsPieces (t.leaf 0 (t.index_in space.Ty) ∷ []) (fits_leaves ls) → line_has (definition_line rows.ResourceDrop) (leaves_have (unnamed_leaves ls)) ≡ true → DefPrintable kinds.Component (row rows.ResourceDrop (unnamed_leaves ls))) ls h1.0 (λ a f e. resource_drop_made (as_unnamed (IndexLeaf space.Ty) (t.index_in space.Ty) a refl f.0 (index_at space.Ty a f.0))) h1.1 e

resource_rep_made : {a : Leaf} → IndexLeaf space.Ty a → DefPrintable kinds.Component (row rows.ResourceRep (a ▸ no_leaf))
resource_rep_made (an_index w) = DefPrintable.resource_rep w

pub resource_rep_row : (ls : Leaves) → (length (fits_leaves ls) ≡ 1) × FitsPieces (t.leaf 0 (t.index_in space.Ty) ∷ []) (fits_leaves ls) → line_has (definition_line rows.ResourceRep) (leaves_have (unnamed_leaves ls)) ≡ true → DefPrintable kinds.Component (row rows.ResourceRep (unnamed_leaves ls))
resource_rep_row ls h1 e = one_leaf (λ ls. FitsPieces (t.leaf 0 (t.index_in space.Ty) ∷ []) (fits_leaves ls) → line_has (definition_line rows.ResourceRep) (leaves_have (unnamed_leaves ls)) ≡ true → DefPrintable kinds.Component (row rows.ResourceRep (unnamed_leaves ls))) ls h1.0 (λ a f e. resource_rep_made (as_unnamed (IndexLeaf space.Ty) (t.index_in space.Ty) a refl f.0 (index_at space.Ty a f.0))) h1.1 e

stream_new_made : {a : Leaf} → IndexLeaf space.Ty a → DefPrintable kinds.Component (row rows.StreamNew (a ▸ no_leaf))
stream_new_made (an_index w) = DefPrintable.stream_new w

pub stream_new_row : (ls : Leaves) → (length (fits_leaves ls) ≡ 1) × FitsPieces (t.leaf 0 (t.index_in space.Ty) ∷ []) (fits_leaves ls) → line_has (definition_line rows.StreamNew) (leaves_have (unnamed_leaves ls)) ≡ true → DefPrintable kinds.Component (row rows.StreamNew (unnamed_leaves ls))
stream_new_row ls h1 e = one_leaf (λ ls. FitsPieces (t.leaf 0 (t.index_in space.Ty) ∷ []) (fits_leaves ls) → line_has (definition_line rows.StreamNew) (leaves_have (unnamed_leaves ls)) ≡ true → DefPrintable kinds.Component (row rows.StreamNew (unnamed_leaves ls))) ls h1.0 (λ a f e. stream_new_made (as_unnamed (IndexLeaf space.Ty) (t.index_in space.Ty) a refl f.0 (index_at space.Ty a f.0))) h1.1 e

stream_drop_readable_made : {a : Leaf} → IndexLeaf space.Ty a → DefPrintable kinds.Component (row rows.StreamDropReadable (a ▸ no_leaf))
stream_drop_readable_made (an_index w) = DefPrintable.stream_drop_readable w

pub stream_drop_readable_row : (ls : Leaves) → (length (fits_leaves ls) ≡ 1) × FitsPieces (t.leaf 0 (t.index_in space.Ty) ∷ []) (fits_leaves ls) → line_has (definition_line rows.StreamDropReadable) (leaves_have (unnamed_leaves ls)) ≡ true → DefPrintable kinds.Component (row rows.StreamDropReadable (unnamed_leaves ls))
stream_drop_readable_row ls h1 e = one_leaf (λ ls. FitsPieces (t.leaf 0 (t.index_in space.Ty) ∷ []) (fits_leaves ls) → line_has (definition_line rows.StreamDropReadable) (leaves_have (unnamed_leaves ls)) ≡ true → DefPrintable kinds.Component (row rows.StreamDropReadable (unnamed_leaves ls))) ls h1.0 (λ a f e. stream_drop_readable_made (as_unnamed (IndexLeaf space.Ty) (t.index_in space.Ty) a refl f.0 (index_at space.Ty a f.0))) h1.1 e

stream_drop_writable_made : {a : Leaf} → IndexLeaf space.Ty a → DefPrintable kinds.Component (row rows.StreamDropWritable (a ▸ no_leaf))
stream_drop_writable_made (an_index w) = DefPrintable.stream_drop_writable w

pub stream_drop_writable_row : (ls : Leaves) → (length (fits_leaves ls) ≡ 1) × FitsPieces (t.leaf 0 (t.index_in space.Ty) ∷ []) (fits_leaves ls) → line_has (definition_line rows.StreamDropWritable) (leaves_have (unnamed_leaves ls)) ≡ true → DefPrintable kinds.Component (row rows.StreamDropWritable (unnamed_leaves ls))
stream_drop_writable_row ls h1 e = one_leaf (λ ls. FitsPieces (t.leaf 0 (t.index_in space.Ty) ∷ []) (fits_leaves ls) → line_has (definition_line rows.StreamDropWritable) (leaves_have (unnamed_leaves ls)) ≡ true → DefPrintable kinds.Component (row rows.StreamDropWritable (unnamed_leaves ls))) ls h1.0 (λ a f e. stream_drop_writable_made (as_unnamed (IndexLeaf space.Ty) (t.index_in space.Ty) a refl f.0 (index_at space.Ty a f.0))) h1.1 e

future_new_made : {a : Leaf} → IndexLeaf space.Ty a → DefPrintable kinds.Component (row rows.FutureNew (a ▸ no_leaf))
future_new_made (an_index w) = DefPrintable.future_new w

pub future_new_row : (ls : Leaves) → (length (fits_leaves ls) ≡ 1) × FitsPieces (t.leaf 0 (t.index_in space.Ty) ∷ []) (fits_leaves ls) → line_has (definition_line rows.FutureNew) (leaves_have (unnamed_leaves ls)) ≡ true → DefPrintable kinds.Component (row rows.FutureNew (unnamed_leaves ls))
future_new_row ls h1 e = one_leaf (λ ls. FitsPieces (t.leaf 0 (t.index_in space.Ty) ∷ []) (fits_leaves ls) → line_has (definition_line rows.FutureNew) (leaves_have (unnamed_leaves ls)) ≡ true → DefPrintable kinds.Component (row rows.FutureNew (unnamed_leaves ls))) ls h1.0 (λ a f e. future_new_made (as_unnamed (IndexLeaf space.Ty) (t.index_in space.Ty) a refl f.0 (index_at space.Ty a f.0))) h1.1 e

future_drop_readable_made : {a : Leaf} → IndexLeaf space.Ty a → DefPrintable kinds.Component (row rows.FutureDropReadable (a ▸ no_leaf))
future_drop_readable_made (an_index w) = DefPrintable.future_drop_readable w

pub future_drop_readable_row : (ls : Leaves) → (length (fits_leaves ls) ≡ 1) × FitsPieces (t.leaf 0 (t.index_in space.Ty) ∷ []) (fits_leaves ls) → line_has (definition_line rows.FutureDropReadable) (leaves_have (unnamed_leaves ls)) ≡ true → DefPrintable kinds.Component (row rows.FutureDropReadable (unnamed_leaves ls))
future_drop_readable_row ls h1 e = one_leaf (λ ls. FitsPieces (t.leaf 0 (t.index_in space.Ty) ∷ []) (fits_leaves ls) → line_has (definition_line rows.FutureDropReadable) (leaves_have (unnamed_leaves ls)) ≡ true → DefPrintable kinds.Component (row rows.FutureDropReadable (unnamed_leaves ls))) ls h1.0 (λ a f e. future_drop_readable_made (as_unnamed (IndexLeaf space.Ty) (t.index_in space.Ty) a refl f.0 (index_at space.Ty a f.0))) h1.1 e

future_drop_writable_made : {a : Leaf} → IndexLeaf space.Ty a → DefPrintable kinds.Component (row rows.FutureDropWritable (a ▸ no_leaf))
future_drop_writable_made (an_index w) = DefPrintable.future_drop_writable w

pub future_drop_writable_row : (ls : Leaves) → (length (fits_leaves ls) ≡ 1) × FitsPieces (t.leaf 0 (t.index_in space.Ty) ∷ []) (fits_leaves ls) → line_has (definition_line rows.FutureDropWritable) (leaves_have (unnamed_leaves ls)) ≡ true → DefPrintable kinds.Component (row rows.FutureDropWritable (unnamed_leaves ls))
future_drop_writable_row ls h1 e = one_leaf (λ ls. FitsPieces (t.leaf 0 (t.index_in space.Ty) ∷ []) (fits_leaves ls) → line_has (definition_line rows.FutureDropWritable) (leaves_have (unnamed_leaves ls)) ≡ true → DefPrintable kinds.Component (row rows.FutureDropWritable (unnamed_leaves ls))) ls h1.0 (λ a f e. future_drop_writable_made (as_unnamed (IndexLeaf space.Ty) (t.index_in space.Ty) a refl f.0 (index_at space.Ty a f.0))) h1.1 e

stream_read_made : {a b : Leaf} → IndexLeaf space.Ty a → NodesLeaf OptionPrintable b → DefPrintable kinds.Component (row rows.StreamRead (a ▸ b ▸ no_leaf))
stream_read_made (an_index w) (some_nodes n) = DefPrintable.stream_read w n

pub stream_read_row : (ls : Leaves) → (length (fits_leaves ls) ≡ 2) × FitsPieces (t.leaf 0 (t.index_in space.Ty) ∷ t.leaf 1 (t.each t.options) ∷ []) (fits_leaves ls) → line_has (definition_line rows.StreamRead) (leaves_have (unnamed_leaves ls)) ≡ true → DefPrintable kinds.Component (row rows.StreamRead (unnamed_leaves ls))
stream_read_row ls h1 e = two_leaves (λ ls. FitsPieces (t.leaf 0 (t.index_in space.Ty) ∷ t.leaf 1 (t.each t.options) ∷ []) (fits_leaves ls) → line_has (definition_line rows.StreamRead) (leaves_have (unnamed_leaves ls)) ≡ true → DefPrintable kinds.Component (row rows.StreamRead (unnamed_leaves ls))) ls h1.0 (λ a b f e. stream_read_made (as_unnamed (IndexLeaf space.Ty) (t.index_in space.Ty) a refl f.0 (index_at space.Ty a f.0)) (as_unnamed (NodesLeaf OptionPrintable) (t.each t.options) b refl f.1.0 (nodes_at OptionPrintable t.options option_of b f.1.0 (as_named (t.each t.options) (line.each) b refl f.1.0 (and_both _ _ (and_both _ _ e).1).0)))) h1.1 e

stream_write_made : {a b : Leaf} → IndexLeaf space.Ty a → NodesLeaf OptionPrintable b → DefPrintable kinds.Component (row rows.StreamWrite (a ▸ b ▸ no_leaf))
stream_write_made (an_index w) (some_nodes n) = DefPrintable.stream_write w n

pub stream_write_row : (ls : Leaves) → (length (fits_leaves ls) ≡ 2) × FitsPieces (t.leaf 0 (t.index_in space.Ty) ∷ t.leaf 1 (t.each t.options) ∷ []) (fits_leaves ls) → line_has (definition_line rows.StreamWrite) (leaves_have (unnamed_leaves ls)) ≡ true → DefPrintable kinds.Component (row rows.StreamWrite (unnamed_leaves ls))
stream_write_row ls h1 e = two_leaves (λ ls. FitsPieces (t.leaf 0 (t.index_in space.Ty) ∷ t.leaf 1 (t.each t.options) ∷ []) (fits_leaves ls) → line_has (definition_line rows.StreamWrite) (leaves_have (unnamed_leaves ls)) ≡ true → DefPrintable kinds.Component (row rows.StreamWrite (unnamed_leaves ls))) ls h1.0 (λ a b f e. stream_write_made (as_unnamed (IndexLeaf space.Ty) (t.index_in space.Ty) a refl f.0 (index_at space.Ty a f.0)) (as_unnamed (NodesLeaf OptionPrintable) (t.each t.options) b refl f.1.0 (nodes_at OptionPrintable t.options option_of b f.1.0 (as_named (t.each t.options) (line.each) b refl f.1.0 (and_both _ _ (and_both _ _ e).1).0)))) h1.1 e

future_read_made : {a b : Leaf} → IndexLeaf space.Ty a → NodesLeaf OptionPrintable b → DefPrintable kinds.Component (row rows.FutureRead (a ▸ b ▸ no_leaf))
future_read_made (an_index w) (some_nodes n) = DefPrintable.future_read w n

pub future_read_row : (ls : Leaves) → (length (fits_leaves ls) ≡ 2) × FitsPieces (t.leaf 0 (t.index_in space.Ty) ∷ t.leaf 1 (t.each t.options) ∷ []) (fits_leaves ls) → line_has (definition_line rows.FutureRead) (leaves_have (unnamed_leaves ls)) ≡ true → DefPrintable kinds.Component (row rows.FutureRead (unnamed_leaves ls))
future_read_row ls h1 e = two_leaves (λ ls. FitsPieces (t.leaf 0 (t.index_in space.Ty) ∷ t.leaf 1 (t.each t.options) ∷ []) (fits_leaves ls) → line_has (definition_line rows.FutureRead) (leaves_have (unnamed_leaves ls)) ≡ true → DefPrintable kinds.Component (row rows.FutureRead (unnamed_leaves ls))) ls h1.0 (λ a b f e. future_read_made (as_unnamed (IndexLeaf space.Ty) (t.index_in space.Ty) a refl f.0 (index_at space.Ty a f.0)) (as_unnamed (NodesLeaf OptionPrintable) (t.each t.options) b refl f.1.0 (nodes_at OptionPrintable t.options option_of b f.1.0 (as_named (t.each t.options) (line.each) b refl f.1.0 (and_both _ _ (and_both _ _ e).1).0)))) h1.1 e

future_write_made : {a b : Leaf} → IndexLeaf space.Ty a → NodesLeaf OptionPrintable b → DefPrintable kinds.Component (row rows.FutureWrite (a ▸ b ▸ no_leaf))
future_write_made (an_index w) (some_nodes n) = DefPrintable.future_write w n

pub future_write_row : (ls : Leaves) → (length (fits_leaves ls) ≡ 2) × FitsPieces (t.leaf 0 (t.index_in space.Ty) ∷ t.leaf 1 (t.each t.options) ∷ []) (fits_leaves ls) → line_has (definition_line rows.FutureWrite) (leaves_have (unnamed_leaves ls)) ≡ true → DefPrintable kinds.Component (row rows.FutureWrite (unnamed_leaves ls))
future_write_row ls h1 e = two_leaves (λ ls. FitsPieces (t.leaf 0 (t.index_in space.Ty) ∷ t.leaf 1 (t.each t.options) ∷ []) (fits_leaves ls) → line_has (definition_line rows.FutureWrite) (leaves_have (unnamed_leaves ls)) ≡ true → DefPrintable kinds.Component (row rows.FutureWrite (unnamed_leaves ls))) ls h1.0 (λ a b f e. future_write_made (as_unnamed (IndexLeaf space.Ty) (t.index_in space.Ty) a refl f.0 (index_at space.Ty a f.0)) (as_unnamed (NodesLeaf OptionPrintable) (t.each t.options) b refl f.1.0 (nodes_at OptionPrintable t.options option_of b f.1.0 (as_named (t.each t.options) (line.each) b refl f.1.0 (and_both _ _ (and_both _ _ e).1).0)))) h1.1 e

stream_cancel_read_made : {a b : Leaf} → IndexLeaf space.Ty a → FlagLeaf b → DefPrintable kinds.Component (row rows.StreamCancelRead (a ▸ b ▸ no_leaf))
stream_cancel_read_made (an_index w) off = DefPrintable.stream_cancel_read_0 w
stream_cancel_read_made (an_index w) on = DefPrintable.stream_cancel_read_1 w

pub stream_cancel_read_row : (ls : Leaves) → (length (fits_leaves ls) ≡ 2) × FitsPieces (t.leaf 0 (t.index_in space.Ty) ∷ t.leaf 1 (t.flag) ∷ []) (fits_leaves ls) → line_has (definition_line rows.StreamCancelRead) (leaves_have (unnamed_leaves ls)) ≡ true → DefPrintable kinds.Component (row rows.StreamCancelRead (unnamed_leaves ls))
stream_cancel_read_row ls h1 e = two_leaves (λ ls. FitsPieces (t.leaf 0 (t.index_in space.Ty) ∷ t.leaf 1 (t.flag) ∷ []) (fits_leaves ls) → line_has (definition_line rows.StreamCancelRead) (leaves_have (unnamed_leaves ls)) ≡ true → DefPrintable kinds.Component (row rows.StreamCancelRead (unnamed_leaves ls))) ls h1.0 (λ a b f e. stream_cancel_read_made (as_unnamed (IndexLeaf space.Ty) (t.index_in space.Ty) a refl f.0 (index_at space.Ty a f.0)) (as_unnamed (FlagLeaf) (t.flag) b refl f.1.0 (flag_at b f.1.0))) h1.1 e

stream_cancel_write_made : {a b : Leaf} → IndexLeaf space.Ty a → FlagLeaf b → DefPrintable kinds.Component (row rows.StreamCancelWrite (a ▸ b ▸ no_leaf))
stream_cancel_write_made (an_index w) off = DefPrintable.stream_cancel_write_0 w
stream_cancel_write_made (an_index w) on = DefPrintable.stream_cancel_write_1 w

pub stream_cancel_write_row : (ls : Leaves) → (length (fits_leaves ls) ≡ 2) × FitsPieces (t.leaf 0 (t.index_in space.Ty) ∷ t.leaf 1 (t.flag) ∷ []) (fits_leaves ls) → line_has (definition_line rows.StreamCancelWrite) (leaves_have (unnamed_leaves ls)) ≡ true → DefPrintable kinds.Component (row rows.StreamCancelWrite (unnamed_leaves ls))
stream_cancel_write_row ls h1 e = two_leaves (λ ls. FitsPieces (t.leaf 0 (t.index_in space.Ty) ∷ t.leaf 1 (t.flag) ∷ []) (fits_leaves ls) → line_has (definition_line rows.StreamCancelWrite) (leaves_have (unnamed_leaves ls)) ≡ true → DefPrintable kinds.Component (row rows.StreamCancelWrite (unnamed_leaves ls))) ls h1.0 (λ a b f e. stream_cancel_write_made (as_unnamed (IndexLeaf space.Ty) (t.index_in space.Ty) a refl f.0 (index_at space.Ty a f.0)) (as_unnamed (FlagLeaf) (t.flag) b refl f.1.0 (flag_at b f.1.0))) h1.1 e

future_cancel_read_made : {a b : Leaf} → IndexLeaf space.Ty a → FlagLeaf b → DefPrintable kinds.Component (row rows.FutureCancelRead (a ▸ b ▸ no_leaf))
future_cancel_read_made (an_index w) off = DefPrintable.future_cancel_read_0 w
future_cancel_read_made (an_index w) on = DefPrintable.future_cancel_read_1 w

pub future_cancel_read_row : (ls : Leaves) → (length (fits_leaves ls) ≡ 2) × FitsPieces (t.leaf 0 (t.index_in space.Ty) ∷ t.leaf 1 (t.flag) ∷ []) (fits_leaves ls) → line_has (definition_line rows.FutureCancelRead) (leaves_have (unnamed_leaves ls)) ≡ true → DefPrintable kinds.Component (row rows.FutureCancelRead (unnamed_leaves ls))
future_cancel_read_row ls h1 e = two_leaves (λ ls. FitsPieces (t.leaf 0 (t.index_in space.Ty) ∷ t.leaf 1 (t.flag) ∷ []) (fits_leaves ls) → line_has (definition_line rows.FutureCancelRead) (leaves_have (unnamed_leaves ls)) ≡ true → DefPrintable kinds.Component (row rows.FutureCancelRead (unnamed_leaves ls))) ls h1.0 (λ a b f e. future_cancel_read_made (as_unnamed (IndexLeaf space.Ty) (t.index_in space.Ty) a refl f.0 (index_at space.Ty a f.0)) (as_unnamed (FlagLeaf) (t.flag) b refl f.1.0 (flag_at b f.1.0))) h1.1 e

future_cancel_write_made : {a b : Leaf} → IndexLeaf space.Ty a → FlagLeaf b → DefPrintable kinds.Component (row rows.FutureCancelWrite (a ▸ b ▸ no_leaf))
future_cancel_write_made (an_index w) off = DefPrintable.future_cancel_write_0 w
future_cancel_write_made (an_index w) on = DefPrintable.future_cancel_write_1 w

pub future_cancel_write_row : (ls : Leaves) → (length (fits_leaves ls) ≡ 2) × FitsPieces (t.leaf 0 (t.index_in space.Ty) ∷ t.leaf 1 (t.flag) ∷ []) (fits_leaves ls) → line_has (definition_line rows.FutureCancelWrite) (leaves_have (unnamed_leaves ls)) ≡ true → DefPrintable kinds.Component (row rows.FutureCancelWrite (unnamed_leaves ls))
future_cancel_write_row ls h1 e = two_leaves (λ ls. FitsPieces (t.leaf 0 (t.index_in space.Ty) ∷ t.leaf 1 (t.flag) ∷ []) (fits_leaves ls) → line_has (definition_line rows.FutureCancelWrite) (leaves_have (unnamed_leaves ls)) ≡ true → DefPrintable kinds.Component (row rows.FutureCancelWrite (unnamed_leaves ls))) ls h1.0 (λ a b f e. future_cancel_write_made (as_unnamed (IndexLeaf space.Ty) (t.index_in space.Ty) a refl f.0 (index_at space.Ty a f.0)) (as_unnamed (FlagLeaf) (t.flag) b refl f.1.0 (flag_at b f.1.0))) h1.1 e

context_get_made : {a b : Leaf} → CoreLeaf a → NumberLeaf b → DefPrintable kinds.Component (row rows.ContextGet (a ▸ b ▸ no_leaf))
context_get_made (a_core_value v) (a_number w) = DefPrintable.context_get v w

pub context_get_row : (ls : Leaves) → (length (fits_leaves ls) ≡ 2) × FitsPieces (t.leaf 0 (t.core_type) ∷ t.leaf 1 (t.unsigned) ∷ []) (fits_leaves ls) → line_has (definition_line rows.ContextGet) (leaves_have (unnamed_leaves ls)) ≡ true → DefPrintable kinds.Component (row rows.ContextGet (unnamed_leaves ls))
context_get_row ls h1 e = two_leaves (λ ls. FitsPieces (t.leaf 0 (t.core_type) ∷ t.leaf 1 (t.unsigned) ∷ []) (fits_leaves ls) → line_has (definition_line rows.ContextGet) (leaves_have (unnamed_leaves ls)) ≡ true → DefPrintable kinds.Component (row rows.ContextGet (unnamed_leaves ls))) ls h1.0 (λ a b f e. context_get_made (as_unnamed (CoreLeaf) (t.core_type) a refl f.0 (core_at a f.0)) (as_unnamed (NumberLeaf) (t.unsigned) b refl f.1.0 (number_at b f.1.0))) h1.1 e

context_set_made : {a b : Leaf} → CoreLeaf a → NumberLeaf b → DefPrintable kinds.Component (row rows.ContextSet (a ▸ b ▸ no_leaf))
context_set_made (a_core_value v) (a_number w) = DefPrintable.context_set v w

pub context_set_row : (ls : Leaves) → (length (fits_leaves ls) ≡ 2) × FitsPieces (t.leaf 0 (t.core_type) ∷ t.leaf 1 (t.unsigned) ∷ []) (fits_leaves ls) → line_has (definition_line rows.ContextSet) (leaves_have (unnamed_leaves ls)) ≡ true → DefPrintable kinds.Component (row rows.ContextSet (unnamed_leaves ls))
context_set_row ls h1 e = two_leaves (λ ls. FitsPieces (t.leaf 0 (t.core_type) ∷ t.leaf 1 (t.unsigned) ∷ []) (fits_leaves ls) → line_has (definition_line rows.ContextSet) (leaves_have (unnamed_leaves ls)) ≡ true → DefPrintable kinds.Component (row rows.ContextSet (unnamed_leaves ls))) ls h1.0 (λ a b f e. context_set_made (as_unnamed (CoreLeaf) (t.core_type) a refl f.0 (core_at a f.0)) (as_unnamed (NumberLeaf) (t.unsigned) b refl f.1.0 (number_at b f.1.0))) h1.1 e

error_context_new_made : {a : Leaf} → NodesLeaf OptionPrintable a → DefPrintable kinds.Component (row rows.ErrorContextNew (a ▸ no_leaf))
error_context_new_made (some_nodes n) = DefPrintable.error_context_new n

pub error_context_new_row : (ls : Leaves) → (length (fits_leaves ls) ≡ 1) × FitsPieces (t.leaf 0 (t.each t.options) ∷ []) (fits_leaves ls) → line_has (definition_line rows.ErrorContextNew) (leaves_have (unnamed_leaves ls)) ≡ true → DefPrintable kinds.Component (row rows.ErrorContextNew (unnamed_leaves ls))
error_context_new_row ls h1 e = one_leaf (λ ls. FitsPieces (t.leaf 0 (t.each t.options) ∷ []) (fits_leaves ls) → line_has (definition_line rows.ErrorContextNew) (leaves_have (unnamed_leaves ls)) ≡ true → DefPrintable kinds.Component (row rows.ErrorContextNew (unnamed_leaves ls))) ls h1.0 (λ a f e. error_context_new_made (as_unnamed (NodesLeaf OptionPrintable) (t.each t.options) a refl f.0 (nodes_at OptionPrintable t.options option_of a f.0 (as_named (t.each t.options) (line.each) a refl f.0 (and_both _ _ e).0)))) h1.1 e

error_context_debug_message_made : {a : Leaf} → NodesLeaf OptionPrintable a → DefPrintable kinds.Component (row rows.ErrorContextDebugMessage (a ▸ no_leaf))
error_context_debug_message_made (some_nodes n) = DefPrintable.error_context_debug_message n

pub error_context_debug_message_row : (ls : Leaves) → (length (fits_leaves ls) ≡ 1) × FitsPieces (t.leaf 0 (t.each t.options) ∷ []) (fits_leaves ls) → line_has (definition_line rows.ErrorContextDebugMessage) (leaves_have (unnamed_leaves ls)) ≡ true → DefPrintable kinds.Component (row rows.ErrorContextDebugMessage (unnamed_leaves ls))
error_context_debug_message_row ls h1 e = one_leaf (λ ls. FitsPieces (t.leaf 0 (t.each t.options) ∷ []) (fits_leaves ls) → line_has (definition_line rows.ErrorContextDebugMessage) (leaves_have (unnamed_leaves ls)) ≡ true → DefPrintable kinds.Component (row rows.ErrorContextDebugMessage (unnamed_leaves ls))) ls h1.0 (λ a f e. error_context_debug_message_made (as_unnamed (NodesLeaf OptionPrintable) (t.each t.options) a refl f.0 (nodes_at OptionPrintable t.options option_of a f.0 (as_named (t.each t.options) (line.each) a refl f.0 (and_both _ _ e).0)))) h1.1 e

task_cancel_made : DefPrintable kinds.Component (row rows.TaskCancel (no_leaf))
task_cancel_made = DefPrintable.task_cancel

pub task_cancel_row : (ls : Leaves) → (length (fits_leaves ls) ≡ 0) × FitsPieces ([]) (fits_leaves ls) → line_has (definition_line rows.TaskCancel) (leaves_have (unnamed_leaves ls)) ≡ true → DefPrintable kinds.Component (row rows.TaskCancel (unnamed_leaves ls))
task_cancel_row ls h1 e = no_leaves (λ ls. FitsPieces ([]) (fits_leaves ls) → line_has (definition_line rows.TaskCancel) (leaves_have (unnamed_leaves ls)) ≡ true → DefPrintable kinds.Component (row rows.TaskCancel (unnamed_leaves ls))) ls h1.0 (λ f e. task_cancel_made) h1.1 e

subtask_drop_made : DefPrintable kinds.Component (row rows.SubtaskDrop (no_leaf))
subtask_drop_made = DefPrintable.subtask_drop

pub subtask_drop_row : (ls : Leaves) → (length (fits_leaves ls) ≡ 0) × FitsPieces ([]) (fits_leaves ls) → line_has (definition_line rows.SubtaskDrop) (leaves_have (unnamed_leaves ls)) ≡ true → DefPrintable kinds.Component (row rows.SubtaskDrop (unnamed_leaves ls))
subtask_drop_row ls h1 e = no_leaves (λ ls. FitsPieces ([]) (fits_leaves ls) → line_has (definition_line rows.SubtaskDrop) (leaves_have (unnamed_leaves ls)) ≡ true → DefPrintable kinds.Component (row rows.SubtaskDrop (unnamed_leaves ls))) ls h1.0 (λ f e. subtask_drop_made) h1.1 e

error_context_drop_made : DefPrintable kinds.Component (row rows.ErrorContextDrop (no_leaf))
error_context_drop_made = DefPrintable.error_context_drop

pub error_context_drop_row : (ls : Leaves) → (length (fits_leaves ls) ≡ 0) × FitsPieces ([]) (fits_leaves ls) → line_has (definition_line rows.ErrorContextDrop) (leaves_have (unnamed_leaves ls)) ≡ true → DefPrintable kinds.Component (row rows.ErrorContextDrop (unnamed_leaves ls))
error_context_drop_row ls h1 e = no_leaves (λ ls. FitsPieces ([]) (fits_leaves ls) → line_has (definition_line rows.ErrorContextDrop) (leaves_have (unnamed_leaves ls)) ≡ true → DefPrintable kinds.Component (row rows.ErrorContextDrop (unnamed_leaves ls))) ls h1.0 (λ f e. error_context_drop_made) h1.1 e

waitable_set_new_made : DefPrintable kinds.Component (row rows.WaitableSetNew (no_leaf))
waitable_set_new_made = DefPrintable.waitable_set_new

pub waitable_set_new_row : (ls : Leaves) → (length (fits_leaves ls) ≡ 0) × FitsPieces ([]) (fits_leaves ls) → line_has (definition_line rows.WaitableSetNew) (leaves_have (unnamed_leaves ls)) ≡ true → DefPrintable kinds.Component (row rows.WaitableSetNew (unnamed_leaves ls))
waitable_set_new_row ls h1 e = no_leaves (λ ls. FitsPieces ([]) (fits_leaves ls) → line_has (definition_line rows.WaitableSetNew) (leaves_have (unnamed_leaves ls)) ≡ true → DefPrintable kinds.Component (row rows.WaitableSetNew (unnamed_leaves ls))) ls h1.0 (λ f e. waitable_set_new_made) h1.1 e

waitable_set_drop_made : DefPrintable kinds.Component (row rows.WaitableSetDrop (no_leaf))
waitable_set_drop_made = DefPrintable.waitable_set_drop

pub waitable_set_drop_row : (ls : Leaves) → (length (fits_leaves ls) ≡ 0) × FitsPieces ([]) (fits_leaves ls) → line_has (definition_line rows.WaitableSetDrop) (leaves_have (unnamed_leaves ls)) ≡ true → DefPrintable kinds.Component (row rows.WaitableSetDrop (unnamed_leaves ls))
waitable_set_drop_row ls h1 e = no_leaves (λ ls. FitsPieces ([]) (fits_leaves ls) → line_has (definition_line rows.WaitableSetDrop) (leaves_have (unnamed_leaves ls)) ≡ true → DefPrintable kinds.Component (row rows.WaitableSetDrop (unnamed_leaves ls))) ls h1.0 (λ f e. waitable_set_drop_made) h1.1 e

waitable_join_made : DefPrintable kinds.Component (row rows.WaitableJoin (no_leaf))
waitable_join_made = DefPrintable.waitable_join

pub waitable_join_row : (ls : Leaves) → (length (fits_leaves ls) ≡ 0) × FitsPieces ([]) (fits_leaves ls) → line_has (definition_line rows.WaitableJoin) (leaves_have (unnamed_leaves ls)) ≡ true → DefPrintable kinds.Component (row rows.WaitableJoin (unnamed_leaves ls))
waitable_join_row ls h1 e = no_leaves (λ ls. FitsPieces ([]) (fits_leaves ls) → line_has (definition_line rows.WaitableJoin) (leaves_have (unnamed_leaves ls)) ≡ true → DefPrintable kinds.Component (row rows.WaitableJoin (unnamed_leaves ls))) ls h1.0 (λ f e. waitable_join_made) h1.1 e

backpressure_inc_made : DefPrintable kinds.Component (row rows.BackpressureInc (no_leaf))
backpressure_inc_made = DefPrintable.backpressure_inc

pub backpressure_inc_row : (ls : Leaves) → (length (fits_leaves ls) ≡ 0) × FitsPieces ([]) (fits_leaves ls) → line_has (definition_line rows.BackpressureInc) (leaves_have (unnamed_leaves ls)) ≡ true → DefPrintable kinds.Component (row rows.BackpressureInc (unnamed_leaves ls))
backpressure_inc_row ls h1 e = no_leaves (λ ls. FitsPieces ([]) (fits_leaves ls) → line_has (definition_line rows.BackpressureInc) (leaves_have (unnamed_leaves ls)) ≡ true → DefPrintable kinds.Component (row rows.BackpressureInc (unnamed_leaves ls))) ls h1.0 (λ f e. backpressure_inc_made) h1.1 e

backpressure_dec_made : DefPrintable kinds.Component (row rows.BackpressureDec (no_leaf))
backpressure_dec_made = DefPrintable.backpressure_dec

pub backpressure_dec_row : (ls : Leaves) → (length (fits_leaves ls) ≡ 0) × FitsPieces ([]) (fits_leaves ls) → line_has (definition_line rows.BackpressureDec) (leaves_have (unnamed_leaves ls)) ≡ true → DefPrintable kinds.Component (row rows.BackpressureDec (unnamed_leaves ls))
backpressure_dec_row ls h1 e = no_leaves (λ ls. FitsPieces ([]) (fits_leaves ls) → line_has (definition_line rows.BackpressureDec) (leaves_have (unnamed_leaves ls)) ≡ true → DefPrintable kinds.Component (row rows.BackpressureDec (unnamed_leaves ls))) ls h1.0 (λ f e. backpressure_dec_made) h1.1 e

thread_available_parallelism_made : DefPrintable kinds.Component (row rows.ThreadAvailableParallelism (no_leaf))
thread_available_parallelism_made = DefPrintable.thread_available_parallelism

pub thread_available_parallelism_row : (ls : Leaves) → (length (fits_leaves ls) ≡ 0) × FitsPieces ([]) (fits_leaves ls) → line_has (definition_line rows.ThreadAvailableParallelism) (leaves_have (unnamed_leaves ls)) ≡ true → DefPrintable kinds.Component (row rows.ThreadAvailableParallelism (unnamed_leaves ls))
thread_available_parallelism_row ls h1 e = no_leaves (λ ls. FitsPieces ([]) (fits_leaves ls) → line_has (definition_line rows.ThreadAvailableParallelism) (leaves_have (unnamed_leaves ls)) ≡ true → DefPrintable kinds.Component (row rows.ThreadAvailableParallelism (unnamed_leaves ls))) ls h1.0 (λ f e. thread_available_parallelism_made) h1.1 e
