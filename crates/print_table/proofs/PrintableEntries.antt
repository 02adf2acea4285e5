-- The rows that stand in others, which fit the table of bytes and pass the test of the printed table.
use Rattle.std.proofs.Common.{◌≡◌, true, [], ◌∷◌}
use Rattle.comp_model.specs.declared.Space.TheVariants as space
use Rattle.comp_model.specs.declared.row.Row.TheVariants as rows
use Rattle.comp_model.specs.Model.{Leaf, no_leaf, ◌▸◌, Node, row}
use Rattle.comp_wire.specs.Table as t
use Rattle.comp_wire.specs.Spelled.{FitsPieces, FitsNode, fits_leaves}
use Rattle.comp_wire.proofs.Groups.{and_both}
use Rattle.print_table.specs.Lines.{inner_line}
use Rattle.print_table.specs.HasText.{line_has, leaves_have, node_has}
use Rattle.print_table.specs.Printable.{ValuePrintable, MaybePrintable, NamedPrintable, CasePrintable, LonePrintable, NamePrintable, CoreValuePrintable, CoreFunctionPrintable, CoreArgumentPrintable, CoreExportPrintable, ArgumentPrintable, ExportPrintable, StartArgumentPrintable, OptionPrintable, DescriptionPrintable, MaybeNumber, EntityPrintable}
use Rattle.print_table.proofs.PrintableLeaves.{no_leaves, one_leaf, two_leaves, three_leaves, NumberLeaf, a_number, FlagLeaf, off, on, IndexLeaf, an_index, ItemLeaf, an_item, CoreItemLeaf, a_core_item, TextLeaf, a_text, CoreLeaf, a_core_value, ElementLeaf, an_element, NoIdLeaf, no_id, NodesLeaf, some_nodes, number_at, flag_at, index_at, value_at, maybe_at, maximum_at, no_id_at, core_at, text_at, name_at, item_at, core_item_at, element_at, groups_at}

named_type_made : {a b : Leaf} → TextLeaf a → ValuePrintable b → NamedPrintable (row rows.NamedType (a ▸ b ▸ no_leaf))
named_type_made (a_text x) v = NamedPrintable.named x v

pub named_of : (n : Node) → FitsNode n t.named_types → node_has n ≡ true → NamedPrintable n
named_of (row rows.NamedType ls) h e = two_leaves (λ ls. FitsPieces (t.leaf 0 (t.string) ∷ t.leaf 1 (t.value) ∷ []) (fits_leaves ls) → line_has (inner_line rows.NamedType) (leaves_have ls) ≡ true → NamedPrintable (row rows.NamedType ls)) ls h.0 (λ a b f e. named_type_made (text_at a f.0 (and_both _ _ e).0) (value_at b f.1.0)) h.1 e
named_of _ h e = absurd h

case_type_made : {a b d : Leaf} → NoIdLeaf a → TextLeaf b → MaybePrintable d → CasePrintable (row rows.CaseType (a ▸ b ▸ d ▸ no_leaf))
case_type_made no_id (a_text x) v = CasePrintable.case x v

pub case_of : (n : Node) → FitsNode n t.cases → node_has n ≡ true → CasePrintable n
case_of (row rows.CaseType ls) h e = three_leaves (λ ls. FitsPieces (t.leaf 0 (t.unspelled) ∷ t.leaf 1 (t.string) ∷ t.leaf 2 (t.optional t.value) ∷ []) (fits_leaves ls) → line_has (inner_line rows.CaseType) (leaves_have ls) ≡ true → CasePrintable (row rows.CaseType ls)) ls h.0 (λ a b d f e. case_type_made (no_id_at a f.0) (text_at b f.1.0 (and_both _ _ e).0) (maybe_at d f.1.1.0)) h.1 e
case_of _ h e = absurd h

lone_type_made : {a : Leaf} → ValuePrintable a → LonePrintable (row rows.LoneType (a ▸ no_leaf))
lone_type_made v = LonePrintable.lone v

pub lone_of : (n : Node) → FitsNode n t.lone_types → node_has n ≡ true → LonePrintable n
lone_of (row rows.LoneType ls) h e = one_leaf (λ ls. FitsPieces (t.leaf 0 (t.value) ∷ []) (fits_leaves ls) → line_has (inner_line rows.LoneType) (leaves_have ls) ≡ true → LonePrintable (row rows.LoneType ls)) ls h.0 (λ a f e. lone_type_made (value_at a f.0)) h.1 e
lone_of _ h e = absurd h

lone_name_made : {a : Leaf} → TextLeaf a → NamePrintable (row rows.LoneName (a ▸ no_leaf))
lone_name_made (a_text x) = NamePrintable.name x

pub name_of : (n : Node) → FitsNode n t.lone_names → node_has n ≡ true → NamePrintable n
name_of (row rows.LoneName ls) h e = one_leaf (λ ls. FitsPieces (t.leaf 0 (t.string) ∷ []) (fits_leaves ls) → line_has (inner_line rows.LoneName) (leaves_have ls) ≡ true → NamePrintable (row rows.LoneName ls)) ls h.0 (λ a f e. lone_name_made (text_at a f.0 (and_both _ _ e).0)) h.1 e
name_of _ h e = absurd h

core_value_type_made : {a : Leaf} → CoreLeaf a → CoreValuePrintable (row rows.CoreValueType (a ▸ no_leaf))
core_value_type_made (a_core_value v) = CoreValuePrintable.a_value v

pub core_value_of : (n : Node) → FitsNode n t.core_values → node_has n ≡ true → CoreValuePrintable n
core_value_of (row rows.CoreValueType ls) h e = one_leaf (λ ls. FitsPieces (t.leaf 0 (t.core_type) ∷ []) (fits_leaves ls) → line_has (inner_line rows.CoreValueType) (leaves_have ls) ≡ true → CoreValuePrintable (row rows.CoreValueType ls)) ls h.0 (λ a f e. core_value_type_made (core_at a f.0)) h.1 e
core_value_of _ h e = absurd h

core_function_type_made : {a b : Leaf} → NodesLeaf CoreValuePrintable a → NodesLeaf CoreValuePrintable b → CoreFunctionPrintable (row rows.CoreFunctionType (a ▸ b ▸ no_leaf))
core_function_type_made (some_nodes p) (some_nodes r) = CoreFunctionPrintable.function p r

pub core_function_of : (n : Node) → FitsNode n t.core_functions → node_has n ≡ true → CoreFunctionPrintable n
core_function_of (row rows.CoreFunctionType ls) h e = two_leaves (λ ls. FitsPieces (t.leaf 0 (t.each t.core_values) ∷ t.leaf 1 (t.each t.core_values) ∷ []) (fits_leaves ls) → line_has (inner_line rows.CoreFunctionType) (leaves_have ls) ≡ true → CoreFunctionPrintable (row rows.CoreFunctionType ls)) ls h.0 (λ a b f e. core_function_type_made (groups_at CoreValuePrintable t.core_values core_value_of "param" a f.0 (and_both _ _ e).0) (groups_at CoreValuePrintable t.core_values core_value_of "result" b f.1.0 (and_both _ _ (and_both _ _ e).1).0)) h.1 e
core_function_of _ h e = absurd h

core_argument_made : {a b : Leaf} → TextLeaf a → IndexLeaf space.CoreInstance b → CoreArgumentPrintable (row rows.CoreArgument (a ▸ b ▸ no_leaf))
core_argument_made (a_text x) (an_index w) = CoreArgumentPrintable.with x w

pub core_argument_of : (n : Node) → FitsNode n t.core_arguments → node_has n ≡ true → CoreArgumentPrintable n
core_argument_of (row rows.CoreArgument ls) h e = two_leaves (λ ls. FitsPieces (t.leaf 0 (t.string) ∷ t.leaf 1 (t.index_in space.CoreInstance) ∷ []) (fits_leaves ls) → line_has (inner_line rows.CoreArgument) (leaves_have ls) ≡ true → CoreArgumentPrintable (row rows.CoreArgument ls)) ls h.0 (λ a b f e. core_argument_made (text_at a f.0 (and_both _ _ e).0) (index_at space.CoreInstance b f.1.0)) h.1 e
core_argument_of _ h e = absurd h

core_bundle_export_made : {a b : Leaf} → TextLeaf a → CoreItemLeaf b → CoreExportPrintable (row rows.CoreBundleExport (a ▸ b ▸ no_leaf))
core_bundle_export_made (a_text x) (a_core_item k w) = CoreExportPrintable.export x k w

pub core_export_of : (n : Node) → FitsNode n t.core_bundle_exports → node_has n ≡ true → CoreExportPrintable n
core_export_of (row rows.CoreBundleExport ls) h e = two_leaves (λ ls. FitsPieces (t.leaf 0 (t.string) ∷ t.leaf 1 (t.core_sorted_index) ∷ []) (fits_leaves ls) → line_has (inner_line rows.CoreBundleExport) (leaves_have ls) ≡ true → CoreExportPrintable (row rows.CoreBundleExport ls)) ls h.0 (λ a b f e. core_bundle_export_made (text_at a f.0 (and_both _ _ e).0) (core_item_at b f.1.0 (and_both _ _ (and_both _ _ e).1).0)) h.1 e
core_export_of _ h e = absurd h

argument_made : {a b : Leaf} → TextLeaf a → ItemLeaf b → ArgumentPrintable (row rows.Argument (a ▸ b ▸ no_leaf))
argument_made (a_text x) (an_item k w) = ArgumentPrintable.with x k w

pub argument_of : (n : Node) → FitsNode n t.arguments → node_has n ≡ true → ArgumentPrintable n
argument_of (row rows.Argument ls) h e = two_leaves (λ ls. FitsPieces (t.leaf 0 (t.string) ∷ t.leaf 1 (t.sorted_index) ∷ []) (fits_leaves ls) → line_has (inner_line rows.Argument) (leaves_have ls) ≡ true → ArgumentPrintable (row rows.Argument ls)) ls h.0 (λ a b f e. argument_made (text_at a f.0 (and_both _ _ e).0) (item_at b f.1.0 (and_both _ _ (and_both _ _ e).1).0)) h.1 e
argument_of _ h e = absurd h

bundle_export_made : {a b : Leaf} → TextLeaf a → ItemLeaf b → ExportPrintable (row rows.BundleExport (a ▸ b ▸ no_leaf))
bundle_export_made (a_text x) (an_item k w) = ExportPrintable.export x k w

pub export_of : (n : Node) → FitsNode n t.bundle_exports → node_has n ≡ true → ExportPrintable n
export_of (row rows.BundleExport ls) h e = two_leaves (λ ls. FitsPieces (t.leaf 0 (t.extern_name) ∷ t.leaf 1 (t.sorted_index) ∷ []) (fits_leaves ls) → line_has (inner_line rows.BundleExport) (leaves_have ls) ≡ true → ExportPrintable (row rows.BundleExport ls)) ls h.0 (λ a b f e. bundle_export_made (name_at a f.0 (and_both _ _ e).0) (item_at b f.1.0 (and_both _ _ (and_both _ _ e).1).0)) h.1 e
export_of _ h e = absurd h

start_argument_made : {a : Leaf} → IndexLeaf space.Value a → StartArgumentPrintable (row rows.StartArgument (a ▸ no_leaf))
start_argument_made (an_index w) = StartArgumentPrintable.argument w

pub start_argument_of : (n : Node) → FitsNode n t.start_arguments → node_has n ≡ true → StartArgumentPrintable n
start_argument_of (row rows.StartArgument ls) h e = one_leaf (λ ls. FitsPieces (t.leaf 0 (t.index_in space.Value) ∷ []) (fits_leaves ls) → line_has (inner_line rows.StartArgument) (leaves_have ls) ≡ true → StartArgumentPrintable (row rows.StartArgument ls)) ls h.0 (λ a f e. start_argument_made (index_at space.Value a f.0)) h.1 e
start_argument_of _ h e = absurd h

option_utf8_made : OptionPrintable (row rows.OptionUtf8 (no_leaf))
option_utf8_made = OptionPrintable.utf8

option_utf16_made : OptionPrintable (row rows.OptionUtf16 (no_leaf))
option_utf16_made = OptionPrintable.utf16

option_latin1_utf16_made : OptionPrintable (row rows.OptionLatin1Utf16 (no_leaf))
option_latin1_utf16_made = OptionPrintable.latin1_utf16

option_async_made : OptionPrintable (row rows.OptionAsync (no_leaf))
option_async_made = OptionPrintable.async

option_memory_made : {a : Leaf} → IndexLeaf space.CoreMemory a → OptionPrintable (row rows.OptionMemory (a ▸ no_leaf))
option_memory_made (an_index w) = OptionPrintable.memory w

option_realloc_made : {a : Leaf} → IndexLeaf space.CoreFunc a → OptionPrintable (row rows.OptionRealloc (a ▸ no_leaf))
option_realloc_made (an_index w) = OptionPrintable.realloc w

option_post_return_made : {a : Leaf} → IndexLeaf space.CoreFunc a → OptionPrintable (row rows.OptionPostReturn (a ▸ no_leaf))
option_post_return_made (an_index w) = OptionPrintable.post_return w

option_callback_made : {a : Leaf} → IndexLeaf space.CoreFunc a → OptionPrintable (row rows.OptionCallback (a ▸ no_leaf))
option_callback_made (an_index w) = OptionPrintable.callback w

pub option_of : (n : Node) → FitsNode n t.options → node_has n ≡ true → OptionPrintable n
option_of (row rows.OptionUtf8 ls) h e = no_leaves (λ ls. FitsPieces ([]) (fits_leaves ls) → line_has (inner_line rows.OptionUtf8) (leaves_have ls) ≡ true → OptionPrintable (row rows.OptionUtf8 ls)) ls h.0 (λ f e. option_utf8_made) h.1 e
option_of (row rows.OptionUtf16 ls) h e = no_leaves (λ ls. FitsPieces ([]) (fits_leaves ls) → line_has (inner_line rows.OptionUtf16) (leaves_have ls) ≡ true → OptionPrintable (row rows.OptionUtf16 ls)) ls h.0 (λ f e. option_utf16_made) h.1 e
option_of (row rows.OptionLatin1Utf16 ls) h e = no_leaves (λ ls. FitsPieces ([]) (fits_leaves ls) → line_has (inner_line rows.OptionLatin1Utf16) (leaves_have ls) ≡ true → OptionPrintable (row rows.OptionLatin1Utf16 ls)) ls h.0 (λ f e. option_latin1_utf16_made) h.1 e
option_of (row rows.OptionAsync ls) h e = no_leaves (λ ls. FitsPieces ([]) (fits_leaves ls) → line_has (inner_line rows.OptionAsync) (leaves_have ls) ≡ true → OptionPrintable (row rows.OptionAsync ls)) ls h.0 (λ f e. option_async_made) h.1 e
option_of (row rows.OptionMemory ls) h e = one_leaf (λ ls. FitsPieces (t.leaf 0 (t.index_in space.CoreMemory) ∷ []) (fits_leaves ls) → line_has (inner_line rows.OptionMemory) (leaves_have ls) ≡ true → OptionPrintable (row rows.OptionMemory ls)) ls h.0 (λ a f e. option_memory_made (index_at space.CoreMemory a f.0)) h.1 e
option_of (row rows.OptionRealloc ls) h e = one_leaf (λ ls. FitsPieces (t.leaf 0 (t.index_in space.CoreFunc) ∷ []) (fits_leaves ls) → line_has (inner_line rows.OptionRealloc) (leaves_have ls) ≡ true → OptionPrintable (row rows.OptionRealloc ls)) ls h.0 (λ a f e. option_realloc_made (index_at space.CoreFunc a f.0)) h.1 e
option_of (row rows.OptionPostReturn ls) h e = one_leaf (λ ls. FitsPieces (t.leaf 0 (t.index_in space.CoreFunc) ∷ []) (fits_leaves ls) → line_has (inner_line rows.OptionPostReturn) (leaves_have ls) ≡ true → OptionPrintable (row rows.OptionPostReturn ls)) ls h.0 (λ a f e. option_post_return_made (index_at space.CoreFunc a f.0)) h.1 e
option_of (row rows.OptionCallback ls) h e = one_leaf (λ ls. FitsPieces (t.leaf 0 (t.index_in space.CoreFunc) ∷ []) (fits_leaves ls) → line_has (inner_line rows.OptionCallback) (leaves_have ls) ≡ true → OptionPrintable (row rows.OptionCallback ls)) ls h.0 (λ a f e. option_callback_made (index_at space.CoreFunc a f.0)) h.1 e
option_of _ h e = absurd h

module_description_made : {a : Leaf} → IndexLeaf space.CoreType a → DescriptionPrintable (row rows.ModuleDescription (a ▸ no_leaf))
module_description_made (an_index w) = DescriptionPrintable.module_of w

func_description_made : {a : Leaf} → IndexLeaf space.Ty a → DescriptionPrintable (row rows.FuncDescription (a ▸ no_leaf))
func_description_made (an_index w) = DescriptionPrintable.func_of w

component_description_made : {a : Leaf} → IndexLeaf space.Ty a → DescriptionPrintable (row rows.ComponentDescription (a ▸ no_leaf))
component_description_made (an_index w) = DescriptionPrintable.component_of w

instance_description_made : {a : Leaf} → IndexLeaf space.Ty a → DescriptionPrintable (row rows.InstanceDescription (a ▸ no_leaf))
instance_description_made (an_index w) = DescriptionPrintable.instance_of w

type_eq_made : {a : Leaf} → IndexLeaf space.Ty a → DescriptionPrintable (row rows.TypeEq (a ▸ no_leaf))
type_eq_made (an_index w) = DescriptionPrintable.equal_to w

sub_resource_made : DescriptionPrintable (row rows.SubResource (no_leaf))
sub_resource_made = DescriptionPrintable.resource

pub description_of : (n : Node) → FitsNode n t.descriptions → node_has n ≡ true → DescriptionPrintable n
description_of (row rows.ModuleDescription ls) h e = one_leaf (λ ls. FitsPieces (t.leaf 0 (t.index_in space.CoreType) ∷ []) (fits_leaves ls) → line_has (inner_line rows.ModuleDescription) (leaves_have ls) ≡ true → DescriptionPrintable (row rows.ModuleDescription ls)) ls h.0 (λ a f e. module_description_made (index_at space.CoreType a f.0)) h.1 e
description_of (row rows.FuncDescription ls) h e = one_leaf (λ ls. FitsPieces (t.leaf 0 (t.index_in space.Ty) ∷ []) (fits_leaves ls) → line_has (inner_line rows.FuncDescription) (leaves_have ls) ≡ true → DescriptionPrintable (row rows.FuncDescription ls)) ls h.0 (λ a f e. func_description_made (index_at space.Ty a f.0)) h.1 e
description_of (row rows.ComponentDescription ls) h e = one_leaf (λ ls. FitsPieces (t.leaf 0 (t.index_in space.Ty) ∷ []) (fits_leaves ls) → line_has (inner_line rows.ComponentDescription) (leaves_have ls) ≡ true → DescriptionPrintable (row rows.ComponentDescription ls)) ls h.0 (λ a f e. component_description_made (index_at space.Ty a f.0)) h.1 e
description_of (row rows.InstanceDescription ls) h e = one_leaf (λ ls. FitsPieces (t.leaf 0 (t.index_in space.Ty) ∷ []) (fits_leaves ls) → line_has (inner_line rows.InstanceDescription) (leaves_have ls) ≡ true → DescriptionPrintable (row rows.InstanceDescription ls)) ls h.0 (λ a f e. instance_description_made (index_at space.Ty a f.0)) h.1 e
description_of (row rows.TypeEq ls) h e = one_leaf (λ ls. FitsPieces (t.leaf 0 (t.index_in space.Ty) ∷ []) (fits_leaves ls) → line_has (inner_line rows.TypeEq) (leaves_have ls) ≡ true → DescriptionPrintable (row rows.TypeEq ls)) ls h.0 (λ a f e. type_eq_made (index_at space.Ty a f.0)) h.1 e
description_of (row rows.SubResource ls) h e = no_leaves (λ ls. FitsPieces ([]) (fits_leaves ls) → line_has (inner_line rows.SubResource) (leaves_have ls) ≡ true → DescriptionPrintable (row rows.SubResource ls)) ls h.0 (λ f e. sub_resource_made) h.1 e
description_of _ h e = absurd h

func_entity_made : {a : Leaf} → IndexLeaf space.CoreType a → EntityPrintable (row rows.FuncEntity (a ▸ no_leaf))
func_entity_made (an_index w) = EntityPrintable.func w

table_entity_made : {a b d : Leaf} → ElementLeaf a → NumberLeaf b → MaybeNumber d → EntityPrintable (row rows.TableEntity (a ▸ b ▸ d ▸ no_leaf))
table_entity_made (an_element v) (a_number w) m = EntityPrintable.table v w m

memory_entity_made : {a b : Leaf} → NumberLeaf a → MaybeNumber b → EntityPrintable (row rows.MemoryEntity (a ▸ b ▸ no_leaf))
memory_entity_made (a_number w) m = EntityPrintable.memory w m

global_entity_made : {a b : Leaf} → CoreLeaf a → FlagLeaf b → EntityPrintable (row rows.GlobalEntity (a ▸ b ▸ no_leaf))
global_entity_made (a_core_value v) off = EntityPrintable.constant v
global_entity_made (a_core_value v) on = EntityPrintable.mutable v

pub entity_of : (n : Node) → FitsNode n t.entities → node_has n ≡ true → EntityPrintable n
entity_of (row rows.FuncEntity ls) h e = one_leaf (λ ls. FitsPieces (t.leaf 0 (t.index_in space.CoreType) ∷ []) (fits_leaves ls) → line_has (inner_line rows.FuncEntity) (leaves_have ls) ≡ true → EntityPrintable (row rows.FuncEntity ls)) ls h.0 (λ a f e. func_entity_made (index_at space.CoreType a f.0)) h.1 e
entity_of (row rows.TableEntity ls) h e = three_leaves (λ ls. FitsPieces (t.leaf 0 t.core_type ∷ t.limits 1 ∷ []) (fits_leaves ls) → line_has (inner_line rows.TableEntity) (leaves_have ls) ≡ true → EntityPrintable (row rows.TableEntity ls)) ls h.0 (λ a b d f e. table_entity_made (element_at a f.0 (and_both _ _ (and_both _ _ (and_both _ _ e).1).1).0) (number_at b f.1.0) (maximum_at d f.1.1)) h.1 e
entity_of (row rows.MemoryEntity ls) h e = two_leaves (λ ls. FitsPieces (t.limits 0 ∷ []) (fits_leaves ls) → line_has (inner_line rows.MemoryEntity) (leaves_have ls) ≡ true → EntityPrintable (row rows.MemoryEntity ls)) ls h.0 (λ a b f e. memory_entity_made (number_at a f.0) (maximum_at b f.1)) h.1 e
entity_of (row rows.GlobalEntity ls) h e = two_leaves (λ ls. FitsPieces (t.leaf 0 (t.core_type) ∷ t.leaf 1 (t.flag) ∷ []) (fits_leaves ls) → line_has (inner_line rows.GlobalEntity) (leaves_have ls) ≡ true → EntityPrintable (row rows.GlobalEntity ls)) ls h.0 (λ a b f e. global_entity_made (core_at a f.0) (flag_at b f.1.0)) h.1 e
entity_of _ h e = absurd h
