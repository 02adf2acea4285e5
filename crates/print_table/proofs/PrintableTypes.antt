-- The definitions of types, core types and aliases, which fit the table of bytes and pass the test of the printed table, as they are without name sections.
use Rattle.std.proofs.Common.{◌≡◌, true, refl, [], ◌∷◌, length}
use Rattle.comp_model.specs.declared.Space.TheVariants as space
use Rattle.comp_model.specs.declared.row.Row.TheVariants as rows
use Rattle.comp_model.specs.Model.{Leaf, Leaves, no_leaf, ◌▸◌, row}
use Rattle.comp_model.specs.declared.row.ScopeKind.{ScopeKind}
use Rattle.comp_wire.specs.Table as t
use Rattle.comp_wire.specs.Spelled.{FitsPieces, fits_leaves}
use Rattle.comp_wire.proofs.Groups.{and_both}
use Rattle.print_table.specs.Lines as line
use Rattle.print_table.specs.Lines.{definition_line, module_definition_line}
use Rattle.print_table.specs.TextOf.{unnamed_leaves}
use Rattle.print_table.specs.HasText.{line_has, leaves_have}
use Rattle.print_table.specs.Printable.{HoldsTypes, ValuePrintable, MaybePrintable, NamedPrintable, CasePrintable, LonePrintable, NamePrintable, CoreValuePrintable, CoreFunctionPrintable, MaybeFunction, DefPrintable}
use Rattle.print_table.proofs.PrintableLeaves.{one_leaf, two_leaves, three_leaves, NumberLeaf, a_number, FlagLeaf, off, on, PrimitiveLeaf, a_primitive, IndexLeaf, an_index, TextLeaf, a_text, KindLeaf, a_kind, CoreKindLeaf, a_core_kind, CoreLeaf, a_core_value, NodesLeaf, some_nodes, number_at, async_at, primitive_at, index_at, value_at, maybe_at, result_at, function_at, core_at, text_at, kind_at, core_kind_at, nodes_at, groups_at, as_unnamed, as_named}
use Rattle.print_table.proofs.PrintableEntries.{named_of, case_of, lone_of, name_of, core_value_of, core_function_of}

primitive_made : {k : ScopeKind} → HoldsTypes k → {a : Leaf} → PrimitiveLeaf a → DefPrintable k (row rows.Primitive (a ▸ no_leaf))
primitive_made h (a_primitive p) = DefPrintable.primitive h p

pub primitive_row : {k : ScopeKind} → HoldsTypes k → (ls : Leaves) → (length (fits_leaves ls) ≡ 1) × FitsPieces (t.leaf 0 (t.primitive_byte) ∷ []) (fits_leaves ls) → line_has (definition_line rows.Primitive) (leaves_have (unnamed_leaves ls)) ≡ true → DefPrintable k (row rows.Primitive (unnamed_leaves ls))
primitive_row {k} h ls h1 e = one_leaf (λ ls. FitsPieces (t.leaf 0 (t.primitive_byte) ∷ []) (fits_leaves ls) → line_has (definition_line rows.Primitive) (leaves_have (unnamed_leaves ls)) ≡ true → DefPrintable k (row rows.Primitive (unnamed_leaves ls))) ls h1.0 (λ a f e. primitive_made h (as_unnamed (PrimitiveLeaf) (t.primitive_byte) a refl f.0 (primitive_at a f.0))) h1.1 e

record_type_made : {k : ScopeKind} → HoldsTypes k → {a : Leaf} → NodesLeaf NamedPrintable a → DefPrintable k (row rows.RecordType (a ▸ no_leaf))
record_type_made h (some_nodes n) = DefPrintable.record_type h n

pub record_type_row : {k : ScopeKind} → HoldsTypes k → (ls : Leaves) → (length (fits_leaves ls) ≡ 1) × FitsPieces (t.leaf 0 (t.each t.named_types) ∷ []) (fits_leaves ls) → line_has (definition_line rows.RecordType) (leaves_have (unnamed_leaves ls)) ≡ true → DefPrintable k (row rows.RecordType (unnamed_leaves ls))
record_type_row {k} h ls h1 e = one_leaf (λ ls. FitsPieces (t.leaf 0 (t.each t.named_types) ∷ []) (fits_leaves ls) → line_has (definition_line rows.RecordType) (leaves_have (unnamed_leaves ls)) ≡ true → DefPrintable k (row rows.RecordType (unnamed_leaves ls))) ls h1.0 (λ a f e. record_type_made h (as_unnamed (NodesLeaf NamedPrintable) (t.each t.named_types) a refl f.0 (groups_at NamedPrintable t.named_types named_of "field" a f.0 (as_named (t.each t.named_types) (line.each_in "field") a refl f.0 (and_both _ _ e).0)))) h1.1 e

variant_type_made : {k : ScopeKind} → HoldsTypes k → {a : Leaf} → NodesLeaf CasePrintable a → DefPrintable k (row rows.VariantType (a ▸ no_leaf))
variant_type_made h (some_nodes n) = DefPrintable.variant_type h n

pub variant_type_row : {k : ScopeKind} → HoldsTypes k → (ls : Leaves) → (length (fits_leaves ls) ≡ 1) × FitsPieces (t.leaf 0 (t.each t.cases) ∷ []) (fits_leaves ls) → line_has (definition_line rows.VariantType) (leaves_have (unnamed_leaves ls)) ≡ true → DefPrintable k (row rows.VariantType (unnamed_leaves ls))
variant_type_row {k} h ls h1 e = one_leaf (λ ls. FitsPieces (t.leaf 0 (t.each t.cases) ∷ []) (fits_leaves ls) → line_has (definition_line rows.VariantType) (leaves_have (unnamed_leaves ls)) ≡ true → DefPrintable k (row rows.VariantType (unnamed_leaves ls))) ls h1.0 (λ a f e. variant_type_made h (as_unnamed (NodesLeaf CasePrintable) (t.each t.cases) a refl f.0 (groups_at CasePrintable t.cases case_of "case" a f.0 (as_named (t.each t.cases) (line.each_in "case") a refl f.0 (and_both _ _ e).0)))) h1.1 e

list_type_made : {k : ScopeKind} → HoldsTypes k → {a : Leaf} → ValuePrintable a → DefPrintable k (row rows.ListType (a ▸ no_leaf))
list_type_made h v = DefPrintable.list_type h v

pub list_type_row : {k : ScopeKind} → HoldsTypes k → (ls : Leaves) → (length (fits_leaves ls) ≡ 1) × FitsPieces (t.leaf 0 (t.value) ∷ []) (fits_leaves ls) → line_has (definition_line rows.ListType) (leaves_have (unnamed_leaves ls)) ≡ true → DefPrintable k (row rows.ListType (unnamed_leaves ls))
list_type_row {k} h ls h1 e = one_leaf (λ ls. FitsPieces (t.leaf 0 (t.value) ∷ []) (fits_leaves ls) → line_has (definition_line rows.ListType) (leaves_have (unnamed_leaves ls)) ≡ true → DefPrintable k (row rows.ListType (unnamed_leaves ls))) ls h1.0 (λ a f e. list_type_made h (as_unnamed (ValuePrintable) (t.value) a refl f.0 (value_at a f.0))) h1.1 e

fixed_length_list_type_made : {k : ScopeKind} → HoldsTypes k → {a b : Leaf} → ValuePrintable a → NumberLeaf b → DefPrintable k (row rows.FixedLengthListType (a ▸ b ▸ no_leaf))
fixed_length_list_type_made h v (a_number w) = DefPrintable.fixed_length_list_type h v w

pub fixed_length_list_type_row : {k : ScopeKind} → HoldsTypes k → (ls : Leaves) → (length (fits_leaves ls) ≡ 2) × FitsPieces (t.leaf 0 (t.value) ∷ t.leaf 1 (t.unsigned) ∷ []) (fits_leaves ls) → line_has (definition_line rows.FixedLengthListType) (leaves_have (unnamed_leaves ls)) ≡ true → DefPrintable k (row rows.FixedLengthListType (unnamed_leaves ls))
fixed_length_list_type_row {k} h ls h1 e = two_leaves (λ ls. FitsPieces (t.leaf 0 (t.value) ∷ t.leaf 1 (t.unsigned) ∷ []) (fits_leaves ls) → line_has (definition_line rows.FixedLengthListType) (leaves_have (unnamed_leaves ls)) ≡ true → DefPrintable k (row rows.FixedLengthListType (unnamed_leaves ls))) ls h1.0 (λ a b f e. fixed_length_list_type_made h (as_unnamed (ValuePrintable) (t.value) a refl f.0 (value_at a f.0)) (as_unnamed (NumberLeaf) (t.unsigned) b refl f.1.0 (number_at b f.1.0))) h1.1 e

tuple_type_made : {k : ScopeKind} → HoldsTypes k → {a : Leaf} → NodesLeaf LonePrintable a → DefPrintable k (row rows.TupleType (a ▸ no_leaf))
tuple_type_made h (some_nodes n) = DefPrintable.tuple_type h n

pub tuple_type_row : {k : ScopeKind} → HoldsTypes k → (ls : Leaves) → (length (fits_leaves ls) ≡ 1) × FitsPieces (t.leaf 0 (t.each t.lone_types) ∷ []) (fits_leaves ls) → line_has (definition_line rows.TupleType) (leaves_have (unnamed_leaves ls)) ≡ true → DefPrintable k (row rows.TupleType (unnamed_leaves ls))
tuple_type_row {k} h ls h1 e = one_leaf (λ ls. FitsPieces (t.leaf 0 (t.each t.lone_types) ∷ []) (fits_leaves ls) → line_has (definition_line rows.TupleType) (leaves_have (unnamed_leaves ls)) ≡ true → DefPrintable k (row rows.TupleType (unnamed_leaves ls))) ls h1.0 (λ a f e. tuple_type_made h (as_unnamed (NodesLeaf LonePrintable) (t.each t.lone_types) a refl f.0 (nodes_at LonePrintable t.lone_types lone_of a f.0 (as_named (t.each t.lone_types) (line.each) a refl f.0 (and_both _ _ e).0)))) h1.1 e

flags_type_made : {k : ScopeKind} → HoldsTypes k → {a : Leaf} → NodesLeaf NamePrintable a → DefPrintable k (row rows.FlagsType (a ▸ no_leaf))
flags_type_made h (some_nodes n) = DefPrintable.flags_type h n

pub flags_type_row : {k : ScopeKind} → HoldsTypes k → (ls : Leaves) → (length (fits_leaves ls) ≡ 1) × FitsPieces (t.leaf 0 (t.each t.lone_names) ∷ []) (fits_leaves ls) → line_has (definition_line rows.FlagsType) (leaves_have (unnamed_leaves ls)) ≡ true → DefPrintable k (row rows.FlagsType (unnamed_leaves ls))
flags_type_row {k} h ls h1 e = one_leaf (λ ls. FitsPieces (t.leaf 0 (t.each t.lone_names) ∷ []) (fits_leaves ls) → line_has (definition_line rows.FlagsType) (leaves_have (unnamed_leaves ls)) ≡ true → DefPrintable k (row rows.FlagsType (unnamed_leaves ls))) ls h1.0 (λ a f e. flags_type_made h (as_unnamed (NodesLeaf NamePrintable) (t.each t.lone_names) a refl f.0 (nodes_at NamePrintable t.lone_names name_of a f.0 (as_named (t.each t.lone_names) (line.each) a refl f.0 (and_both _ _ e).0)))) h1.1 e

enum_type_made : {k : ScopeKind} → HoldsTypes k → {a : Leaf} → NodesLeaf NamePrintable a → DefPrintable k (row rows.EnumType (a ▸ no_leaf))
enum_type_made h (some_nodes n) = DefPrintable.enum_type h n

pub enum_type_row : {k : ScopeKind} → HoldsTypes k → (ls : Leaves) → (length (fits_leaves ls) ≡ 1) × FitsPieces (t.leaf 0 (t.each t.lone_names) ∷ []) (fits_leaves ls) → line_has (definition_line rows.EnumType) (leaves_have (unnamed_leaves ls)) ≡ true → DefPrintable k (row rows.EnumType (unnamed_leaves ls))
enum_type_row {k} h ls h1 e = one_leaf (λ ls. FitsPieces (t.leaf 0 (t.each t.lone_names) ∷ []) (fits_leaves ls) → line_has (definition_line rows.EnumType) (leaves_have (unnamed_leaves ls)) ≡ true → DefPrintable k (row rows.EnumType (unnamed_leaves ls))) ls h1.0 (λ a f e. enum_type_made h (as_unnamed (NodesLeaf NamePrintable) (t.each t.lone_names) a refl f.0 (nodes_at NamePrintable t.lone_names name_of a f.0 (as_named (t.each t.lone_names) (line.each) a refl f.0 (and_both _ _ e).0)))) h1.1 e

option_type_made : {k : ScopeKind} → HoldsTypes k → {a : Leaf} → ValuePrintable a → DefPrintable k (row rows.OptionType (a ▸ no_leaf))
option_type_made h v = DefPrintable.option_type h v

pub option_type_row : {k : ScopeKind} → HoldsTypes k → (ls : Leaves) → (length (fits_leaves ls) ≡ 1) × FitsPieces (t.leaf 0 (t.value) ∷ []) (fits_leaves ls) → line_has (definition_line rows.OptionType) (leaves_have (unnamed_leaves ls)) ≡ true → DefPrintable k (row rows.OptionType (unnamed_leaves ls))
option_type_row {k} h ls h1 e = one_leaf (λ ls. FitsPieces (t.leaf 0 (t.value) ∷ []) (fits_leaves ls) → line_has (definition_line rows.OptionType) (leaves_have (unnamed_leaves ls)) ≡ true → DefPrintable k (row rows.OptionType (unnamed_leaves ls))) ls h1.0 (λ a f e. option_type_made h (as_unnamed (ValuePrintable) (t.value) a refl f.0 (value_at a f.0))) h1.1 e

result_type_made : {k : ScopeKind} → HoldsTypes k → {a b : Leaf} → MaybePrintable a → MaybePrintable b → DefPrintable k (row rows.ResultType (a ▸ b ▸ no_leaf))
result_type_made h u v = DefPrintable.result_type h u v

pub result_type_row : {k : ScopeKind} → HoldsTypes k → (ls : Leaves) → (length (fits_leaves ls) ≡ 2) × FitsPieces (t.leaf 0 (t.optional t.value) ∷ t.leaf 1 (t.optional t.value) ∷ []) (fits_leaves ls) → line_has (definition_line rows.ResultType) (leaves_have (unnamed_leaves ls)) ≡ true → DefPrintable k (row rows.ResultType (unnamed_leaves ls))
result_type_row {k} h ls h1 e = two_leaves (λ ls. FitsPieces (t.leaf 0 (t.optional t.value) ∷ t.leaf 1 (t.optional t.value) ∷ []) (fits_leaves ls) → line_has (definition_line rows.ResultType) (leaves_have (unnamed_leaves ls)) ≡ true → DefPrintable k (row rows.ResultType (unnamed_leaves ls))) ls h1.0 (λ a b f e. result_type_made h (as_unnamed (MaybePrintable) (t.optional t.value) a refl f.0 (maybe_at a f.0)) (as_unnamed (MaybePrintable) (t.optional t.value) b refl f.1.0 (maybe_at b f.1.0))) h1.1 e

own_type_made : {k : ScopeKind} → HoldsTypes k → {a : Leaf} → IndexLeaf space.Ty a → DefPrintable k (row rows.OwnType (a ▸ no_leaf))
own_type_made h (an_index w) = DefPrintable.own_type h w

pub own_type_row : {k : ScopeKind} → HoldsTypes k → (ls : Leaves) → (length (fits_leaves ls) ≡ 1) × FitsPieces (t.leaf 0 (t.index_in space.Ty) ∷ []) (fits_leaves ls) → line_has (definition_line rows.OwnType) (leaves_have (unnamed_leaves ls)) ≡ true → DefPrintable k (row rows.OwnType (unnamed_leaves ls))
own_type_row {k} h ls h1 e = one_leaf (λ ls. FitsPieces (t.leaf 0 (t.index_in space.Ty) ∷ []) (fits_leaves ls) → line_has (definition_line rows.OwnType) (leaves_have (unnamed_leaves ls)) ≡ true → DefPrintable k (row rows.OwnType (unnamed_leaves ls))) ls h1.0 (λ a f e. own_type_made h (as_unnamed (IndexLeaf space.Ty) (t.index_in space.Ty) a refl f.0 (index_at space.Ty a f.0))) h1.1 e

borrow_type_made : {k : ScopeKind} → HoldsTypes k → {a : Leaf} → IndexLeaf space.Ty a → DefPrintable k (row rows.BorrowType (a ▸ no_leaf))
borrow_type_made h (an_index w) = DefPrintable.borrow_type h w

pub borrow_type_row : {k : ScopeKind} → HoldsTypes k → (ls : Leaves) → (length (fits_leaves ls) ≡ 1) × FitsPieces (t.leaf 0 (t.index_in space.Ty) ∷ []) (fits_leaves ls) → line_has (definition_line rows.BorrowType) (leaves_have (unnamed_leaves ls)) ≡ true → DefPrintable k (row rows.BorrowType (unnamed_leaves ls))
borrow_type_row {k} h ls h1 e = one_leaf (λ ls. FitsPieces (t.leaf 0 (t.index_in space.Ty) ∷ []) (fits_leaves ls) → line_has (definition_line rows.BorrowType) (leaves_have (unnamed_leaves ls)) ≡ true → DefPrintable k (row rows.BorrowType (unnamed_leaves ls))) ls h1.0 (λ a f e. borrow_type_made h (as_unnamed (IndexLeaf space.Ty) (t.index_in space.Ty) a refl f.0 (index_at space.Ty a f.0))) h1.1 e

stream_type_made : {k : ScopeKind} → HoldsTypes k → {a : Leaf} → MaybePrintable a → DefPrintable k (row rows.StreamType (a ▸ no_leaf))
stream_type_made h v = DefPrintable.stream_type h v

pub stream_type_row : {k : ScopeKind} → HoldsTypes k → (ls : Leaves) → (length (fits_leaves ls) ≡ 1) × FitsPieces (t.leaf 0 (t.optional t.value) ∷ []) (fits_leaves ls) → line_has (definition_line rows.StreamType) (leaves_have (unnamed_leaves ls)) ≡ true → DefPrintable k (row rows.StreamType (unnamed_leaves ls))
stream_type_row {k} h ls h1 e = one_leaf (λ ls. FitsPieces (t.leaf 0 (t.optional t.value) ∷ []) (fits_leaves ls) → line_has (definition_line rows.StreamType) (leaves_have (unnamed_leaves ls)) ≡ true → DefPrintable k (row rows.StreamType (unnamed_leaves ls))) ls h1.0 (λ a f e. stream_type_made h (as_unnamed (MaybePrintable) (t.optional t.value) a refl f.0 (maybe_at a f.0))) h1.1 e

future_type_made : {k : ScopeKind} → HoldsTypes k → {a : Leaf} → MaybePrintable a → DefPrintable k (row rows.FutureType (a ▸ no_leaf))
future_type_made h v = DefPrintable.future_type h v

pub future_type_row : {k : ScopeKind} → HoldsTypes k → (ls : Leaves) → (length (fits_leaves ls) ≡ 1) × FitsPieces (t.leaf 0 (t.optional t.value) ∷ []) (fits_leaves ls) → line_has (definition_line rows.FutureType) (leaves_have (unnamed_leaves ls)) ≡ true → DefPrintable k (row rows.FutureType (unnamed_leaves ls))
future_type_row {k} h ls h1 e = one_leaf (λ ls. FitsPieces (t.leaf 0 (t.optional t.value) ∷ []) (fits_leaves ls) → line_has (definition_line rows.FutureType) (leaves_have (unnamed_leaves ls)) ≡ true → DefPrintable k (row rows.FutureType (unnamed_leaves ls))) ls h1.0 (λ a f e. future_type_made h (as_unnamed (MaybePrintable) (t.optional t.value) a refl f.0 (maybe_at a f.0))) h1.1 e

function_type_made : {k : ScopeKind} → HoldsTypes k → {a b d : Leaf} → FlagLeaf a → NodesLeaf NamedPrintable b → MaybePrintable d → DefPrintable k (row rows.FunctionType (a ▸ b ▸ d ▸ no_leaf))
function_type_made h off (some_nodes n) v = DefPrintable.plain_function h n v
function_type_made h on (some_nodes n) v = DefPrintable.async_function h n v

pub function_type_row : {k : ScopeKind} → HoldsTypes k → (ls : Leaves) → (length (fits_leaves ls) ≡ 3) × FitsPieces (t.leaf 0 (t.async_byte) ∷ t.leaf 1 (t.each t.named_types) ∷ t.leaf 2 (t.result t.value) ∷ []) (fits_leaves ls) → line_has (definition_line rows.FunctionType) (leaves_have (unnamed_leaves ls)) ≡ true → DefPrintable k (row rows.FunctionType (unnamed_leaves ls))
function_type_row {k} h ls h1 e = three_leaves (λ ls. FitsPieces (t.leaf 0 (t.async_byte) ∷ t.leaf 1 (t.each t.named_types) ∷ t.leaf 2 (t.result t.value) ∷ []) (fits_leaves ls) → line_has (definition_line rows.FunctionType) (leaves_have (unnamed_leaves ls)) ≡ true → DefPrintable k (row rows.FunctionType (unnamed_leaves ls))) ls h1.0 (λ a b d f e. function_type_made h (as_unnamed (FlagLeaf) (t.async_byte) a refl f.0 (async_at a f.0)) (as_unnamed (NodesLeaf NamedPrintable) (t.each t.named_types) b refl f.1.0 (groups_at NamedPrintable t.named_types named_of "param" b f.1.0 (as_named (t.each t.named_types) (line.each_in "param") b refl f.1.0 (and_both _ _ (and_both _ _ e).1).0))) (as_unnamed (MaybePrintable) (t.result t.value) d refl f.1.1.0 (result_at d f.1.1.0))) h1.1 e

resource_type_made : {k : ScopeKind} → HoldsTypes k → {a b : Leaf} → CoreLeaf a → MaybeFunction b → DefPrintable k (row rows.ResourceType (a ▸ b ▸ no_leaf))
resource_type_made h (a_core_value v) u = DefPrintable.resource_type h v u

pub resource_type_row : {k : ScopeKind} → HoldsTypes k → (ls : Leaves) → (length (fits_leaves ls) ≡ 2) × FitsPieces (t.leaf 0 (t.core_type) ∷ t.leaf 1 (t.optional (t.index_in space.CoreFunc)) ∷ []) (fits_leaves ls) → line_has (definition_line rows.ResourceType) (leaves_have (unnamed_leaves ls)) ≡ true → DefPrintable k (row rows.ResourceType (unnamed_leaves ls))
resource_type_row {k} h ls h1 e = two_leaves (λ ls. FitsPieces (t.leaf 0 (t.core_type) ∷ t.leaf 1 (t.optional (t.index_in space.CoreFunc)) ∷ []) (fits_leaves ls) → line_has (definition_line rows.ResourceType) (leaves_have (unnamed_leaves ls)) ≡ true → DefPrintable k (row rows.ResourceType (unnamed_leaves ls))) ls h1.0 (λ a b f e. resource_type_made h (as_unnamed (CoreLeaf) (t.core_type) a refl f.0 (core_at a f.0)) (as_unnamed (MaybeFunction) (t.optional (t.index_in space.CoreFunc)) b refl f.1.0 (function_at b f.1.0))) h1.1 e

core_function_type_made : {k : ScopeKind} → HoldsTypes k → {a b : Leaf} → NodesLeaf CoreValuePrintable a → NodesLeaf CoreValuePrintable b → DefPrintable k (row rows.CoreFunctionType (a ▸ b ▸ no_leaf))
core_function_type_made h (some_nodes p) (some_nodes r) = DefPrintable.core_function_type h p r

pub core_function_type_row : {k : ScopeKind} → HoldsTypes k → (ls : Leaves) → (length (fits_leaves ls) ≡ 2) × FitsPieces (t.leaf 0 (t.each t.core_values) ∷ t.leaf 1 (t.each t.core_values) ∷ []) (fits_leaves ls) → line_has (definition_line rows.CoreFunctionType) (leaves_have (unnamed_leaves ls)) ≡ true → DefPrintable k (row rows.CoreFunctionType (unnamed_leaves ls))
core_function_type_row {k} h ls h1 e = two_leaves (λ ls. FitsPieces (t.leaf 0 (t.each t.core_values) ∷ t.leaf 1 (t.each t.core_values) ∷ []) (fits_leaves ls) → line_has (definition_line rows.CoreFunctionType) (leaves_have (unnamed_leaves ls)) ≡ true → DefPrintable k (row rows.CoreFunctionType (unnamed_leaves ls))) ls h1.0 (λ a b f e. core_function_type_made h (as_unnamed (NodesLeaf CoreValuePrintable) (t.each t.core_values) a refl f.0 (groups_at CoreValuePrintable t.core_values core_value_of "param" a f.0 (as_named (t.each t.core_values) (line.each_in "param") a refl f.0 (and_both _ _ e).0))) (as_unnamed (NodesLeaf CoreValuePrintable) (t.each t.core_values) b refl f.1.0 (groups_at CoreValuePrintable t.core_values core_value_of "result" b f.1.0 (as_named (t.each t.core_values) (line.each_in "result") b refl f.1.0 (and_both _ _ (and_both _ _ e).1).0)))) h1.1 e

core_rec_made : {k : ScopeKind} → HoldsTypes k → {a : Leaf} → NodesLeaf CoreFunctionPrintable a → DefPrintable k (row rows.CoreRec (a ▸ no_leaf))
core_rec_made h (some_nodes n) = DefPrintable.core_rec h n

pub core_rec_row : {k : ScopeKind} → HoldsTypes k → (ls : Leaves) → (length (fits_leaves ls) ≡ 1) × FitsPieces (t.leaf 0 (t.each t.core_functions) ∷ []) (fits_leaves ls) → line_has (definition_line rows.CoreRec) (leaves_have (unnamed_leaves ls)) ≡ true → DefPrintable k (row rows.CoreRec (unnamed_leaves ls))
core_rec_row {k} h ls h1 e = one_leaf (λ ls. FitsPieces (t.leaf 0 (t.each t.core_functions) ∷ []) (fits_leaves ls) → line_has (definition_line rows.CoreRec) (leaves_have (unnamed_leaves ls)) ≡ true → DefPrintable k (row rows.CoreRec (unnamed_leaves ls))) ls h1.0 (λ a f e. core_rec_made h (as_unnamed (NodesLeaf CoreFunctionPrintable) (t.each t.core_functions) a refl f.0 (groups_at CoreFunctionPrintable t.core_functions core_function_of "type" a f.0 (as_named (t.each t.core_functions) (line.each_in "type") a refl f.0 (and_both _ _ e).0)))) h1.1 e

alias_export_made : {k : ScopeKind} → HoldsTypes k → {a b d : Leaf} → IndexLeaf space.Instance a → TextLeaf b → KindLeaf d → DefPrintable k (row rows.AliasExport (a ▸ b ▸ d ▸ no_leaf))
alias_export_made h (an_index w) (a_text x) (a_kind s) = DefPrintable.alias_export h w x s

pub alias_export_row : {k : ScopeKind} → HoldsTypes k → (ls : Leaves) → (length (fits_leaves ls) ≡ 3) × FitsPieces (t.leaf 2 (t.sort) ∷ t.leaf 0 (t.index_in space.Instance) ∷ t.leaf 1 (t.string) ∷ []) (fits_leaves ls) → line_has (definition_line rows.AliasExport) (leaves_have (unnamed_leaves ls)) ≡ true → DefPrintable k (row rows.AliasExport (unnamed_leaves ls))
alias_export_row {k} h ls h1 e = three_leaves (λ ls. FitsPieces (t.leaf 2 (t.sort) ∷ t.leaf 0 (t.index_in space.Instance) ∷ t.leaf 1 (t.string) ∷ []) (fits_leaves ls) → line_has (definition_line rows.AliasExport) (leaves_have (unnamed_leaves ls)) ≡ true → DefPrintable k (row rows.AliasExport (unnamed_leaves ls))) ls h1.0 (λ a b d f e. alias_export_made h (as_unnamed (IndexLeaf space.Instance) (t.index_in space.Instance) a refl f.1.0 (index_at space.Instance a f.1.0)) (as_unnamed (TextLeaf) (t.string) b refl f.1.1.0 (text_at b f.1.1.0 (as_named (t.string) (line.string) b refl f.1.1.0 (and_both _ _ (and_both _ _ e).1).0))) (as_unnamed (KindLeaf) (t.sort) d refl f.0 (kind_at d f.0 (as_named (t.sort) (line.kind) d refl f.0 (and_both _ _ (and_both _ _ (and_both _ _ e).1).1).0)))) h1.1 e

alias_core_export_made : {k : ScopeKind} → HoldsTypes k → {a b d : Leaf} → IndexLeaf space.CoreInstance a → TextLeaf b → CoreKindLeaf d → DefPrintable k (row rows.AliasCoreExport (a ▸ b ▸ d ▸ no_leaf))
alias_core_export_made h (an_index w) (a_text x) (a_core_kind s) = DefPrintable.alias_core_export h w x s

pub alias_core_export_row : {k : ScopeKind} → HoldsTypes k → (ls : Leaves) → (length (fits_leaves ls) ≡ 3) × FitsPieces (t.leaf 2 (t.core_sort) ∷ t.leaf 0 (t.index_in space.CoreInstance) ∷ t.leaf 1 (t.string) ∷ []) (fits_leaves ls) → line_has (definition_line rows.AliasCoreExport) (leaves_have (unnamed_leaves ls)) ≡ true → DefPrintable k (row rows.AliasCoreExport (unnamed_leaves ls))
alias_core_export_row {k} h ls h1 e = three_leaves (λ ls. FitsPieces (t.leaf 2 (t.core_sort) ∷ t.leaf 0 (t.index_in space.CoreInstance) ∷ t.leaf 1 (t.string) ∷ []) (fits_leaves ls) → line_has (definition_line rows.AliasCoreExport) (leaves_have (unnamed_leaves ls)) ≡ true → DefPrintable k (row rows.AliasCoreExport (unnamed_leaves ls))) ls h1.0 (λ a b d f e. alias_core_export_made h (as_unnamed (IndexLeaf space.CoreInstance) (t.index_in space.CoreInstance) a refl f.1.0 (index_at space.CoreInstance a f.1.0)) (as_unnamed (TextLeaf) (t.string) b refl f.1.1.0 (text_at b f.1.1.0 (as_named (t.string) (line.string) b refl f.1.1.0 (and_both _ _ (and_both _ _ e).1).0))) (as_unnamed (CoreKindLeaf) (t.core_sort) d refl f.0 (core_kind_at d f.0 (as_named (t.core_sort) (line.core_kind) d refl f.0 (and_both _ _ (and_both _ _ (and_both _ _ e).1).1).0)))) h1.1 e
