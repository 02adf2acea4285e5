-- Rows that stand in others have the leaves of their shapes, where they fit the table of bytes.
use Rattle.std.proofs.Common.{◌≡◌, ℕ, Bool, true, false, Some, None, List, [], ◌∷◌, length, refl, if◌then◌else◌}
use Rattle.comp_model.specs.declared.Space.TheVariants as space
use Rattle.comp_model.specs.declared.row.Row.{Row}
use Rattle.comp_model.specs.declared.row.Row.TheVariants as rows
use Rattle.comp_model.specs.RowNumbers.{same_row}
use Rattle.comp_model.specs.Model.{Leaves, Node, row}
use Rattle.comp_model.proofs.Tests.{same_row-true}
use Rattle.comp_wire.specs.Table as t
use Rattle.comp_wire.specs.Table.{Piece, byte, Line, line, behind}
use Rattle.comp_wire.specs.Spelled.{find, fits_leaves, FitsPieces, FitsLine, FitsNode}
use Rattle.item_read.specs.Leaves.{IsText, IsNumber, IsFlag, IsValue, IsCoreValue, IsItem, IsIndex, IsNoId, IsOptional, IsList}
use Rattle.item_read.specs.Rows.{IsNamedType, IsCase, IsLoneType, IsLoneName, IsCoreValueType, IsCoreFunction, IsCoreArgument, IsStartArgument, IsNamedItem, IsOption, IsDescription, IsEntity}
use Rattle.item_read.proofs.LeafFits.{string_at, name_at, number_at, maximum_at, flag_at, value_at, maybe_at, core_at, index_at, item_at, core_item_at, case_at, list_at, nothing, one, two, three}

-- the row of the only line
lone_at : (c : Bool) (u r : Row) (ls : Leaves) (n : ℕ) (ps : List Piece) → (c ≡ true → u ≡ r) → FitsLine (if c then Some (line r n ps) else None) (fits_leaves ls) → (u ≡ r) × (length (fits_leaves ls) ≡ n) × FitsPieces ps (fits_leaves ls)
lone_at true u r ls n ps e h = (e refl, h.0, h.1)
lone_at false u r ls n ps e h = absurd h

pub lone : (r : Row) (n : ℕ) (ps : List Piece) (u : Row) (ls : Leaves) → FitsLine (find u (line r n ps ∷ [])) (fits_leaves ls) → (u ≡ r) × (length (fits_leaves ls) ≡ n) × FitsPieces ps (fits_leaves ls)
lone r n ps u ls h = lone_at (same_row u r) u r ls n ps (same_row-true u r) h

pub named_type : (n : Node) → FitsNode n t.named_types → IsNamedType n
named_type (row u ls) h = let x = lone rows.NamedType 2 (t.leaf 0 t.string ∷ t.leaf 1 t.value ∷ []) u ls h in (x.0, two IsText IsValue t.string t.value string_at value_at ls x.1 x.2.0 x.2.1.0)

pub lone_type : (n : Node) → FitsNode n t.lone_types → IsLoneType n
lone_type (row u ls) h = let x = lone rows.LoneType 1 (t.leaf 0 t.value ∷ []) u ls h in (x.0, one IsValue t.value value_at ls x.1 x.2.0)

pub lone_name : (n : Node) → FitsNode n t.lone_names → IsLoneName n
lone_name (row u ls) h = let x = lone rows.LoneName 1 (t.leaf 0 t.string ∷ []) u ls h in (x.0, one IsText t.string string_at ls x.1 x.2.0)

pub core_value_type : (n : Node) → FitsNode n t.core_values → IsCoreValueType n
core_value_type (row u ls) h = let x = lone rows.CoreValueType 1 (t.leaf 0 t.core_type ∷ []) u ls h in (x.0, one IsCoreValue t.core_type core_at ls x.1 x.2.0)

pub core_function : (n : Node) → FitsNode n t.core_functions → IsCoreFunction n
core_function (row u ls) h = let x = lone rows.CoreFunctionType 2 (byte 0x60 ∷ t.leaf 0 (t.each t.core_values) ∷ t.leaf 1 (t.each t.core_values) ∷ []) u ls h in (x.0, two (IsList IsCoreValueType) (IsList IsCoreValueType) (t.each t.core_values) (t.each t.core_values) (list_at IsCoreValueType t.core_values core_value_type) (list_at IsCoreValueType t.core_values core_value_type) ls x.1 x.2.0 x.2.1.0)

pub start_argument : (n : Node) → FitsNode n t.start_arguments → IsStartArgument n
start_argument (row u ls) h = let x = lone rows.StartArgument 1 (t.leaf 0 (t.index_in space.Value) ∷ []) u ls h in (x.0, one (IsIndex space.Value) (t.index_in space.Value) (index_at space.Value) ls x.1 x.2.0)

pub core_export : (n : Node) → FitsNode n t.core_bundle_exports → (IsNamedItem rows.CoreBundleExport) n
core_export (row u ls) h = let x = lone rows.CoreBundleExport 2 (t.leaf 0 t.string ∷ t.leaf 1 t.core_sorted_index ∷ []) u ls h in (x.0, two IsText IsItem t.string t.core_sorted_index string_at core_item_at ls x.1 x.2.0 x.2.1.0)

pub argument : (n : Node) → FitsNode n t.arguments → (IsNamedItem rows.Argument) n
argument (row u ls) h = let x = lone rows.Argument 2 (t.leaf 0 t.string ∷ t.leaf 1 t.sorted_index ∷ []) u ls h in (x.0, two IsText IsItem t.string t.sorted_index string_at item_at ls x.1 x.2.0 x.2.1.0)

pub bundle_export : (n : Node) → FitsNode n t.bundle_exports → (IsNamedItem rows.BundleExport) n
bundle_export (row u ls) h = let x = lone rows.BundleExport 2 (t.leaf 0 t.extern_name ∷ t.leaf 1 t.sorted_index ∷ []) u ls h in (x.0, two IsText IsItem t.extern_name t.sorted_index name_at item_at ls x.1 x.2.0 x.2.1.0)

pub core_argument : (n : Node) → FitsNode n t.core_arguments → IsCoreArgument n
core_argument (row u ls) h = let x = lone rows.CoreArgument 2 (t.leaf 0 t.string ∷ byte 0x12 ∷ t.leaf 1 (t.index_in space.CoreInstance) ∷ []) u ls h in (x.0, two IsText (IsIndex space.CoreInstance) t.string (t.index_in space.CoreInstance) string_at (index_at space.CoreInstance) ls x.1 x.2.0 x.2.1.0)

pub case_of : (n : Node) → FitsNode n t.cases → IsCase n
case_of (row u ls) h = let x = lone rows.CaseType 3 (t.leaf 0 t.unspelled ∷ t.leaf 1 t.string ∷ t.leaf 2 (t.optional t.value) ∷ byte 0x00 ∷ []) u ls h in (x.0, three IsNoId IsText (IsOptional IsValue) t.unspelled t.string (t.optional t.value) case_at string_at maybe_at ls x.1 x.2.0 x.2.1.0 x.2.1.1.0)

pub option : (n : Node) → FitsNode n t.options → IsOption n
option (row rows.OptionUtf8 ls) h = nothing ls h.0
option (row rows.OptionUtf16 ls) h = nothing ls h.0
option (row rows.OptionLatin1Utf16 ls) h = nothing ls h.0
option (row rows.OptionMemory ls) h = one (IsIndex space.CoreMemory) (t.index_in space.CoreMemory) (index_at space.CoreMemory) ls h.0 h.1.0
option (row rows.OptionRealloc ls) h = one (IsIndex space.CoreFunc) (t.index_in space.CoreFunc) (index_at space.CoreFunc) ls h.0 h.1.0
option (row rows.OptionPostReturn ls) h = one (IsIndex space.CoreFunc) (t.index_in space.CoreFunc) (index_at space.CoreFunc) ls h.0 h.1.0
option (row rows.OptionAsync ls) h = nothing ls h.0
option (row rows.OptionCallback ls) h = one (IsIndex space.CoreFunc) (t.index_in space.CoreFunc) (index_at space.CoreFunc) ls h.0 h.1.0
option _ h = absurd h

pub description : (n : Node) → FitsNode n t.descriptions → IsDescription n
description (row rows.ModuleDescription ls) h = one (IsIndex space.CoreType) (t.index_in space.CoreType) (index_at space.CoreType) ls h.0 h.1.0
description (row rows.FuncDescription ls) h = one (IsIndex space.Ty) (t.index_in space.Ty) (index_at space.Ty) ls h.0 h.1.0
description (row rows.TypeEq ls) h = one (IsIndex space.Ty) (t.index_in space.Ty) (index_at space.Ty) ls h.0 h.1.0
description (row rows.SubResource ls) h = nothing ls h.0
description (row rows.ComponentDescription ls) h = one (IsIndex space.Ty) (t.index_in space.Ty) (index_at space.Ty) ls h.0 h.1.0
description (row rows.InstanceDescription ls) h = one (IsIndex space.Ty) (t.index_in space.Ty) (index_at space.Ty) ls h.0 h.1.0
description _ h = absurd h

pub entity : (n : Node) → FitsNode n t.entities → IsEntity n
entity (row rows.FuncEntity ls) h = one (IsIndex space.CoreType) (t.index_in space.CoreType) (index_at space.CoreType) ls h.0 h.1.0
entity (row rows.TableEntity ls) h = three IsCoreValue IsNumber (IsOptional IsNumber) t.core_type t.unsigned t.maximum core_at number_at maximum_at ls h.0 h.1.0 h.1.1.0 h.1.1.1
entity (row rows.MemoryEntity ls) h = two IsNumber (IsOptional IsNumber) t.unsigned t.maximum number_at maximum_at ls h.0 h.1.0 h.1.1
entity (row rows.GlobalEntity ls) h = two IsCoreValue IsFlag t.core_type t.flag core_at flag_at ls h.0 h.1.0 h.1.1.0
entity _ h = absurd h
