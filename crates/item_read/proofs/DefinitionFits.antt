-- Definitions have the leaves of their shapes, where they fit the table of bytes.
use Rattle.std.proofs.Common.{ℕ, Bool, true, false, Option, Some, List, [], ◌∷◌, ◌++◌, ◌⊎◌, ⊎_elim, sym, subst, inl, inr, if◌then◌else◌}
use Rattle.comp_model.specs.declared.Space.TheVariants as space
use Rattle.comp_model.specs.declared.row.Row.{Row}
use Rattle.comp_model.specs.declared.row.Row.TheVariants as rows
use Rattle.comp_model.specs.declared.row.ScopeKind.TheVariants as kinds
use Rattle.comp_model.specs.RowNumbers.{same_row}
use Rattle.comp_model.specs.Model.{Leaves, Node, row, Defs, no_def, one_def, define, Scope, scope_of}
use Rattle.comp_wire.specs.Table as t
use Rattle.comp_wire.specs.Table.{Family, Field, byte, Line, line, behind, core_type_lines, type_lines, alias_lines}
use Rattle.comp_wire.specs.Spelled.{find, fits_leaves, FitsLine, FitsNode, FitsItem, FitsDeclarations, FitsDefinitions, FitsSections}
use Rattle.comp_wire.specs.declared.sections.SectionKind.{SectionKind}
use Rattle.comp_wire.specs.declared.sections.SectionKind.TheVariants as section_kinds
use Rattle.comp_wire.specs.Sections.{section_of, rows_of}
use Rattle.item_read.specs.Leaves.{IsText, IsModule, IsNumber, IsFlag, IsPrimitiveByte, IsValue, IsCoreValue, IsItem, IsIndex, IsKind, IsResults, IsOptional, IsRow, IsList}
use Rattle.item_read.specs.Rows.{IsNamedType, IsCase, IsLoneType, IsLoneName, IsCoreValueType, IsCoreFunction, IsCoreArgument, IsStartArgument, IsNamedItem, IsOption, IsDescription, IsEntity}
use Rattle.item_read.specs.Scopes.{IsDefinition, AreDefinitions, DefsFit, ScopeFits, defs_in}
use Rattle.item_read.proofs.LeafFits.{string_at, name_at, rest_at, module_at, number_at, flag_at, async_at, primitive_at, value_at, maybe_at, result_at, core_at, index_at, function_at, item_at, sort_at, core_sort_at, results_at, list_at, row_at, maybe_row_at, component_at, type_at, nothing, one, two, three, one_scope, outer}
use Rattle.item_read.proofs.EntryFits.{lone, named_type, case_of, lone_type, lone_name, core_value_type, core_function, core_argument, start_argument, core_export, argument, bundle_export, option, description, entity}

custom : (u : Row) (ls : Leaves) → FitsNode (row u ls) t.customs → IsDefinition (row u ls)
custom u ls h = let x = lone rows.Custom 2 (t.leaf 0 t.string ∷ t.leaf 1 t.rest ∷ []) u ls h in subst (λ v. IsDefinition (row v ls)) (sym x.0) (two IsText IsText t.string t.rest string_at rest_at ls x.1 x.2.0 x.2.1.0)

core_module : (u : Row) (ls : Leaves) → FitsNode (row u ls) t.core_modules → IsDefinition (row u ls)
core_module u ls h = let x = lone rows.CoreModule 1 (t.leaf 0 t.whole_module ∷ []) u ls h in subst (λ v. IsDefinition (row v ls)) (sym x.0) (one IsModule t.whole_module module_at ls x.1 x.2.0)

core_instance : (u : Row) (ls : Leaves) → FitsNode (row u ls) t.core_instances → IsDefinition (row u ls)
core_instance rows.CoreInstantiate ls h = two (IsIndex space.CoreModule) (IsList IsCoreArgument) (t.index_in space.CoreModule) (t.each t.core_arguments) (index_at space.CoreModule) (list_at IsCoreArgument t.core_arguments core_argument) ls h.0 h.1.0 h.1.1.0
core_instance rows.CoreBundle ls h = one (IsList (IsNamedItem rows.CoreBundleExport)) (t.each t.core_bundle_exports) (list_at (IsNamedItem rows.CoreBundleExport) t.core_bundle_exports core_export) ls h.0 h.1.0
core_instance _ ls h = absurd h

core_type : (u : Row) (ls : Leaves) → FitsNode (row u ls) t.core_types → IsDefinition (row u ls)
core_type rows.CoreFunctionType ls h = two (IsList IsCoreValueType) (IsList IsCoreValueType) (t.each t.core_values) (t.each t.core_values) (list_at IsCoreValueType t.core_values core_value_type) (list_at IsCoreValueType t.core_values core_value_type) ls h.0 h.1.0 h.1.1.0
core_type rows.CoreRec ls h = one (IsList IsCoreFunction) (t.each t.core_functions) (list_at IsCoreFunction t.core_functions core_function) ls h.0 h.1.0
core_type rows.ModuleType ls h = one_scope kinds.ModuleType (t.type_scope kinds.ModuleType) (type_at kinds.ModuleType (λ ds h. h)) ls h.0 h.1.0
core_type _ ls h = absurd h

component : (u : Row) (ls : Leaves) → FitsNode (row u ls) t.components → IsDefinition (row u ls)
component u ls h = let x = lone rows.Component 1 (t.leaf 0 t.whole_component ∷ []) u ls h in subst (λ v. IsDefinition (row v ls)) (sym x.0) (one_scope kinds.Component t.whole_component component_at ls x.1 x.2.0)

instance : (u : Row) (ls : Leaves) → FitsNode (row u ls) t.instances → IsDefinition (row u ls)
instance rows.Instantiate ls h = two (IsIndex space.Component) (IsList (IsNamedItem rows.Argument)) (t.index_in space.Component) (t.each t.arguments) (index_at space.Component) (list_at (IsNamedItem rows.Argument) t.arguments argument) ls h.0 h.1.0 h.1.1.0
instance rows.Bundle ls h = one (IsList (IsNamedItem rows.BundleExport)) (t.each t.bundle_exports) (list_at (IsNamedItem rows.BundleExport) t.bundle_exports bundle_export) ls h.0 h.1.0
instance _ ls h = absurd h

alias : (u : Row) (ls : Leaves) → FitsNode (row u ls) t.aliases → IsDefinition (row u ls)
alias rows.AliasExport ls h = three (IsIndex space.Instance) IsText IsKind (t.index_in space.Instance) t.string t.sort (index_at space.Instance) string_at sort_at ls h.0 h.1.1.0 h.1.1.1.0 h.1.0
alias rows.AliasCoreExport ls h = three (IsIndex space.CoreInstance) IsText IsKind (t.index_in space.CoreInstance) t.string t.core_sort (index_at space.CoreInstance) string_at core_sort_at ls h.0 h.1.1.0 h.1.1.1.0 h.1.0
alias rows.AliasOuter ls h = outer ls h.0 h.1.0.0 h.1.0.1 h.1.0.2 h.1.0.3
alias _ ls h = absurd h

type_of : (u : Row) (ls : Leaves) → FitsNode (row u ls) t.types → IsDefinition (row u ls)
type_of rows.Primitive ls h = one IsPrimitiveByte t.primitive_byte primitive_at ls h.0 h.1.0
type_of rows.RecordType ls h = one (IsList IsNamedType) (t.each t.named_types) (list_at IsNamedType t.named_types named_type) ls h.0 h.1.0
type_of rows.VariantType ls h = one (IsList IsCase) (t.each t.cases) (list_at IsCase t.cases case_of) ls h.0 h.1.0
type_of rows.ListType ls h = one IsValue t.value value_at ls h.0 h.1.0
type_of rows.FixedLengthListType ls h = two IsValue IsNumber t.value t.unsigned value_at number_at ls h.0 h.1.0 h.1.1.0
type_of rows.TupleType ls h = one (IsList IsLoneType) (t.each t.lone_types) (list_at IsLoneType t.lone_types lone_type) ls h.0 h.1.0
type_of rows.FlagsType ls h = one (IsList IsLoneName) (t.each t.lone_names) (list_at IsLoneName t.lone_names lone_name) ls h.0 h.1.0
type_of rows.EnumType ls h = one (IsList IsLoneName) (t.each t.lone_names) (list_at IsLoneName t.lone_names lone_name) ls h.0 h.1.0
type_of rows.OptionType ls h = one IsValue t.value value_at ls h.0 h.1.0
type_of rows.ResultType ls h = two (IsOptional IsValue) (IsOptional IsValue) (t.optional t.value) (t.optional t.value) maybe_at maybe_at ls h.0 h.1.0 h.1.1.0
type_of rows.OwnType ls h = one (IsIndex space.Ty) (t.index_in space.Ty) (index_at space.Ty) ls h.0 h.1.0
type_of rows.BorrowType ls h = one (IsIndex space.Ty) (t.index_in space.Ty) (index_at space.Ty) ls h.0 h.1.0
type_of rows.StreamType ls h = one (IsOptional IsValue) (t.optional t.value) maybe_at ls h.0 h.1.0
type_of rows.FutureType ls h = one (IsOptional IsValue) (t.optional t.value) maybe_at ls h.0 h.1.0
type_of rows.FunctionType ls h = three IsFlag (IsList IsNamedType) (IsOptional IsValue) t.async_byte (t.each t.named_types) (t.result t.value) async_at (list_at IsNamedType t.named_types named_type) result_at ls h.0 h.1.0 h.1.1.0 h.1.1.1.0
type_of rows.ComponentType ls h = one_scope kinds.ComponentType (t.type_scope kinds.ComponentType) (type_at kinds.ComponentType (λ ds h. h)) ls h.0 h.1.0
type_of rows.InstanceType ls h = one_scope kinds.InstanceType (t.type_scope kinds.InstanceType) (type_at kinds.InstanceType (λ ds h. h)) ls h.0 h.1.0
type_of rows.ResourceType ls h = two IsCoreValue (IsOptional (IsIndex space.CoreFunc)) t.core_type (t.optional (t.index_in space.CoreFunc)) core_at function_at ls h.0 h.1.0 h.1.1.0
type_of _ ls h = absurd h

canon : (u : Row) (ls : Leaves) → FitsNode (row u ls) t.canons → IsDefinition (row u ls)
canon rows.Lift ls h = three (IsIndex space.Ty) (IsIndex space.CoreFunc) (IsList IsOption) (t.index_in space.Ty) (t.index_in space.CoreFunc) (t.each t.options) (index_at space.Ty) (index_at space.CoreFunc) (list_at IsOption t.options option) ls h.0 h.1.1.1.0 h.1.0 h.1.1.0
canon rows.Lower ls h = two (IsIndex space.Func) (IsList IsOption) (t.index_in space.Func) (t.each t.options) (index_at space.Func) (list_at IsOption t.options option) ls h.0 h.1.0 h.1.1.0
canon rows.ResourceNew ls h = (tt, one (IsIndex space.Ty) (t.index_in space.Ty) (index_at space.Ty) ls h.0 h.1.0)
canon rows.ResourceDrop ls h = (tt, one (IsIndex space.Ty) (t.index_in space.Ty) (index_at space.Ty) ls h.0 h.1.0)
canon rows.ResourceRep ls h = (tt, one (IsIndex space.Ty) (t.index_in space.Ty) (index_at space.Ty) ls h.0 h.1.0)
canon rows.TaskCancel ls h = (tt, nothing ls h.0)
canon rows.SubtaskCancel ls h = one IsFlag t.flag flag_at ls h.0 h.1.0
canon rows.TaskReturn ls h = two (IsOptional IsValue) (IsList IsOption) (t.result t.value) (t.each t.options) result_at (list_at IsOption t.options option) ls h.0 h.1.0 h.1.1.0
canon rows.ContextGet ls h = two IsCoreValue IsNumber t.core_type t.unsigned core_at number_at ls h.0 h.1.0 h.1.1.0
canon rows.ContextSet ls h = two IsCoreValue IsNumber t.core_type t.unsigned core_at number_at ls h.0 h.1.0 h.1.1.0
canon rows.SubtaskDrop ls h = (tt, nothing ls h.0)
canon rows.StreamNew ls h = (tt, one (IsIndex space.Ty) (t.index_in space.Ty) (index_at space.Ty) ls h.0 h.1.0)
canon rows.StreamRead ls h = two (IsIndex space.Ty) (IsList IsOption) (t.index_in space.Ty) (t.each t.options) (index_at space.Ty) (list_at IsOption t.options option) ls h.0 h.1.0 h.1.1.0
canon rows.StreamWrite ls h = two (IsIndex space.Ty) (IsList IsOption) (t.index_in space.Ty) (t.each t.options) (index_at space.Ty) (list_at IsOption t.options option) ls h.0 h.1.0 h.1.1.0
canon rows.StreamCancelRead ls h = two (IsIndex space.Ty) IsFlag (t.index_in space.Ty) t.flag (index_at space.Ty) flag_at ls h.0 h.1.0 h.1.1.0
canon rows.StreamCancelWrite ls h = two (IsIndex space.Ty) IsFlag (t.index_in space.Ty) t.flag (index_at space.Ty) flag_at ls h.0 h.1.0 h.1.1.0
canon rows.StreamDropReadable ls h = (tt, one (IsIndex space.Ty) (t.index_in space.Ty) (index_at space.Ty) ls h.0 h.1.0)
canon rows.StreamDropWritable ls h = (tt, one (IsIndex space.Ty) (t.index_in space.Ty) (index_at space.Ty) ls h.0 h.1.0)
canon rows.FutureNew ls h = (tt, one (IsIndex space.Ty) (t.index_in space.Ty) (index_at space.Ty) ls h.0 h.1.0)
canon rows.FutureRead ls h = two (IsIndex space.Ty) (IsList IsOption) (t.index_in space.Ty) (t.each t.options) (index_at space.Ty) (list_at IsOption t.options option) ls h.0 h.1.0 h.1.1.0
canon rows.FutureWrite ls h = two (IsIndex space.Ty) (IsList IsOption) (t.index_in space.Ty) (t.each t.options) (index_at space.Ty) (list_at IsOption t.options option) ls h.0 h.1.0 h.1.1.0
canon rows.FutureCancelRead ls h = two (IsIndex space.Ty) IsFlag (t.index_in space.Ty) t.flag (index_at space.Ty) flag_at ls h.0 h.1.0 h.1.1.0
canon rows.FutureCancelWrite ls h = two (IsIndex space.Ty) IsFlag (t.index_in space.Ty) t.flag (index_at space.Ty) flag_at ls h.0 h.1.0 h.1.1.0
canon rows.FutureDropReadable ls h = (tt, one (IsIndex space.Ty) (t.index_in space.Ty) (index_at space.Ty) ls h.0 h.1.0)
canon rows.FutureDropWritable ls h = (tt, one (IsIndex space.Ty) (t.index_in space.Ty) (index_at space.Ty) ls h.0 h.1.0)
canon rows.ErrorContextNew ls h = one (IsList IsOption) (t.each t.options) (list_at IsOption t.options option) ls h.0 h.1.0
canon rows.ErrorContextDebugMessage ls h = one (IsList IsOption) (t.each t.options) (list_at IsOption t.options option) ls h.0 h.1.0
canon rows.ErrorContextDrop ls h = (tt, nothing ls h.0)
canon rows.WaitableSetNew ls h = (tt, nothing ls h.0)
canon rows.WaitableSetDrop ls h = (tt, nothing ls h.0)
canon rows.WaitableJoin ls h = (tt, nothing ls h.0)
canon rows.BackpressureInc ls h = (tt, nothing ls h.0)
canon rows.BackpressureDec ls h = (tt, nothing ls h.0)
canon rows.ThreadSpawnRef ls h = one (IsIndex space.CoreType) (t.index_in space.CoreType) (index_at space.CoreType) ls h.0 h.1.0
canon rows.ThreadSpawnIndirect ls h = two (IsIndex space.CoreType) (IsIndex space.CoreTable) (t.index_in space.CoreType) (t.index_in space.CoreTable) (index_at space.CoreType) (index_at space.CoreTable) ls h.0 h.1.0 h.1.1.0
canon rows.ThreadAvailableParallelism ls h = (tt, nothing ls h.0)
canon _ ls h = absurd h

start : (u : Row) (ls : Leaves) → FitsNode (row u ls) t.starts → IsDefinition (row u ls)
start u ls h = let x = lone rows.Start 3 (t.leaf 0 (t.index_in space.Func) ∷ t.leaf 1 (t.each t.start_arguments) ∷ t.leaf 2 t.results ∷ []) u ls h in subst (λ v. IsDefinition (row v ls)) (sym x.0) (three (IsIndex space.Func) (IsList IsStartArgument) IsResults (t.index_in space.Func) (t.each t.start_arguments) t.results (index_at space.Func) (list_at IsStartArgument t.start_arguments start_argument) results_at ls x.1 x.2.0 x.2.1.0 x.2.1.1.0)

import_of : (u : Row) (ls : Leaves) → FitsNode (row u ls) t.imports → IsDefinition (row u ls)
import_of u ls h = let x = lone rows.Import 2 (t.leaf 0 t.extern_name ∷ t.leaf 1 (t.one t.descriptions) ∷ []) u ls h in subst (λ v. IsDefinition (row v ls)) (sym x.0) (two IsText (IsRow IsDescription) t.extern_name (t.one t.descriptions) name_at (row_at IsDescription t.descriptions description) ls x.1 x.2.0 x.2.1.0)

export : (u : Row) (ls : Leaves) → FitsNode (row u ls) t.exports → IsDefinition (row u ls)
export u ls h = let x = lone rows.Export 3 (t.leaf 0 t.extern_name ∷ t.leaf 2 t.sorted_index ∷ t.leaf 1 (t.optional (t.one t.descriptions)) ∷ []) u ls h in subst (λ v. IsDefinition (row v ls)) (sym x.0) (three IsText (IsOptional (IsRow IsDescription)) IsItem t.extern_name (t.optional (t.one t.descriptions)) t.sorted_index name_at (maybe_row_at IsDescription t.descriptions description) item_at ls x.1 x.2.0 x.2.1.1.0 x.2.1.0)

-- ---- the definitions of a component

of_section : (s : SectionKind) (u : Row) (ls : Leaves) → FitsNode (row u ls) (rows_of s) → IsDefinition (row u ls)
of_section section_kinds.Custom = custom
of_section section_kinds.CoreModule = core_module
of_section section_kinds.CoreInstance = core_instance
of_section section_kinds.CoreType = core_type
of_section section_kinds.Component = component
of_section section_kinds.Instance = instance
of_section section_kinds.Alias = alias
of_section section_kinds.Type = type_of
of_section section_kinds.Canon = canon
of_section section_kinds.Start = start
of_section section_kinds.Import = import_of
of_section section_kinds.Export = export

definition : (n : Node) → FitsItem n → IsDefinition n
definition (row u ls) h = of_section (section_of u) u ls h

definitions : (ds : Defs) → FitsDefinitions ds → AreDefinitions ds
definitions no_def h = tt
definitions (one_def (define names n) ds) h = (definition n h.0.1, definitions ds h.1)

-- ---- the declarations of a type: lines of these families with a byte in front

bare_at : (c : Bool) (b : ℕ) (l : Line) (x y : Option Line) (gs : List (Field → Type 0)) → (FitsLine x gs → FitsLine y gs) → FitsLine (if c then Some (line l.tag l.leaves (byte b ∷ l.pieces)) else x) gs → FitsLine (if c then Some l else y) gs
bare_at true b l x y gs f h = h
bare_at false b l x y gs f h = f h

bare : (b : ℕ) (ms : List Line) (u : Row) (gs : List (Field → Type 0)) → FitsLine (find u (behind b ms)) gs → FitsLine (find u ms) gs
bare b [] u gs h = h
bare b (l ∷ ms) u gs h = bare_at (same_row u l.tag) b l (find u (behind b ms)) (find u ms) gs (bare b ms u gs) h

either_at : (c : Bool) (l : Line) (x y z : Option Line) (gs : List (Field → Type 0)) → (FitsLine x gs → FitsLine y gs ⊎ FitsLine z gs) → FitsLine (if c then Some l else x) gs → FitsLine (if c then Some l else y) gs ⊎ FitsLine z gs
either_at true l x y z gs f h = inl h
either_at false l x y z gs f h = f h

either : (ks ms : List Line) (u : Row) (gs : List (Field → Type 0)) → FitsLine (find u (ks ++ ms)) gs → FitsLine (find u ks) gs ⊎ FitsLine (find u ms) gs
either [] ms u gs h = inr h
either (l ∷ ks) ms u gs h = either_at (same_row u l.tag) l (find u (ks ++ ms)) (find u ks) (find u ms) gs (either ks ms u gs) h

export_type : (u : Row) (ls : Leaves) → FitsLine (find u (line rows.ExportType 2 (byte 0x04 ∷ t.leaf 0 t.extern_name ∷ t.leaf 1 (t.one t.descriptions) ∷ []) ∷ [])) (fits_leaves ls) → IsDefinition (row u ls)
export_type u ls h = let x = lone rows.ExportType 2 (byte 0x04 ∷ t.leaf 0 t.extern_name ∷ t.leaf 1 (t.one t.descriptions) ∷ []) u ls h in subst (λ v. IsDefinition (row v ls)) (sym x.0) (two IsText (IsRow IsDescription) t.extern_name (t.one t.descriptions) name_at (row_at IsDescription t.descriptions description) ls x.1 x.2.0 x.2.1.0)

in_instance_type : (n : Node) → FitsNode n t.instance_declarations → IsDefinition n
in_instance_type (row u ls) h =
    let gs : List (Field → Type 0) = fits_leaves ls in
    ⊎_elim (λ p. core_type u ls (bare 0x00 core_type_lines u gs p))
    (λ q. ⊎_elim (λ p. type_of u ls (bare 0x01 type_lines u gs p))
    (λ r. ⊎_elim (λ p. alias u ls (bare 0x02 alias_lines u gs p)) (export_type u ls) (either (behind 0x02 alias_lines) (line rows.ExportType 2 (byte 0x04 ∷ t.leaf 0 t.extern_name ∷ t.leaf 1 (t.one t.descriptions) ∷ []) ∷ []) u gs r))
    (either (behind 0x01 type_lines) (behind 0x02 alias_lines ++ line rows.ExportType 2 (byte 0x04 ∷ t.leaf 0 t.extern_name ∷ t.leaf 1 (t.one t.descriptions) ∷ []) ∷ []) u gs q))
    (either (behind 0x00 core_type_lines) (behind 0x01 type_lines ++ behind 0x02 alias_lines ++ line rows.ExportType 2 (byte 0x04 ∷ t.leaf 0 t.extern_name ∷ t.leaf 1 (t.one t.descriptions) ∷ []) ∷ []) u gs h)

import_type : (u : Row) (ls : Leaves) → FitsLine (find u (line rows.Import 2 (byte 0x03 ∷ t.leaf 0 t.extern_name ∷ t.leaf 1 (t.one t.descriptions) ∷ []) ∷ [])) (fits_leaves ls) → IsDefinition (row u ls)
import_type u ls h = import_of u ls (bare 0x03 (line rows.Import 2 (t.leaf 0 t.extern_name ∷ t.leaf 1 (t.one t.descriptions) ∷ []) ∷ []) u (fits_leaves ls) h)

in_component_type : (n : Node) → FitsNode n t.component_declarations → IsDefinition n
in_component_type (row u ls) h = ⊎_elim (import_type u ls) (in_instance_type (row u ls)) (either (line rows.Import 2 (byte 0x03 ∷ t.leaf 0 t.extern_name ∷ t.leaf 1 (t.one t.descriptions) ∷ []) ∷ []) t.instance_declaration_lines u (fits_leaves ls) h)

module_import : (u : Row) (ls : Leaves) → FitsLine (find u (line rows.ModuleImport 3 (byte 0x00 ∷ t.leaf 0 t.string ∷ t.leaf 1 t.string ∷ t.leaf 2 (t.one t.entities) ∷ []) ∷ [])) (fits_leaves ls) → IsDefinition (row u ls)
module_import u ls h = let x = lone rows.ModuleImport 3 (byte 0x00 ∷ t.leaf 0 t.string ∷ t.leaf 1 t.string ∷ t.leaf 2 (t.one t.entities) ∷ []) u ls h in subst (λ v. IsDefinition (row v ls)) (sym x.0) (three IsText IsText (IsRow IsEntity) t.string t.string (t.one t.entities) string_at string_at (row_at IsEntity t.entities entity) ls x.1 x.2.0 x.2.1.0 x.2.1.1.0)

module_export : (u : Row) (ls : Leaves) → FitsLine (find u (line rows.ModuleExport 2 (byte 0x03 ∷ t.leaf 0 t.string ∷ t.leaf 1 (t.one t.entities) ∷ []) ∷ [])) (fits_leaves ls) → IsDefinition (row u ls)
module_export u ls h = let x = lone rows.ModuleExport 2 (byte 0x03 ∷ t.leaf 0 t.string ∷ t.leaf 1 (t.one t.entities) ∷ []) u ls h in subst (λ v. IsDefinition (row v ls)) (sym x.0) (two IsText (IsRow IsEntity) t.string (t.one t.entities) string_at (row_at IsEntity t.entities entity) ls x.1 x.2.0 x.2.1.0)

outer_alias : (u : Row) (ls : Leaves) → FitsLine (find u (line rows.AliasOuter 3 (byte 0x02 ∷ byte 0x10 ∷ byte 0x01 ∷ t.leaf 0 t.outward ∷ t.leaf 1 (t.index_in space.CoreType) ∷ t.leaf 2 (t.kind_is space.CoreType) ∷ []) ∷ [])) (fits_leaves ls) → IsDefinition (row u ls)
outer_alias u ls h = let x = lone rows.AliasOuter 3 (byte 0x02 ∷ byte 0x10 ∷ byte 0x01 ∷ t.leaf 0 t.outward ∷ t.leaf 1 (t.index_in space.CoreType) ∷ t.leaf 2 (t.kind_is space.CoreType) ∷ []) u ls h in subst (λ v. IsDefinition (row v ls)) (sym x.0) (outer ls x.1 space.CoreType x.2.0 x.2.1.0 x.2.1.1.0)

in_module_type : (n : Node) → FitsNode n t.module_declarations → IsDefinition n
in_module_type (row u ls) h =
    let gs : List (Field → Type 0) = fits_leaves ls in
    ⊎_elim (module_import u ls)
    (λ q. ⊎_elim (λ p. core_type u ls (bare 0x01 core_type_lines u gs p))
    (λ r. ⊎_elim (outer_alias u ls) (module_export u ls) (either (line rows.AliasOuter 3 (byte 0x02 ∷ byte 0x10 ∷ byte 0x01 ∷ t.leaf 0 t.outward ∷ t.leaf 1 (t.index_in space.CoreType) ∷ t.leaf 2 (t.kind_is space.CoreType) ∷ []) ∷ []) (line rows.ModuleExport 2 (byte 0x03 ∷ t.leaf 0 t.string ∷ t.leaf 1 (t.one t.entities) ∷ []) ∷ []) u gs r))
    (either (behind 0x01 core_type_lines) (line rows.AliasOuter 3 (byte 0x02 ∷ byte 0x10 ∷ byte 0x01 ∷ t.leaf 0 t.outward ∷ t.leaf 1 (t.index_in space.CoreType) ∷ t.leaf 2 (t.kind_is space.CoreType) ∷ []) ∷ line rows.ModuleExport 2 (byte 0x03 ∷ t.leaf 0 t.string ∷ t.leaf 1 (t.one t.entities) ∷ []) ∷ []) u gs q))
    (either (line rows.ModuleImport 3 (byte 0x00 ∷ t.leaf 0 t.string ∷ t.leaf 1 t.string ∷ t.leaf 2 (t.one t.entities) ∷ []) ∷ []) (behind 0x01 core_type_lines ++ line rows.AliasOuter 3 (byte 0x02 ∷ byte 0x10 ∷ byte 0x01 ∷ t.leaf 0 t.outward ∷ t.leaf 1 (t.index_in space.CoreType) ∷ t.leaf 2 (t.kind_is space.CoreType) ∷ []) ∷ line rows.ModuleExport 2 (byte 0x03 ∷ t.leaf 0 t.string ∷ t.leaf 1 (t.one t.entities) ∷ []) ∷ []) u gs h)

module _ (f : Family) (made : (n : Node) → FitsNode n f → IsDefinition n) where
  declarations : (ds : Defs) → FitsDeclarations ds f → AreDefinitions ds
  declarations no_def h = tt
  declarations (one_def (define names n) ds) h = (made n h.0.1, declarations ds h.1)

-- ---- the definitions of a scope

pub all_definitions : (s : Scope) → ScopeFits s → AreDefinitions (defs_in s)
all_definitions (scope_of kinds.Component id label ds) h = definitions ds h
all_definitions (scope_of kinds.ComponentType id label ds) h = declarations t.component_declarations in_component_type ds h
all_definitions (scope_of kinds.InstanceType id label ds) h = declarations t.instance_declarations in_instance_type ds h
all_definitions (scope_of kinds.ModuleType id label ds) h = declarations t.module_declarations in_module_type ds h

pub component_fits : (s : Scope) → FitsSections s → ScopeFits s
component_fits (scope_of k id label ds) h = subst (λ j. DefsFit j ds) (sym h.0) h.3
