-- The writers' values as leaves and rows of the model: value types, kinds, descriptions, aliases, options, entities, and lists of them.
use Rattle.std.specs.Prelude.{ℕ, Bool, true, false, List, [], ◌∷◌, Option, Some, None}
use Rattle.std.specs.Borrow.{Bor}
use Rattle.comp_model.specs.declared.Space.{Space}
use Rattle.comp_model.specs.declared.Space.TheVariants as space
use Rattle.comp_model.specs.declared.row.Row.TheVariants as rows
use Rattle.comp_model.specs.Core as c
use Rattle.comp_model.specs.Core.{Text, CoreValue}
use Rattle.comp_model.specs.Model as m
use Rattle.comp_model.specs.Makers as make
use Rattle.comp_model.specs.Model.{Leaf, Node, Nodes, no_node, one_node}
use Rattle.comp_wire.specs.declared.values.PrimitiveValType.{PrimitiveValType}
use Rattle.comp_wire.specs.declared.values.PrimitiveValType.TheVariants as prim
use Rattle.comp_wire.specs.declared.values.ComponentValType.{ComponentValType}
use Rattle.comp_wire.specs.declared.values.ComponentValType.TheVariants as val
use Rattle.comp_wire.specs.declared.values.WireHeap.{WireHeap}
use Rattle.comp_wire.specs.declared.values.WireHeap.TheVariants as heap
use Rattle.comp_wire.specs.declared.values.WireVal.{WireVal}
use Rattle.comp_wire.specs.declared.values.WireVal.TheVariants as core
use Rattle.comp_wire.specs.declared.values.WireFunc.{WireFunc}
use Rattle.comp_wire.specs.declared.kinds.ExportKind.{ExportKind}
use Rattle.comp_wire.specs.declared.kinds.ExportKind.TheVariants as core_kind
use Rattle.comp_wire.specs.declared.kinds.ComponentExportKind.{ComponentExportKind}
use Rattle.comp_wire.specs.declared.kinds.ComponentExportKind.TheVariants as export_kind
use Rattle.comp_wire.specs.declared.kinds.ComponentOuterAliasKind.{ComponentOuterAliasKind}
use Rattle.comp_wire.specs.declared.kinds.ComponentOuterAliasKind.TheVariants as outer_kind
use Rattle.comp_wire.specs.declared.kinds.ModuleArg.{ModuleArg}
use Rattle.comp_wire.specs.declared.kinds.ModuleArg.TheVariants as arg
use Rattle.comp_wire.specs.declared.canon.CanonicalOption.{CanonicalOption}
use Rattle.comp_wire.specs.declared.canon.CanonicalOption.TheVariants as opt
use Rattle.comp_wire.specs.declared.externs.TypeBounds.{TypeBounds}
use Rattle.comp_wire.specs.declared.externs.TypeBounds.TheVariants as bounds
use Rattle.comp_wire.specs.declared.externs.ComponentTypeRef.{ComponentTypeRef}
use Rattle.comp_wire.specs.declared.externs.ComponentTypeRef.TheVariants as desc
use Rattle.comp_wire.specs.declared.externs.ComponentExternName.{ComponentExternName}
use Rattle.comp_wire.specs.declared.externs.Alias.{Alias}
use Rattle.comp_wire.specs.declared.externs.Alias.TheVariants as alias
use Rattle.comp_wire.specs.declared.externs.WireEntity.{WireEntity}
use Rattle.comp_wire.specs.declared.externs.WireEntity.TheVariants as entity

-- the byte of a primitive type (Component Model, binary format, Type Definitions)
abbrev pub primitive_byte_of : PrimitiveValType → ℕ
primitive_byte_of prim.Bool = 0x7f
primitive_byte_of prim.S8 = 0x7e
primitive_byte_of prim.U8 = 0x7d
primitive_byte_of prim.S16 = 0x7c
primitive_byte_of prim.U16 = 0x7b
primitive_byte_of prim.S32 = 0x7a
primitive_byte_of prim.U32 = 0x79
primitive_byte_of prim.S64 = 0x78
primitive_byte_of prim.U64 = 0x77
primitive_byte_of prim.F32 = 0x76
primitive_byte_of prim.F64 = 0x75
primitive_byte_of prim.Char = 0x74
primitive_byte_of prim.String = 0x73
primitive_byte_of prim.ErrorContext = 0x64

abbrev pub value_of : ComponentValType → Leaf
value_of (val.Primitive p) = m.number (primitive_byte_of p)
value_of (val.Ty i) = m.ref space.Ty (m.index i)

abbrev pub optional_of : {A : Type 0} → (A → Leaf) → Option A → Leaf
optional_of f None = m.absent
optional_of f (Some x) = m.present (f x)

abbrev pub number_leaf : ℕ → Leaf
number_leaf n = m.number n

-- 1 for true
abbrev pub bit : Bool → ℕ
bit true = 1
bit false = 0

abbrev pub index_of : Space → ℕ → Leaf
index_of s i = m.ref s (m.index i)

-- a row for each item of a list
abbrev pub rows_of_list : {A : Type 0} → (A → Node) → List A → Nodes
rows_of_list f [] = no_node
rows_of_list f (x ∷ xs) = one_node (f x) (rows_of_list f xs)

abbrev pub heap_of : Bool → WireHeap → CoreValue
heap_of nullable heap.Func = c.ref_func nullable
heap_of nullable heap.Extern = c.ref_extern nullable
heap_of nullable (heap.Concrete i) = c.ref_index nullable i

abbrev pub core_value_of : WireVal → CoreValue
core_value_of core.I32 = c.i32
core_value_of core.I64 = c.i64
core_value_of core.F32 = c.f32
core_value_of core.F64 = c.f64
core_value_of core.V128 = c.v128
core_value_of (core.Ref nullable h) = heap_of nullable h

abbrev pub core_value_row : WireVal → Node
core_value_row v = make.core_value_type (core_value_of v)

abbrev pub function_row : WireFunc → Node
function_row f = make.core_function_type (rows_of_list core_value_row f.params) (rows_of_list core_value_row f.results)

abbrev pub core_space_of : ExportKind → Space
core_space_of core_kind.Func = space.CoreFunc
core_space_of core_kind.Table = space.CoreTable
core_space_of core_kind.Memory = space.CoreMemory
core_space_of core_kind.Global = space.CoreGlobal
core_space_of core_kind.Tag = space.CoreTag

abbrev pub space_of : ComponentExportKind → Space
space_of export_kind.Module = space.CoreModule
space_of export_kind.Func = space.Func
space_of export_kind.Value = space.Value
space_of export_kind.Ty = space.Ty
space_of export_kind.Component = space.Component
space_of export_kind.Instance = space.Instance

abbrev pub outer_space_of : ComponentOuterAliasKind → Space
outer_space_of outer_kind.CoreModule = space.CoreModule
outer_space_of outer_kind.CoreType = space.CoreType
outer_space_of outer_kind.Ty = space.Ty
outer_space_of outer_kind.Component = space.Component

-- entries of lists
abbrev pub named_type_row : Bor Text × ComponentValType → Node
named_type_row p = make.named_type p.0.now (value_of p.1)

abbrev pub case_row : Bor Text × Option ComponentValType → Node
case_row p = make.case_type None p.0.now (optional_of value_of p.1)

abbrev pub lone_type_row : ComponentValType → Node
lone_type_row v = make.lone_type (value_of v)

abbrev pub lone_name_row : Bor Text → Node
lone_name_row x = make.lone_name x.now

abbrev pub passed_instance : ModuleArg → ℕ
passed_instance (arg.Instance i) = i

abbrev pub core_argument_row : Bor Text × ModuleArg → Node
core_argument_row p = make.core_argument p.0.now (m.index (passed_instance p.1))

abbrev pub core_export_row : Bor Text × ExportKind × ℕ → Node
core_export_row p = make.core_bundle_export p.0.now (core_space_of p.1) (m.index p.2)

abbrev pub argument_row : Bor Text × ComponentExportKind × ℕ → Node
argument_row p = make.argument p.0.now (space_of p.1) (m.index p.2)

abbrev pub bundle_export_row : ComponentExternName × ComponentExportKind × ℕ → Node
bundle_export_row p = make.bundle_export (m.text p.0.name.now) (space_of p.1) (m.index p.2)

abbrev pub start_argument_row : ℕ → Node
start_argument_row i = make.start_argument (m.index i)

abbrev pub option_row : CanonicalOption → Node
option_row opt.UTF8 = make.plain_option rows.OptionUtf8
option_row opt.UTF16 = make.plain_option rows.OptionUtf16
option_row opt.CompactUTF16 = make.plain_option rows.OptionLatin1Utf16
option_row (opt.Memory i) = make.option_memory (m.index i)
option_row (opt.Realloc i) = make.option_of_function rows.OptionRealloc (m.index i)
option_row (opt.PostReturn i) = make.option_of_function rows.OptionPostReturn (m.index i)
option_row opt.Async = make.plain_option rows.OptionAsync
option_row (opt.Callback i) = make.option_of_function rows.OptionCallback (m.index i)

abbrev pub bounds_row : TypeBounds → Node
bounds_row (bounds.Eq i) = make.described_by rows.TypeEq (m.index i)
bounds_row bounds.SubResource = make.sub_resource

abbrev pub description_row : ComponentTypeRef → Node
description_row (desc.Module i) = make.module_description (m.index i)
description_row (desc.Func i) = make.described_by rows.FuncDescription (m.index i)
description_row (desc.Ty b) = bounds_row b
description_row (desc.Component i) = make.described_by rows.ComponentDescription (m.index i)
description_row (desc.Instance i) = make.described_by rows.InstanceDescription (m.index i)

abbrev pub description_leaf : ComponentTypeRef → Leaf
description_leaf d = m.node (description_row d)

abbrev pub entity_row : WireEntity → Node
entity_row (entity.Func i) = make.func_entity (m.index i)
entity_row (entity.Table v least most) = make.table_entity (core_value_of v) least (optional_of number_leaf most)
entity_row (entity.Memory least most) = make.memory_entity least (optional_of number_leaf most)
entity_row (entity.Global v mutable) = make.global_entity (core_value_of v) (bit mutable)

abbrev pub alias_row : Alias → Node
alias_row (alias.InstanceExport i k x) = make.alias_export (m.index i) x.now (space_of k)
alias_row (alias.CoreInstanceExport i k x) = make.alias_core_export (m.index i) x.now (core_space_of k)
alias_row (alias.Outer count k i) = make.alias_outer (c.counted 0 count) (m.index i) (outer_space_of k)

abbrev pub extern_text : ComponentExternName → Leaf
extern_text x = m.text x.name.now
