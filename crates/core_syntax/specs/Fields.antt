-- What the tree of a core module stands for, as data of the model.
use Rattle.std.specs.Prelude.{Bool, List, map, Option, option_map}
use denote.Bor.{Bor}
use Rattle.comp_model.specs.declared.Space.{Space}
use Rattle.comp_model.specs.declared.Space.TheVariants as space
use Rattle.comp_model.specs.Core as core
use Rattle.comp_model.specs.Core.{Text, CoreValue}
use Rattle.comp_model.specs.CoreModules as c
use Rattle.wast_parser.specs.declared.index.Id.{Id}
use Rattle.wast_parser.specs.declared.index.Index.{Index}
use Rattle.wast_parser.specs.declared.index.Index.TheVariants as reference
use Rattle.core_syntax.specs.Ids.{id_of, option_id, reference_of}
use Rattle.wast_parser.specs.declared.texts.NameAnnotation.{NameAnnotation}
use Rattle.core_syntax.specs.declared.types.ValType.{ValType}
use Rattle.core_syntax.specs.declared.types.ValType.TheVariants as val
use Rattle.core_syntax.specs.declared.types.RefType.{RefType}
use Rattle.core_syntax.specs.declared.types.HeapType.{HeapType}
use Rattle.core_syntax.specs.declared.types.HeapType.TheVariants as heap
use Rattle.core_syntax.specs.declared.types.Param.{Param}
use Rattle.core_syntax.specs.declared.types.FunctionType.{FunctionType}
use Rattle.core_syntax.specs.declared.types.TypeDef.{TypeDef}
use Rattle.core_syntax.specs.declared.types.TypeDef.TheVariants as def
use Rattle.core_syntax.specs.declared.types.Type.{«Type» as TypeField}
use Rattle.core_syntax.specs.declared.types.TypeUse.{TypeUse}
use Rattle.core_syntax.specs.declared.items.Limits.{Limits}
use Rattle.core_syntax.specs.declared.items.ItemKind.{ItemKind}
use Rattle.core_syntax.specs.declared.items.ItemKind.TheVariants as item
use Rattle.core_syntax.specs.declared.items.Imports.{Imports}
use Rattle.core_syntax.specs.declared.items.ExportKind.{ExportKind}
use Rattle.core_syntax.specs.declared.items.ExportKind.TheVariants as export
use Rattle.core_syntax.specs.declared.instructions.Instruction.{Instruction}
use Rattle.core_syntax.specs.declared.instructions.Instruction.TheVariants as i
use Rattle.core_syntax.specs.declared.instructions.Expression.{Expression}
use Rattle.core_syntax.specs.declared.fields.ModuleField.{ModuleField}
use Rattle.core_syntax.specs.declared.fields.ModuleField.TheVariants as field
use Rattle.core_syntax.specs.declared.fields.Local.{Local}
use Rattle.core_syntax.specs.declared.fields.Func.{Func}
use Rattle.core_syntax.specs.declared.fields.Memory.{Memory}
use Rattle.core_syntax.specs.declared.fields.Table.{Table}
use Rattle.core_syntax.specs.declared.fields.GlobalField.{GlobalField}
use Rattle.core_syntax.specs.declared.fields.Export.{Export}

-- ---- ids and labels

abbrev pub label_of : Option NameAnnotation → Option Text
label_of n = option_map (λ a. a.name.now) n

abbrev pub naming_of : Option Id → Option NameAnnotation → c.Naming
naming_of id name = record { id = option_id id; label = label_of name }

-- ---- value types

-- a reference to a type is looked for among the types of the module alone
abbrev pub concrete : Bool → Index → CoreValue
concrete nullable (reference.Num n s) = core.ref_numeral nullable s.offset n
concrete nullable (reference.Id x) = core.ref_name nullable core.own (id_of x)

abbrev pub heap_value : Bool → HeapType → CoreValue
heap_value nullable heap.Func = core.ref_func nullable
heap_value nullable heap.Extern = core.ref_extern nullable
heap_value nullable (heap.Concrete x) = concrete nullable x

abbrev pub ref_value : RefType → CoreValue
ref_value r = heap_value r.nullable r.heap

abbrev pub value_of : ValType → CoreValue
value_of val.I32 = core.i32
value_of val.I64 = core.i64
value_of val.F32 = core.f32
value_of val.F64 = core.f64
value_of val.V128 = core.v128
value_of (val.Ref r) = ref_value r
value_of (val.Other s) = core.other_value

-- ---- types and their uses

abbrev pub param_of : Param → c.Local
param_of p = record { naming = naming_of p.id p.name; value = value_of p.ty }

abbrev pub type_of : FunctionType → c.FunctionType
type_of t = record { params = map param_of t.params.items; results = map value_of t.results.items }

abbrev pub def_of : TypeDef → c.TypeDef
def_of (def.Func t) = c.function (type_of t)
def_of (def.Other s) = c.other_type s.offset

abbrev pub use_of : TypeUse → c.TypeUse
use_of u = record { index = option_map reference_of u.index; signature = option_map type_of u.inline }

-- ---- items

abbrev pub limits_of : Limits → c.Limits
limits_of l = record { least = l.min; most = l.max }

abbrev pub entity_of : ItemKind → c.Entity
entity_of (item.Func u) = c.func (use_of u)
entity_of (item.Table l r) = c.table (limits_of l) (ref_value r)
entity_of (item.Memory l) = c.memory (limits_of l)
entity_of (item.Global v m) = c.global (value_of v) m
entity_of (item.Other s) = c.other_entity s.offset

abbrev pub space_of : ExportKind → Space
space_of export.Func = space.CoreFunc
space_of export.Table = space.CoreTable
space_of export.Memory = space.CoreMemory
space_of export.Global = space.CoreGlobal
space_of export.Tag = space.CoreTag

-- ---- instructions

abbrev pub instruction_of : Instruction → c.Instruction
instruction_of i.Unreachable = c.unreachable
instruction_of i.Nop = c.nop
instruction_of i.Return = c.return
instruction_of (i.Call x) = c.call (reference_of x)
instruction_of i.Drop = c.drop
instruction_of (i.LocalGet x) = c.local_get (reference_of x)
instruction_of (i.LocalSet x) = c.local_set (reference_of x)
instruction_of (i.LocalTee x) = c.local_tee (reference_of x)
instruction_of (i.GlobalGet x) = c.global_get (reference_of x)
instruction_of (i.GlobalSet x) = c.global_set (reference_of x)
instruction_of (i.I32Const n) = c.i32_const n
instruction_of (i.I64Const n) = c.i64_const n
instruction_of i.I32Add = c.i32_add
instruction_of i.I32Sub = c.i32_sub
instruction_of i.I32Mul = c.i32_mul
instruction_of (i.Other s) = c.other_instruction s.offset

abbrev pub body_of : Expression → List c.Instruction
body_of e = map instruction_of e.instrs.items

-- ---- fields

abbrev pub local_of : Local → c.Local
local_of l = record { naming = naming_of l.id l.name; value = value_of l.ty }

abbrev pub pair_of : Bor Text × Bor Text → Text × Text
pair_of p = (p.0.now, p.1.now)

abbrev pub inline_of : List (Bor Text) → Option (Bor Text × Bor Text) → c.Inline
inline_of exports imported = record { exports = map (λ x. x.now) exports; imported = option_map pair_of imported }

abbrev pub type_field_of : TypeField → c.Field
type_field_of t = c.type_field t.span.offset (naming_of t.id t.name) (def_of t.def)

-- the id and the label of an import are those of its signature
abbrev pub import_of : Imports → c.Field
import_of m = c.import_field m.span.offset m.module.now m.name.now (naming_of m.sig.id m.sig.name) (entity_of m.sig.kind)

abbrev pub func_of : Func → c.Field
func_of f = c.func_field f.span.offset (naming_of f.id f.name) (inline_of f.exports.items f.import) (use_of f.ty) (map local_of f.locals.items) (body_of f.body)

abbrev pub memory_of : Memory → c.Field
memory_of m = c.memory_field m.span.offset (naming_of m.id m.name) (inline_of m.exports.items m.import) (limits_of m.limits)

abbrev pub table_of : Table → c.Field
table_of t = c.table_field t.span.offset (naming_of t.id t.name) (inline_of t.exports.items t.import) (limits_of t.limits) (ref_value t.ty)

abbrev pub global_of : GlobalField → c.Field
global_of g = c.global_field g.span.offset (naming_of g.id g.name) (inline_of g.exports.items g.import) (value_of g.ty) g.mutable (body_of g.init)

abbrev pub export_of : Export → c.Field
export_of e = c.export_field e.span.offset e.name.now (space_of e.kind) (reference_of e.item)

abbrev pub field_of : ModuleField → c.Field
field_of (field.Ty t) = type_field_of t
field_of (field.Import m) = import_of m
field_of (field.Func f) = func_of f
field_of (field.Memory m) = memory_of m
field_of (field.Table t) = table_of t
field_of (field.Global g) = global_of g
field_of (field.Export e) = export_of e
field_of (field.Other s) = c.other_field s.offset

abbrev pub fields_of : List ModuleField → List c.Field
fields_of fs = map field_of fs
