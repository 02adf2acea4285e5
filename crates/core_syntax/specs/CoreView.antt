-- What a value that was read stands for: a value of its row.
use Rattle.std.specs.Prelude.{ℕ, Bool, cond, ◌&&◌, nat_eq, List, [], ◌∷◌, Option, Some, None, true, false}
use Rattle.std.specs.Int.{w32, w64, cast_unsigned}
use Rattle.std.specs.Borrow.{Bor}
use Rattle.wast_grammar.specs.Grammar.{Value, none, num, both, left, right, part_at, numbered}
pub use Rattle.core_parts.specs.PartViews.{perhaps_view, label_view, text_view, names_view, head_view, import_names_view, optional_import_view, next_item_view, items_on_view, some_groups_view, groups_view, producer_view}
use Rattle.wast_parser.specs.View.{id_view, reference_view, bytes_view, option_view, many_view}
use Rattle.wast_parser.specs.declared.index.Id.{Id}
use Rattle.wast_parser.specs.declared.index.Index.{Index}
use Rattle.wast_parser.specs.declared.texts.NameAnnotation.{NameAnnotation}
use Rattle.core_syntax.specs.declared.types.HeapType.{HeapType}
use Rattle.core_syntax.specs.declared.types.HeapType.TheVariants as heap
use Rattle.core_syntax.specs.declared.types.RefType.{RefType}
use Rattle.core_syntax.specs.declared.types.ValType.{ValType}
use Rattle.core_syntax.specs.declared.types.ValType.TheVariants as val
use Rattle.core_syntax.specs.declared.types.Param.{Param}
use Rattle.core_syntax.specs.declared.types.FunctionType.{FunctionType}
use Rattle.core_syntax.specs.declared.types.TypeUse.{TypeUse}
use Rattle.core_syntax.specs.declared.types.TypeDef.{TypeDef}
use Rattle.core_syntax.specs.declared.types.TypeDef.TheVariants as def
use Rattle.core_syntax.specs.declared.types.Type.{«Type» as TypeField}
use Rattle.core_syntax.specs.declared.types.Rec.{Rec}
use Rattle.core_syntax.specs.declared.items.Limits.{Limits}
use Rattle.core_syntax.specs.declared.items.ItemKind.{ItemKind}
use Rattle.core_syntax.specs.declared.items.ItemKind.TheVariants as item
use Rattle.core_syntax.specs.declared.items.ItemSig.{ItemSig}
use Rattle.core_syntax.specs.declared.items.Imports.{Imports}
use Rattle.core_syntax.specs.declared.items.ExportKind.{ExportKind}
use Rattle.core_syntax.specs.declared.items.ExportKind.TheVariants as export
use Rattle.core_syntax.specs.declared.fields.ModuleField.{ModuleField}
use Rattle.core_syntax.specs.declared.fields.ModuleField.TheVariants as field
use Rattle.core_syntax.specs.declared.fields.Func.{Func}
use Rattle.core_syntax.specs.declared.fields.Memory.{Memory}
use Rattle.core_syntax.specs.declared.fields.Table.{Table}
use Rattle.core_syntax.specs.declared.fields.GlobalField.{GlobalField}
use Rattle.core_syntax.specs.declared.fields.Export.{Export}
use Rattle.core_syntax.specs.declared.«module».Module.{Module}
use Rattle.core_syntax.specs.declared.«module».ModuleKind.{ModuleKind}
use Rattle.core_syntax.specs.declared.«module».ModuleKind.TheVariants as kind
use Rattle.core_syntax.specs.declared.«module».Stage.{Stage}
use Rattle.core_syntax.specs.declared.«module».Stage.TheVariants as stage
use Rattle.core_syntax.specs.declared.«module».Producers.{Producers}
use Rattle.core_syntax.specs.declared.fields.Local.{Local}
use Rattle.core_syntax.specs.declared.instructions.Instruction.{Instruction}
use Rattle.core_syntax.specs.declared.instructions.Instruction.TheVariants as i
use Rattle.core_syntax.specs.declared.instructions.Expression.{Expression}

-- what is there or not, with no value of its own
abbrev pub flag_view : Bool → Value
flag_view b = cond b (left none) (right none)

-- one of several spellings
abbrev pub alike_view : Value → Value
alike_view v = both (left v) none

-- a heap type: a reference, or one of the two words
abbrev pub heap_view : HeapType → Value
heap_view (heap.Concrete i) = left (reference_view i)
heap_view heap.Func = right (left none)
heap_view heap.Extern = right (right none)

-- a reference type, however it is spelled
abbrev pub reference_parts_view : RefType → Value
reference_parts_view r = both (flag_view r.nullable) (heap_view r.heap)

abbrev pub reference_type_view : RefType → Value
reference_type_view r = alike_view (reference_parts_view r)

-- a number or vector type, by its number in the table of words
abbrev pub number_view : ValType → Value
number_view val.I32 = num 0
number_view val.I64 = num 1
number_view val.F32 = num 2
number_view val.F64 = num 3
number_view val.V128 = num 4
number_view (val.Ref r) = none
number_view (val.Other s) = none

-- a value type: the first of a choice by its number, or a reference type, or the offset of another
abbrev pub value_type_view : ValType → Value
value_type_view val.I32 = left (num 0)
value_type_view val.I64 = left (num 1)
value_type_view val.F32 = left (num 2)
value_type_view val.F64 = left (num 3)
value_type_view val.V128 = left (num 4)
value_type_view (val.Ref r) = right (left (reference_type_view r))
value_type_view (val.Other s) = right (right (part_at s.offset none))

abbrev pub param_view : Param → Value
param_view p = both (option_view id_view p.id) (both (option_view label_view p.name) (value_type_view p.ty))

-- what stands in the groups of parameters: with an id, with a name alone, or without
abbrev pub item_of : Option Id → Option NameAnnotation → Value → Value
item_of (Some i) n v = left (both (id_view i) (both (option_view label_view n) v))
item_of None (Some n) v = right (left (both (label_view n) v))
item_of None None v = right (right v)

-- a parameter with an id, and one with a name alone
abbrev pub id_or_none : Option Id → Value
id_or_none None = none
id_or_none (Some i) = id_view i

abbrev pub with_id_view : Param → Value
with_id_view p = both (id_or_none p.id) (both (option_view label_view p.name) (value_type_view p.ty))

abbrev pub label_or_none : Option NameAnnotation → Value
label_or_none None = none
label_or_none (Some n) = label_view n

abbrev pub with_name_view : Param → Value
with_name_view p = both (label_or_none p.name) (value_type_view p.ty)

abbrev pub param_item_view : Param → Value
param_item_view p = item_of p.id p.name (value_type_view p.ty)

abbrev pub local_item_view : Local → Value
local_item_view l = item_of l.id l.name (value_type_view l.ty)

abbrev pub function_type_view : FunctionType → Value
function_type_view t = both (groups_view param_item_view t.params.items) (groups_view value_type_view t.results.items)

abbrev pub type_use_view : TypeUse → Value
type_use_view u = both (option_view reference_view u.index) (option_view function_type_view u.inline)

abbrev pub type_definition_view : TypeDef → Value
type_definition_view (def.Func t) = left (function_type_view t)
type_definition_view (def.Other s) = right (part_at s.offset none)

-- a type has the offset of its word
abbrev pub type_field_view : TypeField → Value
type_field_view t = both (part_at t.span.offset none) (both (option_view id_view t.id) (both (option_view label_view t.name) (type_definition_view t.def)))

abbrev pub rec_group_view : Rec → Value
rec_group_view r = both (part_at r.span.offset none) (many_view type_field_view r.types.items)

-- one with an index
abbrev pub indexed_by : ℕ → Index → Value
indexed_by k x = right (left (both (num k) (reference_view x)))

-- an instruction of a list; another has the offset of its first token
abbrev pub instruction_view : Instruction → Value
instruction_view i.Unreachable = left (num 0)
instruction_view i.Nop = left (num 1)
instruction_view i.Return = left (num 2)
instruction_view (i.Call x) = indexed_by 0 x
instruction_view i.Drop = left (num 3)
instruction_view (i.LocalGet x) = indexed_by 1 x
instruction_view (i.LocalSet x) = indexed_by 2 x
instruction_view (i.LocalTee x) = indexed_by 3 x
instruction_view (i.GlobalGet x) = indexed_by 4 x
instruction_view (i.GlobalSet x) = indexed_by 5 x
instruction_view (i.I32Const n) = right (right (left (num (cast_unsigned w32 n))))
instruction_view (i.I64Const n) = right (right (right (numbered (cast_unsigned w64 n) none)))
instruction_view i.I32Add = left (num 4)
instruction_view i.I32Sub = left (num 5)
instruction_view i.I32Mul = left (num 6)
instruction_view (i.Other s) = part_at s.offset none

-- one that is read and never written
abbrev pub is_other : Instruction → Bool
is_other i.Unreachable = false
is_other i.Nop = false
is_other i.Return = false
is_other (i.Call x) = false
is_other i.Drop = false
is_other (i.LocalGet x) = false
is_other (i.LocalSet x) = false
is_other (i.LocalTee x) = false
is_other (i.GlobalGet x) = false
is_other (i.GlobalSet x) = false
is_other (i.I32Const n) = false
is_other (i.I64Const n) = false
is_other i.I32Add = false
is_other i.I32Sub = false
is_other i.I32Mul = false
is_other (i.Other s) = true

-- an instruction alone
abbrev pub alone_view : Instruction → Value
alone_view x = cond (is_other x) (right (instruction_view x)) (left (instruction_view x))

-- instructions, one behind the other
abbrev pub expression_view : Expression → Value
expression_view e = many_view instruction_view e.instrs.items

abbrev pub limits_view : Limits → Value
limits_view l = both (num l.min) (option_view num l.max)

abbrev pub global_type_view : ValType × Bool → Value
global_type_view g = cond g.1 (left (value_type_view g.0)) (right (value_type_view g.0))

-- a function's signature, and a global's
abbrev pub func_signature_view : (Option Id × Option NameAnnotation) × TypeUse → Value
func_signature_view x = both (names_view x.0) (type_use_view x.1)

abbrev pub global_signature_view : (Option Id × Option NameAnnotation) × (ValType × Bool) → Value
global_signature_view x = both (names_view x.0) (global_type_view x.1)

-- a memory's and a table's, or none where it is never written
abbrev pub memory_signature_view : Option ((Option Id × Option NameAnnotation) × Limits) → Value
memory_signature_view = perhaps_view (λ x. both (names_view x.0) (both (limits_view x.1) none)) none

abbrev pub table_signature_view : Option ((Option Id × Option NameAnnotation) × (Limits × RefType)) → Value
table_signature_view = perhaps_view (λ x. both (names_view x.0) (both (limits_view x.1.0) (both (reference_type_view x.1.1) none))) (right none)

-- what isn't written has no id and no label
abbrev pub is_bare : Option Id → Option NameAnnotation → Bool
is_bare None None = true
is_bare None (Some n) = false
is_bare (Some i) n = false

-- a signature by its kind: one that isn't written is bare, and stands where its word does
abbrev pub kind_view : Option Id × Option NameAnnotation → ItemKind → (offset : ℕ) → Value
kind_view names (item.Func u) offset = left (func_signature_view (names, u))
kind_view names (item.Global v m) offset = right (left (global_signature_view (names, (v, m))))
kind_view names (item.Table l r) offset = right (right (table_signature_view (Some (names, (l, r)))))
kind_view names (item.Memory l) offset = right (right (right (memory_signature_view (Some (names, l)))))
kind_view names (item.Other s) offset = cond (is_bare names.0 names.1 && nat_eq s.offset offset) (right (right (right (right none)))) none

abbrev pub signature_parts_view : ItemSig → Value
signature_parts_view x = kind_view (x.id, x.name) x.kind x.span.offset

-- what stands behind two or three choices of the second
abbrev pub behind_two : Value → Value
behind_two (right (right v)) = v
behind_two v = none

abbrev pub behind_three : Value → Value
behind_three (right (right (right v))) = v
behind_three v = none

-- a signature has the offset of its word
abbrev pub item_signature_view : ItemSig → Value
item_signature_view x = part_at x.span.offset (signature_parts_view x)

abbrev pub import_view : Imports → Value
import_view x = both (part_at x.span.offset none) (both (import_names_view (x.module, x.name)) (item_signature_view x.sig))

abbrev pub memory_head_view : Memory → Value
memory_head_view m = both (head_view (m.id, m.name) m.exports.items) (optional_import_view m.import)

abbrev pub memory_parts_view : Memory → Value
memory_parts_view m = both (memory_head_view m) (limits_view m.limits)

abbrev pub memory_view : Memory → Value
memory_view m = part_at m.span.offset (memory_parts_view m)

abbrev pub table_head_view : Table → Value
table_head_view t = both (head_view (t.id, t.name) t.exports.items) (optional_import_view t.import)

abbrev pub table_parts_view : Table → Value
table_parts_view t = both (table_head_view t) (both (limits_view t.limits) (reference_type_view t.ty))

abbrev pub table_view : Table → Value
table_view t = part_at t.span.offset (table_parts_view t)

-- whether a list is empty
abbrev pub is_nil : {A : Type 0} → List A → Bool
is_nil [] = true
is_nil (x ∷ xs) = false

-- what follows the inline exports of a function: one that is imported has no locals and no instructions
abbrev pub func_rest_view : Option (Bor (List ℕ) × Bor (List ℕ)) → TypeUse → List Local → Expression → Value
func_rest_view (Some i) u ls e = cond (is_nil ls && is_nil e.instrs.items) (left (both (import_names_view i) (type_use_view u))) none
func_rest_view None u ls e = right (both (type_use_view u) (both (groups_view local_item_view ls) (expression_view e)))

abbrev pub func_parts_view : Func → Value
func_parts_view f = both (head_view (f.id, f.name) f.exports.items) (func_rest_view f.import f.ty f.locals.items f.body)

abbrev pub func_view : Func → Value
func_view f = part_at f.span.offset (func_parts_view f)

-- the same of a global
abbrev pub global_rest_view : Option (Bor (List ℕ) × Bor (List ℕ)) → ValType × Bool → Expression → Value
global_rest_view (Some i) t e = cond (is_nil e.instrs.items) (left (both (import_names_view i) (global_type_view t))) none
global_rest_view None t e = right (both (global_type_view t) (expression_view e))

abbrev pub global_parts_view : GlobalField → Value
global_parts_view g = both (head_view (g.id, g.name) g.exports.items) (global_rest_view g.import (g.ty, g.mutable) g.init)

abbrev pub global_view : GlobalField → Value
global_view g = part_at g.span.offset (global_parts_view g)

-- what is exported, by its number in the table of words; no text spells a tag
abbrev pub export_kind_view : ExportKind → Value
export_kind_view export.Func = num 0
export_kind_view export.Table = num 1
export_kind_view export.Memory = num 2
export_kind_view export.Global = num 3
export_kind_view export.Tag = none

abbrev pub exported_item_view : ExportKind × Index → Value
exported_item_view x = both (export_kind_view x.0) (reference_view x.1)

abbrev pub export_view : Export → Value
export_view x = both (part_at x.span.offset none) (both (text_view x.name) (exported_item_view (x.kind, x.item)))

-- a memory, or none where another field stands
abbrev pub memory_or_other_view : Option Memory → Value
memory_or_other_view None = right none
memory_or_other_view (Some m) = left (both (memory_head_view m) (both (limits_view m.limits) none))

-- a table, or none where the field is never written
abbrev pub table_or_other_view : Option Table → Value
table_or_other_view None = right (right none)
table_or_other_view (Some t) = left (both (table_head_view t) (both (limits_view t.limits) (both (reference_type_view t.ty) none)))

-- a table, a memory or another field
abbrev pub table_field_view : ModuleField → Value
table_field_view (field.Table t) = table_or_other_view (Some t)
table_field_view (field.Memory m) = right (memory_or_other_view (Some m))
table_field_view (field.Other s) = right (right none)
table_field_view (field.Ty t) = none
table_field_view (field.Import m) = none
table_field_view (field.Func f) = none
table_field_view (field.Global g) = none
table_field_view (field.Export e) = none

-- five choices of the second
abbrev pub after_five : Value → Value
after_five v = right (right (right (right (right v))))

-- a field by its kind
abbrev pub field_view : ModuleField → Value
field_view (field.Ty t) = left (type_field_view t)
field_view (field.Import m) = right (left (import_view m))
field_view (field.Func f) = right (right (left (func_view f)))
field_view (field.Global g) = right (right (right (left (global_view g))))
field_view (field.Export e) = right (right (right (right (left (export_view e)))))
field_view (field.Table t) = after_five (part_at t.span.offset (table_or_other_view (Some t)))
field_view (field.Memory m) = after_five (part_at m.span.offset (right (memory_or_other_view (Some m))))
field_view (field.Other s) = after_five (part_at s.offset (right (right none)))

-- what stands behind choices of the second
abbrev pub behind_one : Value → Value
behind_one (right v) = v
behind_one v = none

abbrev pub behind_four : Value → Value
behind_four v = behind_two (behind_two v)

abbrev pub behind_five : Value → Value
behind_five v = behind_one (behind_four v)

-- a field among others
abbrev pub field_group_view : ModuleField → Value
field_group_view f = right (field_view f)

abbrev pub string_view : Bor (List ℕ) → Value
string_view b = bytes_view b.now

-- the fields of a module, or the strings of its bytes
abbrev pub module_kind_view : ModuleKind → Value
module_kind_view (kind.Binary strings) = left (many_view string_view strings.items)
module_kind_view (kind.Text fields) = right (many_view field_group_view fields.items)

-- a module as it is read
abbrev pub is_parsed : Stage → Bool
is_parsed stage.Parsed = true
is_parsed stage.Resolved = false
is_parsed stage.Failed = false

abbrev pub module_view : Module → Value
module_view m = cond (is_parsed m.stage) (both (part_at m.span.offset none) (both (names_view (m.id, m.name)) (module_kind_view m.kind))) none

abbrev pub producers_view : Producers → Value
producers_view p = many_view producer_view p.fields.items
