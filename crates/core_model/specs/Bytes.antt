-- The bytes of the parts of a core module (WebAssembly, binary format). A form that is read and never written has no byte, and no count counts it.
use Rattle.std.specs.Prelude.{ℕ, ◌+◌, Bool, true, false, cond, List, [], ◌∷◌, ◌++◌, map, flat_map, filter, length, Option, Some, None}
use Rattle.comp_model.specs.declared.Space.{Space}
use Rattle.comp_model.specs.declared.Space.TheVariants.{CoreFunc, CoreTable, CoreMemory, CoreGlobal, CoreTag, CoreType}
use Rattle.comp_model.specs.Core.{Text, Id, CoreValue, other_value}
use Rattle.comp_model.specs.Leb.{uleb, signed_leb}
use Rattle.comp_model.specs.Payloads.{framed, joined, core_sort_byte}
use Rattle.comp_wire.specs.Spelled.{core_bytes}
use Rattle.comp_model.specs.CoreModules as c
use Rattle.comp_model.specs.CoreModules.{Limits, Entity, Instruction, Field, func_field, table_field, memory_field, global_field, export_field}
use Rattle.core_model.specs.Items.{inline_exports, import_names, entity_of, is_definition, declares, items_in, ids_in, index_of, each_behind}
use Rattle.core_model.specs.Types.{Signature, resolved_value, same_value, all_types, type_of_use, locals_of, ids_of}

-- a count and so many items
abbrev pub counted : List (List ℕ) → List ℕ
counted items = uleb (length items) ++ joined items

-- a section or subsection: its number, its length and its counted items; without an item it is left out
abbrev pub section : ℕ → List (List ℕ) → List ℕ
section n [] = []
section n (i ∷ is) = n ∷ framed (counted (i ∷ is))

-- the value types that have bytes
abbrev pub has_bytes : CoreValue → Bool
has_bytes other_value = false
has_bytes v = true

abbrev pub values : List CoreValue → List CoreValue
values vs = filter has_bytes vs

-- types: 60, the parameters, the results
abbrev pub function_type_bytes : Signature → List ℕ
function_type_bytes s = 0x60 ∷ (counted (map core_bytes (values s.params)) ++ counted (map core_bytes (values s.results)))

abbrev pub type_item : Option Signature → List (List ℕ)
type_item None = []
type_item (Some s) = function_type_bytes s ∷ []

-- limits: 00 n, or 01 n n
abbrev pub limits_by : ℕ → Option ℕ → List ℕ
limits_by n None = 0x00 ∷ uleb n
limits_by n (Some m) = 0x01 ∷ (uleb n ++ uleb m)

abbrev pub limits_bytes : Limits → List ℕ
limits_bytes l = limits_by l.least l.most

-- 01 where mutable
abbrev pub mutable_byte : Bool → ℕ
mutable_byte false = 0x00
mutable_byte true = 0x01

-- neighbours of one type are joined: how many, and the type
abbrev pub in_front : CoreValue → List (ℕ × CoreValue) → List (ℕ × CoreValue)
in_front v [] = (1, v) ∷ []
in_front v (r ∷ rs) = cond (same_value v r.1) ((r.0 + 1, v) ∷ rs) ((1, v) ∷ r ∷ rs)

abbrev pub runs : List CoreValue → List (ℕ × CoreValue)
runs [] = []
runs (v ∷ vs) = in_front v (runs vs)

abbrev pub run_bytes : ℕ × CoreValue → List ℕ
run_bytes r = uleb r.0 ++ core_bytes r.1

module _ (fs : List Field) where
  -- a value type with its name resolved
  abbrev pub value : CoreValue → CoreValue
  value v = resolved_value (ids_in CoreType fs) v

  abbrev pub value_bytes : CoreValue → List ℕ
  value_bytes v = core_bytes (value v)

  -- entities: 00 n, 01 cv l, 02 l, 03 cv m
  abbrev pub entity_bytes : Entity → List ℕ
  entity_bytes (c.func u) = 0x00 ∷ uleb (type_of_use fs u)
  entity_bytes (c.table l v) = 0x01 ∷ (value_bytes v ++ limits_bytes l)
  entity_bytes (c.memory l) = 0x02 ∷ limits_bytes l
  entity_bytes (c.global v m) = 0x03 ∷ (value_bytes v ++ mutable_byte m ∷ [])
  entity_bytes (c.other_entity o) = []

  -- an instruction among parameters and locals of these ids
  abbrev pub instruction_bytes : List (Option Id) → Instruction → List ℕ
  instruction_bytes locals c.unreachable = 0x00 ∷ []
  instruction_bytes locals c.nop = 0x01 ∷ []
  instruction_bytes locals c.return = 0x0f ∷ []
  instruction_bytes locals (c.call i) = 0x10 ∷ uleb (index_of (ids_in CoreFunc fs) i)
  instruction_bytes locals c.drop = 0x1a ∷ []
  instruction_bytes locals (c.local_get i) = 0x20 ∷ uleb (index_of locals i)
  instruction_bytes locals (c.local_set i) = 0x21 ∷ uleb (index_of locals i)
  instruction_bytes locals (c.local_tee i) = 0x22 ∷ uleb (index_of locals i)
  instruction_bytes locals (c.global_get i) = 0x23 ∷ uleb (index_of (ids_in CoreGlobal fs) i)
  instruction_bytes locals (c.global_set i) = 0x24 ∷ uleb (index_of (ids_in CoreGlobal fs) i)
  instruction_bytes locals (c.i32_const n) = 0x41 ∷ signed_leb n
  instruction_bytes locals (c.i64_const n) = 0x42 ∷ signed_leb n
  instruction_bytes locals c.i32_add = 0x6a ∷ []
  instruction_bytes locals c.i32_sub = 0x6b ∷ []
  instruction_bytes locals c.i32_mul = 0x6c ∷ []
  instruction_bytes locals (c.other_instruction o) = []

  -- the instructions and 0b
  abbrev pub expression : List (Option Id) → List Instruction → List ℕ
  expression locals is = flat_map (instruction_bytes locals) is ++ 0x0b ∷ []

  -- imports: a module, a name and an entity
  abbrev pub import_by : Option (Text × Text) → Option Entity → List (List ℕ)
  import_by (Some p) (Some e) = (framed p.0 ++ (framed p.1 ++ entity_bytes e)) ∷ []
  import_by _ _ = []

  abbrev pub import_item : Field → List (List ℕ)
  import_item f = import_by (import_names f) (entity_of f)

  -- functions: the type
  abbrev pub function_item : Field → List ℕ
  function_item (func_field o n i u ls is) = uleb (type_of_use fs u)
  function_item _ = []

  -- tables: the type and the limits; memories: the limits; globals: the type, whether mutable, the initialiser
  abbrev pub table_item : Field → List ℕ
  table_item (table_field o n i l v) = value_bytes v ++ limits_bytes l
  table_item _ = []

  abbrev pub memory_item : Field → List ℕ
  memory_item (memory_field o n i l) = limits_bytes l
  memory_item _ = []

  abbrev pub global_item : Field → List ℕ
  global_item (global_field o n i v m is) = value_bytes v ++ (mutable_byte m ∷ expression [] is)
  global_item _ = []

  -- code: the length of the entry, the runs of locals, the instructions
  abbrev pub code_item : Field → List ℕ
  code_item (func_field o n i u ls is) =
      framed (counted (map run_bytes (runs (values (map (λ l. value l.value) ls)))) ++ expression (ids_of (locals_of fs u ls)) is)
  code_item _ = []

  -- exports: a name, the byte of the space, an index
  abbrev pub export_item : Space → ℕ → Text → List ℕ
  export_item s i x = framed x ++ (core_sort_byte s ∷ uleb i)

  -- inline exports stand at their field, whose item is behind those of the fields before
  abbrev pub inline_export_items : List Field → Option Space → List Text → List (List ℕ)
  inline_export_items before None xs = []
  inline_export_items before (Some s) xs = map (export_item s (length (items_in s before))) xs

  abbrev pub exports_of : List Field → Field → List (List ℕ)
  exports_of before (export_field o x CoreTag i) = []
  exports_of before (export_field o x s i) = export_item s (index_of (ids_in s fs) i) x ∷ []
  exports_of before f = inline_export_items before (declares f) (inline_exports f)

  -- the fields that define an item of a space
  abbrev pub definitions_in : Space → List Field
  definitions_in s = filter is_definition (items_in s fs)

  -- the sections, in order
  abbrev pub sections : List ℕ
  sections =
      section 0x01 (flat_map type_item (all_types fs))
      ++ section 0x02 (flat_map import_item fs)
      ++ section 0x03 (map function_item (definitions_in CoreFunc))
      ++ section 0x04 (map table_item (definitions_in CoreTable))
      ++ section 0x05 (map memory_item (definitions_in CoreMemory))
      ++ section 0x06 (map global_item (definitions_in CoreGlobal))
      ++ section 0x07 (flat_map (λ xs. xs) (each_behind exports_of [] fs))
      ++ section 0x0a (map code_item (definitions_in CoreFunc))

-- the magic number and the version of a core module
abbrev pub preamble : List ℕ
preamble = 0x00 ∷ 0x61 ∷ 0x73 ∷ 0x6d ∷ 0x01 ∷ 0x00 ∷ 0x00 ∷ 0x00 ∷ []

-- the bytes of a core module without its name section
abbrev pub module_bytes : List Field → List ℕ
module_bytes fs = preamble ++ sections fs
