-- The rules of a core module, in the order in which they are looked for, and the first that is broken.
use Rattle.std.specs.Prelude.{ℕ, Bool, false, cond, ◌&&◌, List, [], ◌∷◌, ◌++◌, map, flat_map, slice_get, Option, Some, None, is_some}
use Rattle.std.specs.List.{list_any}
use Rattle.comp_model.specs.declared.Space.{Space}
use Rattle.comp_model.specs.declared.Space.TheVariants.{CoreFunc, CoreGlobal, CoreType}
use Rattle.comp_model.specs.Core.{Id, CoreValue, ref_name, CoreFault, import_order, core_duplicate, core_unknown, type_mismatch, CoreRefusal}
use Rattle.comp_model.specs.CoreModules.{Index, number, named, Local, FunctionType, TypeDef, function, other_type, TypeUse, Entity, func, table, memory, global, other_entity, Instruction, call, local_get, local_set, local_tee, global_get, global_set, Field, type_field, import_field, func_field, table_field, memory_field, global_field, export_field, other_field}
use Rattle.core_model.specs.Items.{offset_of, naming_of, is_import, is_definition, declares, ids_in, place_of, meant, each_behind}
use Rattle.core_model.specs.Types.{Signature, signature_of, is_type, written_types, written_params, ids_of}

-- a broken rule and where
abbrev pub refuse : CoreFault → ℕ → Option CoreRefusal
refuse fault o = Some (record { fault = fault; offset = o })

-- what is broken first
abbrev pub first_broken : List (Option CoreRefusal) → Option CoreRefusal
first_broken [] = None
first_broken (None ∷ rs) = first_broken rs
first_broken (Some r ∷ rs) = Some r

-- an import behind a definition: at the first word of its field
abbrev pub late_import : List Field → Field → Option CoreRefusal
late_import before f = cond (is_import f && list_any is_definition before) (refuse import_order (offset_of f)) None

-- an id that stands among these
abbrev pub repeated : List (Option Id) → Option Id → Option CoreRefusal
repeated ids None = None
repeated ids (Some x) = cond (is_some (place_of x ids)) (refuse core_duplicate x.offset) None

-- an id that an earlier field gives to an item of the same space: at the second
abbrev pub repeated_in : List Field → Option Space → Option Id → Option CoreRefusal
repeated_in before None x = None
repeated_in before (Some s) x = repeated (ids_in s before) x

abbrev pub repeated_id : List Field → Field → Option CoreRefusal
repeated_id before f = repeated_in before (declares f) (naming_of f).id

-- a name that is not among these ids: at the name
abbrev pub unknown : List (Option Id) → Index → Option CoreRefusal
unknown ids (number o n) = None
unknown ids (named x) = cond (is_some (place_of x ids)) None (refuse core_unknown x.offset)

abbrev pub unknown_in_value : List (Option Id) → CoreValue → Option CoreRefusal
unknown_in_value ids (ref_name b r x) = unknown ids (named x)
unknown_in_value ids v = None

-- the names in a function type, in order
abbrev pub unknown_in_type : List (Option Id) → FunctionType → List (Option CoreRefusal)
unknown_in_type ids t = map (λ p. unknown_in_value ids p.value) t.params ++ map (unknown_in_value ids) t.results

abbrev pub unknown_in_def : List (Option Id) → TypeDef → List (Option CoreRefusal)
unknown_in_def ids (function t) = unknown_in_type ids t
unknown_in_def ids (other_type o) = []

-- a second parameter or local of one id, behind the names in its type
abbrev pub broken_local : List (Option Id) → List Local → Local → Option CoreRefusal
broken_local ids before l = first_broken (unknown_in_value ids l.value ∷ repeated (ids_of before) l.naming.id ∷ [])

abbrev pub offset_of_index : Index → ℕ
offset_of_index (number o n) = o
offset_of_index (named x) = x.offset

-- whether the type found at an index is this one
abbrev pub is_found : Option (Option Signature) → Signature → Bool
is_found None s = false
is_found (Some t) s = is_type s t

abbrev pub is_written : List (Option Signature) → Option ℕ → Signature → Bool
is_written ts None s = false
is_written ts (Some i) s = is_found (slice_get ts i) s

module _ (fs : List Field) where
  -- an index beside a signature that is not that of the written type at the index: at the index
  abbrev pub mismatch : Option Index → Option FunctionType → Option CoreRefusal
  mismatch None t = None
  mismatch (Some i) None = None
  mismatch (Some i) (Some t) =
      cond (is_written (written_types fs) (meant (ids_in CoreType fs) i) (signature_of (ids_in CoreType fs) t)) None (refuse type_mismatch (offset_of_index i))

  abbrev pub unknown_in_option : Option Index → Option CoreRefusal
  unknown_in_option None = None
  unknown_in_option (Some i) = unknown (ids_in CoreType fs) i

  abbrev pub unknown_in_signature : Option FunctionType → List (Option CoreRefusal)
  unknown_in_signature None = []
  unknown_in_signature (Some t) = unknown_in_type (ids_in CoreType fs) t

  -- a type use: its index, the names in its types, then the mismatch
  abbrev pub broken_use : TypeUse → List (Option CoreRefusal)
  broken_use u = unknown_in_option u.index ∷ (unknown_in_signature u.signature ++ mismatch u.index u.signature ∷ [])

  abbrev pub broken_entity : Entity → List (Option CoreRefusal)
  broken_entity (func u) = broken_use u
  broken_entity (table l v) = unknown_in_value (ids_in CoreType fs) v ∷ []
  broken_entity (memory l) = []
  broken_entity (global v m) = unknown_in_value (ids_in CoreType fs) v ∷ []
  broken_entity (other_entity o) = []

  -- the name in an instruction, beside the ids of the parameters and locals
  abbrev pub unknown_in_instruction : List (Option Id) → Instruction → Option CoreRefusal
  unknown_in_instruction locals (call i) = unknown (ids_in CoreFunc fs) i
  unknown_in_instruction locals (local_get i) = unknown locals i
  unknown_in_instruction locals (local_set i) = unknown locals i
  unknown_in_instruction locals (local_tee i) = unknown locals i
  unknown_in_instruction locals (global_get i) = unknown (ids_in CoreGlobal fs) i
  unknown_in_instruction locals (global_set i) = unknown (ids_in CoreGlobal fs) i
  unknown_in_instruction locals _ = None

  -- The parts of a field, in order: of a function its type use, its parameters and locals, its instructions; of every other field as they are written.
  abbrev pub broken_parts : Field → List (Option CoreRefusal)
  broken_parts (type_field o n d) = unknown_in_def (ids_in CoreType fs) d
  broken_parts (import_field o m x n e) = broken_entity e
  broken_parts (func_field o n i u ls is) =
      broken_use u ++ (each_behind (broken_local (ids_in CoreType fs)) [] (written_params u.signature ++ ls) ++ map (unknown_in_instruction (ids_of (written_params u.signature ++ ls))) is)
  broken_parts (table_field o n i l v) = unknown_in_value (ids_in CoreType fs) v ∷ []
  broken_parts (memory_field o n i l) = []
  broken_parts (global_field o n i v m is) = unknown_in_value (ids_in CoreType fs) v ∷ map (unknown_in_instruction []) is
  broken_parts (export_field o x s i) = unknown (ids_in s fs) i ∷ []
  broken_parts (other_field o) = []

-- The first broken rule: an import behind a definition; an id twice in one space; then field by field, part by part.
abbrev pub core_rule : List Field → Option CoreRefusal
core_rule fs = first_broken (each_behind late_import [] fs ++ (each_behind repeated_id [] fs ++ flat_map (broken_parts fs) fs))
