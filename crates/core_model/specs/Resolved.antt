-- The fields of a core module with each name replaced by its number, each type use with an index, and the added types behind.
use Rattle.std.specs.Prelude.{ℕ, Bool, List, [], ◌++◌, map, Option, Some, None, option_map}
use Rattle.comp_model.specs.declared.Space.TheVariants.{CoreFunc, CoreGlobal, CoreType}
use Rattle.comp_model.specs.Core as core
use Rattle.comp_model.specs.Core.{Id, CoreValue}
use Rattle.comp_model.specs.CoreModules as c
use Rattle.comp_model.specs.CoreModules.{Index, number, named, Local, FunctionType, TypeDef, function, TypeUse, Entity, Instruction, Field, type_field}
use Rattle.core_model.specs.Items.{no_naming, ids_in, place_of, index_of}
use Rattle.core_model.specs.Types.{Signature, added_types, nameless, type_of_use, locals_of, ids_of}

-- a name becomes its number, at its offset
abbrev pub numbered : List (Option Id) → Index → Index
numbered ids (number o n) = number o n
numbered ids (named x) = number x.offset (index_of ids (named x))

abbrev pub numbered_type : Bool → ℕ → Option ℕ → CoreValue
numbered_type b o None = core.other_value
numbered_type b o (Some i) = core.ref_numeral b o i

abbrev pub numbered_value : List (Option Id) → CoreValue → CoreValue
numbered_value ids (core.ref_name b r x) = numbered_type b x.offset (place_of x ids)
numbered_value ids v = v

abbrev pub numbered_local : List (Option Id) → Local → Local
numbered_local ids l = record { naming = l.naming; value = numbered_value ids l.value }

abbrev pub numbered_signature : List (Option Id) → FunctionType → FunctionType
numbered_signature ids t = record { params = map (numbered_local ids) t.params; results = map (numbered_value ids) t.results }

module _ (fs : List Field) where
  -- the ids of the types
  abbrev pub types : List (Option Id)
  types = ids_in CoreType fs

  -- a use gets the index of its type
  abbrev pub numbered_use_index : TypeUse → Option Index → Index
  numbered_use_index u None = number 0 (type_of_use fs u)
  numbered_use_index u (Some i) = numbered types i

  abbrev pub numbered_use : TypeUse → TypeUse
  numbered_use u = record { index = Some (numbered_use_index u u.index); signature = option_map (numbered_signature types) u.signature }

  abbrev pub numbered_entity : Entity → Entity
  numbered_entity (c.func u) = c.func (numbered_use u)
  numbered_entity (c.table l v) = c.table l (numbered_value types v)
  numbered_entity (c.memory l) = c.memory l
  numbered_entity (c.global v m) = c.global (numbered_value types v) m
  numbered_entity (c.other_entity o) = c.other_entity o

  abbrev pub numbered_def : TypeDef → TypeDef
  numbered_def (function t) = function (numbered_signature types t)
  numbered_def (c.other_type o) = c.other_type o

  abbrev pub numbered_instruction : List (Option Id) → Instruction → Instruction
  numbered_instruction locals (c.call i) = c.call (numbered (ids_in CoreFunc fs) i)
  numbered_instruction locals (c.local_get i) = c.local_get (numbered locals i)
  numbered_instruction locals (c.local_set i) = c.local_set (numbered locals i)
  numbered_instruction locals (c.local_tee i) = c.local_tee (numbered locals i)
  numbered_instruction locals (c.global_get i) = c.global_get (numbered (ids_in CoreGlobal fs) i)
  numbered_instruction locals (c.global_set i) = c.global_set (numbered (ids_in CoreGlobal fs) i)
  numbered_instruction locals i = i

  abbrev pub numbered_field : Field → Field
  numbered_field (type_field o n d) = type_field o n (numbered_def d)
  numbered_field (c.import_field o m x n e) = c.import_field o m x n (numbered_entity e)
  numbered_field (c.func_field o n i u ls is) =
      c.func_field o n i (numbered_use u) (map (numbered_local types) ls) (map (numbered_instruction (ids_of (locals_of fs u ls))) is)
  numbered_field (c.table_field o n i l v) = c.table_field o n i l (numbered_value types v)
  numbered_field (c.memory_field o n i l) = c.memory_field o n i l
  numbered_field (c.global_field o n i v m is) = c.global_field o n i (numbered_value types v) m (map (numbered_instruction []) is)
  numbered_field (c.export_field o x s i) = c.export_field o x s (numbered (ids_in s fs) i)
  numbered_field (c.other_field o) = c.other_field o

-- an added type is a field of its own, without an id
abbrev pub written_value : CoreValue → CoreValue
written_value (core.ref_index b i) = core.ref_numeral b 0 i
written_value v = v

abbrev pub written_out : Signature → FunctionType
written_out s = record { params = map (λ v. nameless (written_value v)) s.params; results = map written_value s.results }

abbrev pub type_added : Signature → Field
type_added s = type_field 0 no_naming (function (written_out s))

-- what the resolver leaves of the fields
abbrev pub resolved_fields : List Field → List Field
resolved_fields fs = map (numbered_field fs) fs ++ map type_added (added_types fs)
