-- A core module under a map of its ids, and the exchange of two names.
use Rattle.std.specs.Prelude.{cond, bytes_eq, List, map, option_map}
use Rattle.comp_model.specs.Core.{Text, Id, Place, counted, named, Reach, outward, own, at_place, CoreValue, ref_name}
use Rattle.comp_model.specs.CoreModules as c
use Rattle.comp_model.specs.CoreModules.{Index, Naming, Local, FunctionType, TypeDef, TypeUse, Entity, Instruction, Field, CoreModule}

module _ (f : Id → Id) where
  abbrev pub renamed_place : Place → Place
  renamed_place (counted o d) = counted o d
  renamed_place (named o x) = named o (f x)

  abbrev pub renamed_reach : Reach → Reach
  renamed_reach outward = outward
  renamed_reach own = own
  renamed_reach (at_place p) = at_place (renamed_place p)

  abbrev pub renamed_value : CoreValue → CoreValue
  renamed_value (ref_name b r x) = ref_name b (renamed_reach r) (f x)
  renamed_value v = v

  abbrev pub renamed_index : Index → Index
  renamed_index (c.number o n) = c.number o n
  renamed_index (c.named x) = c.named (f x)

  -- ids alone; labels stay
  abbrev pub renamed_naming : Naming → Naming
  renamed_naming n = record { id = option_map f n.id; label = n.label }

  abbrev pub renamed_local : Local → Local
  renamed_local l = record { naming = renamed_naming l.naming; value = renamed_value l.value }

  abbrev pub renamed_type : FunctionType → FunctionType
  renamed_type t = record { params = map renamed_local t.params; results = map renamed_value t.results }

  abbrev pub renamed_def : TypeDef → TypeDef
  renamed_def (c.function t) = c.function (renamed_type t)
  renamed_def (c.other_type o) = c.other_type o

  abbrev pub renamed_use : TypeUse → TypeUse
  renamed_use u = record { index = option_map renamed_index u.index; signature = option_map renamed_type u.signature }

  abbrev pub renamed_entity : Entity → Entity
  renamed_entity (c.func u) = c.func (renamed_use u)
  renamed_entity (c.table l v) = c.table l (renamed_value v)
  renamed_entity (c.memory l) = c.memory l
  renamed_entity (c.global v m) = c.global (renamed_value v) m
  renamed_entity (c.other_entity o) = c.other_entity o

  abbrev pub renamed_instruction : Instruction → Instruction
  renamed_instruction (c.call i) = c.call (renamed_index i)
  renamed_instruction (c.local_get i) = c.local_get (renamed_index i)
  renamed_instruction (c.local_set i) = c.local_set (renamed_index i)
  renamed_instruction (c.local_tee i) = c.local_tee (renamed_index i)
  renamed_instruction (c.global_get i) = c.global_get (renamed_index i)
  renamed_instruction (c.global_set i) = c.global_set (renamed_index i)
  renamed_instruction i = i

  abbrev pub renamed_field : Field → Field
  renamed_field (c.type_field o n d) = c.type_field o (renamed_naming n) (renamed_def d)
  renamed_field (c.import_field o m x n e) = c.import_field o m x (renamed_naming n) (renamed_entity e)
  renamed_field (c.func_field o n i u ls is) = c.func_field o (renamed_naming n) i (renamed_use u) (map renamed_local ls) (map renamed_instruction is)
  renamed_field (c.table_field o n i l v) = c.table_field o (renamed_naming n) i l (renamed_value v)
  renamed_field (c.memory_field o n i l) = c.memory_field o (renamed_naming n) i l
  renamed_field (c.global_field o n i v m is) = c.global_field o (renamed_naming n) i (renamed_value v) m (map renamed_instruction is)
  renamed_field (c.export_field o x s i) = c.export_field o x s (renamed_index i)
  renamed_field (c.other_field o) = c.other_field o

  abbrev pub renamed_core : CoreModule → CoreModule
  renamed_core m = record { naming = renamed_naming m.naming; fields = map renamed_field m.fields }

-- a for b, b for a, every other name for itself
abbrev pub exchanged_name : Text → Text → Text → Text
exchanged_name a b n = cond (bytes_eq n a) b (cond (bytes_eq n b) a n)

-- the same of ids, whose numbers and offsets stay
abbrev pub exchanged_id : Text → Text → Id → Id
exchanged_id a b x = record { name = exchanged_name a b x.name; number = x.number; offset = x.offset }

-- the fields with two names exchanged wherever they are declared or named
abbrev pub exchanged : Text → Text → List Field → List Field
exchanged a b fs = map (renamed_field (exchanged_id a b)) fs
