-- The first field of a core module that holds a form which is read and never written.
use Rattle.std.specs.Prelude.{Bool, true, false, cond, ◌||◌, List, [], ◌∷◌, Option, Some, None}
use Rattle.std.specs.List.{list_any}
use Rattle.comp_model.specs.declared.Space.TheVariants.{CoreTag}
use Rattle.comp_model.specs.Core.{CoreValue, other_value}
use Rattle.comp_model.specs.CoreModules.{FunctionType, TypeDef, function, other_type, Entity, func, table, memory, global, other_entity, Instruction, other_instruction, Field, type_field, import_field, func_field, table_field, global_field, export_field, other_field}
use Rattle.comp_model.specs.Covered.{Uncovered, first_held}
use Rattle.core_model.specs.Items.{offset_of}

abbrev pub is_other_value : CoreValue → Bool
is_other_value other_value = true
is_other_value v = false

abbrev pub holds_other_value : FunctionType → Bool
holds_other_value t = list_any (λ p. is_other_value p.value) t.params || list_any is_other_value t.results

abbrev pub other_in_def : TypeDef → Bool
other_in_def (function t) = holds_other_value t
other_in_def (other_type o) = true

abbrev pub other_in_signature : Option FunctionType → Bool
other_in_signature None = false
other_in_signature (Some t) = holds_other_value t

abbrev pub other_in_entity : Entity → Bool
other_in_entity (func u) = other_in_signature u.signature
other_in_entity (table l v) = is_other_value v
other_in_entity (memory l) = false
other_in_entity (global v m) = is_other_value v
other_in_entity (other_entity o) = true

-- core types, value types and entities that are others: the row U6
abbrev pub holds_other_type : Field → Bool
holds_other_type (type_field o n d) = other_in_def d
holds_other_type (import_field o m x n e) = other_in_entity e
holds_other_type (func_field o n i u ls is) = other_in_signature u.signature || list_any (λ l. is_other_value l.value) ls
holds_other_type (table_field o n i l v) = is_other_value v
holds_other_type (global_field o n i v m is) = is_other_value v
holds_other_type _ = false

abbrev pub is_other_instruction : Instruction → Bool
is_other_instruction (other_instruction o) = true
is_other_instruction i = false

-- fields and instructions that are others: the row U7
abbrev pub holds_other_field : Field → Bool
holds_other_field (func_field o n i u ls is) = list_any is_other_instruction is
holds_other_field (global_field o n i v m is) = list_any is_other_instruction is
holds_other_field (export_field o x CoreTag i) = true
holds_other_field (other_field o) = true
holds_other_field _ = false

-- a field with its lowest row
abbrev pub uncovered_field : Field → Option Uncovered
uncovered_field f =
    cond (holds_other_type f) (Some (record { row = 6; offset = offset_of f })) (cond (holds_other_field f) (Some (record { row = 7; offset = offset_of f })) None)

-- the first field that holds an uncovered form
abbrev pub core_uncovered : List Field → Option Uncovered
core_uncovered [] = None
core_uncovered (f ∷ fs) = first_held (uncovered_field f) (core_uncovered fs)
