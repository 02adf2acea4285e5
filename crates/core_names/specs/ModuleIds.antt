-- The ids of a core module, space by space, and what the names in its instructions mean.
use Rattle.std.specs.Prelude.{◌≡◌, ℕ, List, [], ◌∷◌, ◌++◌, map, flat_map, Option, Some}
use Rattle.comp_model.specs.Core.{Id}
use Rattle.comp_model.specs.CoreModules.{Index, number, named, Instruction, call, local_get, local_set, local_tee, global_get, global_set, Field, func_field, global_field}
use Rattle.comp_model.specs.declared.Space.TheVariants.{CoreFunc, CoreTable, CoreMemory, CoreGlobal, CoreType}
use Rattle.core_model.specs.Items.{ids_in, place_of}
use Rattle.core_model.specs.Types.{written_params, ids_of}
use Rattle.core_names.specs.declared.module_names.ModuleNames.{ModuleNames}

-- what a name means among these ids; a number means itself, and isn't looked up
abbrev pub place_named : List (Option Id) → Index → List (Option ℕ)
place_named ids (number o n) = []
place_named ids (named x) = place_of x ids ∷ []

module _ (fs : List Field) where
  -- what the name in an instruction means, beside the ids of the parameters and locals that are written
  abbrev pub place_in_instruction : List (Option Id) → Instruction → List (Option ℕ)
  place_in_instruction locals (call i) = place_named (ids_in CoreFunc fs) i
  place_in_instruction locals (local_get i) = place_named locals i
  place_in_instruction locals (local_set i) = place_named locals i
  place_in_instruction locals (local_tee i) = place_named locals i
  place_in_instruction locals (global_get i) = place_named (ids_in CoreGlobal fs) i
  place_in_instruction locals (global_set i) = place_named (ids_in CoreGlobal fs) i
  place_in_instruction locals _ = []

  -- what the names in the instructions of a field mean, in order
  abbrev pub places_in : Field → List (Option ℕ)
  places_in (func_field o n i u ls is) = flat_map (place_in_instruction (ids_of (written_params u.signature ++ ls))) is
  places_in (global_field o n i v m is) = flat_map (place_in_instruction []) is
  places_in _ = []

-- Whether these are the ids of the fields: each namespace holds those of the items of its space, in order.
pub record AreIdsOf (names : ModuleNames) (fields : List Field) : Type 0 where
  pub types : names.types ≡ ids_in CoreType fields
  pub funcs : names.funcs ≡ ids_in CoreFunc fields
  pub tables : names.tables ≡ ids_in CoreTable fields
  pub memories : names.memories ≡ ids_in CoreMemory fields
  pub globals : names.globals ≡ ids_in CoreGlobal fields

-- Whether these are the names of the fields: their ids, and what the names in their instructions mean.
pub record AreNamesOf (names : ModuleNames) (fields : List Field) : Type 0 where
  pub types : names.types ≡ ids_in CoreType fields
  pub funcs : names.funcs ≡ ids_in CoreFunc fields
  pub tables : names.tables ≡ ids_in CoreTable fields
  pub memories : names.memories ≡ ids_in CoreMemory fields
  pub globals : names.globals ≡ ids_in CoreGlobal fields
  pub places : map Some names.places.items ≡ flat_map (places_in fields) fields
