-- Rule and bytes of a core module under a map of its ids that keeps their offsets and which of them are equal.
use Rattle.std.proofs.Common.{◌≡◌, Bool, true, false, cond, List, [], ◌∷◌, ◌++◌, map, Option, Some, None, option_map, refl, sym, ap}
use Rattle.std.specs.List.{list_any}
use Rattle.comp_model.specs.declared.Space.{Space}
use Rattle.comp_model.specs.declared.Space.TheVariants.{CoreFunc, CoreGlobal, CoreType}
use Rattle.comp_model.specs.Core as core
use Rattle.comp_model.specs.Core.{Id, same_id, CoreValue, CoreRefusal, core_duplicate, core_unknown}
use Rattle.comp_model.specs.CoreModules as c
use Rattle.comp_model.specs.CoreModules.{Index, Local, FunctionType, TypeDef, TypeUse, Entity, Instruction, Field}
use Rattle.core_model.specs.Items.{offset_of, naming_of, is_import, is_definition, declares, is_space, items_in, ids_in, place_of, meant, each_behind}
use Rattle.core_model.specs.Types.{reference_to, resolved_value, signature_of, defined, written_type, written_types, written_params, ids_of}
use Rattle.core_model.specs.Rule.{late_import, repeated, repeated_in, repeated_id, unknown, unknown_in_value, unknown_in_type, unknown_in_def, broken_local, offset_of_index, mismatch, unknown_in_option, unknown_in_signature, broken_use, broken_entity, unknown_in_instruction, broken_parts, core_rule}
use Rattle.core_model.proofs.Lists.{both, map-append, map-over, flat_map-over, each_behind-over}
use Rattle.comp_model.specs.Renaming.{renamed_value, renamed_index, renamed_local, renamed_type, renamed_def, renamed_use, renamed_entity, renamed_instruction, renamed_field}

module _ (f : Id → Id) (same : (x y : Id) → same_id (f x) (f y) ≡ same_id x y) (keeps : (x : Id) → (f x).offset ≡ x.offset) where
  abbrev pub ren : Field → Field
  ren g = renamed_field f g

  abbrev pub new : List (Option Id) → List (Option Id)
  new ids = map (option_map f) ids

  -- fields

  pub declares-renamed : (g : Field) → declares (ren g) ≡ declares g
  declares-renamed (c.import_field o m x n (c.func u)) = refl
  declares-renamed _ = refl

  import-renamed : (g : Field) → is_import (ren g) ≡ is_import g
  import-renamed (c.type_field o n d) = refl
  import-renamed _ = refl

  pub definition-renamed : (g : Field) → is_definition (ren g) ≡ is_definition g
  definition-renamed (c.type_field o n d) = refl
  definition-renamed _ = refl

  offset-renamed : (g : Field) → offset_of (ren g) ≡ offset_of g
  offset-renamed (c.type_field o n d) = refl
  offset-renamed _ = refl

  id-renamed : (g : Field) → (naming_of (ren g)).id ≡ option_map f (naming_of g).id
  id-renamed (c.type_field o n d) = refl
  id-renamed _ = refl

  -- items

  pub items-renamed : (s : Space) (gs : List Field) → items_in s (map ren gs) ≡ map ren (items_in s gs)
  items-renamed s [] = refl
  items-renamed s (g ∷ gs) = rw (declares-renamed g, items-renamed s gs) (go (is_space s (declares g)))
    where
      go : (b : Bool) → cond b (ren g ∷ map ren (items_in s gs)) (map ren (items_in s gs)) ≡ map ren (cond b (g ∷ items_in s gs) (items_in s gs))
      go true = refl
      go false = refl

  ids-of-items : (gs : List Field) → map (λ g. (naming_of g).id) (map ren gs) ≡ new (map (λ g. (naming_of g).id) gs)
  ids-of-items [] = refl
  ids-of-items (g ∷ gs) = rw (id-renamed g, ids-of-items gs) refl

  pub ids-renamed : (s : Space) (gs : List Field) → ids_in s (map ren gs) ≡ new (ids_in s gs)
  ids-renamed s gs = rw (items-renamed s gs) (ids-of-items (items_in s gs))

  place-renamed : (x : Id) (ids : List (Option Id)) → place_of (f x) (new ids) ≡ place_of x ids
  place-renamed x [] = refl
  place-renamed x (None ∷ ids) = rw (place-renamed x ids) refl
  place-renamed x (Some y ∷ ids) = rw (same x y, place-renamed x ids) refl

  pub meant-renamed : (ids : List (Option Id)) (i : Index) → meant (new ids) (renamed_index f i) ≡ meant ids i
  meant-renamed ids (c.number o n) = refl
  meant-renamed ids (c.named x) = place-renamed x ids

  -- types

  pub value-renamed : (ids : List (Option Id)) (v : CoreValue) → resolved_value (new ids) (renamed_value f v) ≡ resolved_value ids v
  value-renamed ids (core.ref_name b r x) = ap (reference_to b) (place-renamed x ids)
  value-renamed ids v = refl

  pub signature-renamed : (ids : List (Option Id)) (t : FunctionType) → signature_of (new ids) (renamed_type f t) ≡ signature_of ids t
  signature-renamed ids t =
      rw (
        map-over (renamed_local f) (λ p. resolved_value ids p.value) (λ p. resolved_value (new ids) p.value) (λ p. value-renamed ids p.value) t.params,
        map-over (renamed_value f) (resolved_value ids) (resolved_value (new ids)) (value-renamed ids) t.results,
      ) refl

  defined-renamed : (ids : List (Option Id)) (d : TypeDef) → defined (new ids) (renamed_def f d) ≡ defined ids d
  defined-renamed ids (c.function t) = ap Some (signature-renamed ids t)
  defined-renamed ids (c.other_type o) = refl

  written-renamed : (ids : List (Option Id)) (g : Field) → written_type (new ids) (ren g) ≡ written_type ids g
  written-renamed ids (c.type_field o n d) = defined-renamed ids d
  written-renamed ids _ = refl

  pub written_types-renamed : (gs : List Field) → written_types (map ren gs) ≡ written_types gs
  written_types-renamed gs =
      rw (ids-renamed CoreType gs, items-renamed CoreType gs) (map-over ren (written_type (ids_in CoreType gs)) (written_type (new (ids_in CoreType gs))) (written-renamed (ids_in CoreType gs)) (items_in CoreType gs))

  -- the rules

  any-renamed : (gs : List Field) → list_any is_definition (map ren gs) ≡ list_any is_definition gs
  any-renamed [] = refl
  any-renamed (g ∷ gs) = rw (definition-renamed g, any-renamed gs) refl

  late-renamed : (before : List Field) (g : Field) → late_import (map ren before) (ren g) ≡ late_import before g
  late-renamed before g = rw (import-renamed g, any-renamed before, offset-renamed g) refl

  repeated-renamed : (ids : List (Option Id)) (x : Option Id) → repeated (new ids) (option_map f x) ≡ repeated ids x
  repeated-renamed ids None = refl
  repeated-renamed ids (Some x) = rw (place-renamed x ids, keeps x) refl

  -- an id beside those of the fields before it
  again-renamed : (before : List Field) (s : Option Space) (x : Option Id) → repeated_in (map ren before) s (option_map f x) ≡ repeated_in before s x
  again-renamed before None x = refl
  again-renamed before (Some s) x = rw (ids-renamed s before) (repeated-renamed (ids_in s before) x)

  repeated_id-renamed : (before : List Field) (g : Field) → repeated_id (map ren before) (ren g) ≡ repeated_id before g
  repeated_id-renamed before g = rw (declares-renamed g, id-renamed g) (again-renamed before (declares g) (naming_of g).id)

  unknown-renamed : (ids : List (Option Id)) (i : Index) → unknown (new ids) (renamed_index f i) ≡ unknown ids i
  unknown-renamed ids (c.number o n) = refl
  unknown-renamed ids (c.named x) = rw (place-renamed x ids, keeps x) refl

  in_value-renamed : (ids : List (Option Id)) (v : CoreValue) → unknown_in_value (new ids) (renamed_value f v) ≡ unknown_in_value ids v
  in_value-renamed ids (core.ref_name b r x) = unknown-renamed ids (c.named x)
  in_value-renamed ids v = refl

  in_type-renamed : (ids : List (Option Id)) (t : FunctionType) → unknown_in_type (new ids) (renamed_type f t) ≡ unknown_in_type ids t
  in_type-renamed ids t =
      rw (
        map-over (renamed_local f) (λ p. unknown_in_value ids p.value) (λ p. unknown_in_value (new ids) p.value) (λ p. in_value-renamed ids p.value) t.params,
        map-over (renamed_value f) (unknown_in_value ids) (unknown_in_value (new ids)) (in_value-renamed ids) t.results,
      ) refl

  in_def-renamed : (ids : List (Option Id)) (d : TypeDef) → unknown_in_def (new ids) (renamed_def f d) ≡ unknown_in_def ids d
  in_def-renamed ids (c.function t) = in_type-renamed ids t
  in_def-renamed ids (c.other_type o) = refl

  pub local_ids-renamed : (ls : List Local) → ids_of (map (renamed_local f) ls) ≡ new (ids_of ls)
  local_ids-renamed [] = refl
  local_ids-renamed (l ∷ ls) = rw (local_ids-renamed ls) refl

  local-renamed : (ids : List (Option Id)) (before : List Local) (l : Local) → broken_local (new ids) (map (renamed_local f) before) (renamed_local f l) ≡ broken_local ids before l
  local-renamed ids before l = rw (in_value-renamed ids l.value, local_ids-renamed before, repeated-renamed (ids_of before) l.naming.id) refl

  index_offset-renamed : (i : Index) → offset_of_index (renamed_index f i) ≡ offset_of_index i
  index_offset-renamed (c.number o n) = refl
  index_offset-renamed (c.named x) = keeps x

  params-renamed : (t : Option FunctionType) → written_params (option_map (renamed_type f) t) ≡ map (renamed_local f) (written_params t)
  params-renamed None = refl
  params-renamed (Some t) = refl

  module _ (gs : List Field) where
    abbrev pub all : List Field
    all = map ren gs

    mismatch-renamed : (i : Option Index) (t : Option FunctionType) → mismatch all (option_map (renamed_index f) i) (option_map (renamed_type f) t) ≡ mismatch gs i t
    mismatch-renamed None t = refl
    mismatch-renamed (Some i) None = refl
    mismatch-renamed (Some i) (Some t) =
        rw (written_types-renamed gs, ids-renamed CoreType gs, meant-renamed (ids_in CoreType gs) i, signature-renamed (ids_in CoreType gs) t, index_offset-renamed i) refl

    option-renamed : (i : Option Index) → unknown_in_option all (option_map (renamed_index f) i) ≡ unknown_in_option gs i
    option-renamed None = refl
    option-renamed (Some i) = rw (ids-renamed CoreType gs) (unknown-renamed (ids_in CoreType gs) i)

    in_signature-renamed : (t : Option FunctionType) → unknown_in_signature all (option_map (renamed_type f) t) ≡ unknown_in_signature gs t
    in_signature-renamed None = refl
    in_signature-renamed (Some t) = rw (ids-renamed CoreType gs) (in_type-renamed (ids_in CoreType gs) t)

    use-renamed : (u : TypeUse) → broken_use all (renamed_use f u) ≡ broken_use gs u
    use-renamed u = rw (option-renamed u.index, in_signature-renamed u.signature, mismatch-renamed u.index u.signature) refl

    value_here-renamed : (v : CoreValue) → unknown_in_value (ids_in CoreType all) (renamed_value f v) ≡ unknown_in_value (ids_in CoreType gs) v
    value_here-renamed v = rw (ids-renamed CoreType gs) (in_value-renamed (ids_in CoreType gs) v)

    entity-renamed : (e : Entity) → broken_entity all (renamed_entity f e) ≡ broken_entity gs e
    entity-renamed (c.func u) = use-renamed u
    entity-renamed (c.table l v) = rw (value_here-renamed v) refl
    entity-renamed (c.memory l) = refl
    entity-renamed (c.global v m) = rw (value_here-renamed v) refl
    entity-renamed (c.other_entity o) = refl

    index-renamed : (s : Space) (i : Index) → unknown (ids_in s all) (renamed_index f i) ≡ unknown (ids_in s gs) i
    index-renamed s i = rw (ids-renamed s gs) (unknown-renamed (ids_in s gs) i)

    instruction-renamed : (ids : List (Option Id)) (i : Instruction) → unknown_in_instruction all (new ids) (renamed_instruction f i) ≡ unknown_in_instruction gs ids i
    instruction-renamed ids (c.call i) = index-renamed CoreFunc i
    instruction-renamed ids (c.local_get i) = unknown-renamed ids i
    instruction-renamed ids (c.local_set i) = unknown-renamed ids i
    instruction-renamed ids (c.local_tee i) = unknown-renamed ids i
    instruction-renamed ids (c.global_get i) = index-renamed CoreGlobal i
    instruction-renamed ids (c.global_set i) = index-renamed CoreGlobal i
    instruction-renamed ids c.nop = refl
    instruction-renamed ids _ = refl

    instructions-renamed : (ids : List (Option Id)) (is : List Instruction) → map (unknown_in_instruction all (new ids)) (map (renamed_instruction f) is) ≡ map (unknown_in_instruction gs ids) is
    instructions-renamed ids is = map-over (renamed_instruction f) (unknown_in_instruction gs ids) (unknown_in_instruction all (new ids)) (instruction-renamed ids) is

    variables-renamed : (t : Option FunctionType) (ls : List Local)
        → written_params (option_map (renamed_type f) t) ++ map (renamed_local f) ls ≡ map (renamed_local f) (written_params t ++ ls)
    variables-renamed t ls = rw (params-renamed t) (sym (map-append (renamed_local f) (written_params t) ls))

    locals-renamed : (ls : List Local) → each_behind (broken_local (ids_in CoreType all)) [] (map (renamed_local f) ls) ≡ each_behind (broken_local (ids_in CoreType gs)) [] ls
    locals-renamed ls = rw (ids-renamed CoreType gs)
        (each_behind-over (renamed_local f) (broken_local (ids_in CoreType gs)) (broken_local (new (ids_in CoreType gs))) (local-renamed (ids_in CoreType gs)) [] ls)

    function_locals-renamed : (t : Option FunctionType) (ls : List Local)
        → each_behind (broken_local (ids_in CoreType all)) [] (written_params (option_map (renamed_type f) t) ++ map (renamed_local f) ls) ≡ each_behind (broken_local (ids_in CoreType gs)) [] (written_params t ++ ls)
    function_locals-renamed t ls = rw (variables-renamed t ls) (locals-renamed (written_params t ++ ls))

    body-renamed : (t : Option FunctionType) (ls : List Local) (is : List Instruction)
        → map (unknown_in_instruction all (ids_of (written_params (option_map (renamed_type f) t) ++ map (renamed_local f) ls))) (map (renamed_instruction f) is)
        ≡ map (unknown_in_instruction gs (ids_of (written_params t ++ ls))) is
    body-renamed t ls is = rw (variables-renamed t ls, local_ids-renamed (written_params t ++ ls)) (instructions-renamed (ids_of (written_params t ++ ls)) is)

    parts-renamed : (g : Field) → broken_parts all (ren g) ≡ broken_parts gs g
    parts-renamed (c.type_field o n d) = rw (ids-renamed CoreType gs) (in_def-renamed (ids_in CoreType gs) d)
    parts-renamed (c.import_field o m x n e) = entity-renamed e
    parts-renamed (c.func_field o n i u ls is) =
        both (use-renamed u) (both (function_locals-renamed u.signature ls) (body-renamed u.signature ls is))
    parts-renamed (c.table_field o n i l v) = rw (value_here-renamed v) refl
    parts-renamed (c.memory_field o n i l) = refl
    parts-renamed (c.global_field o n i v m is) = rw (value_here-renamed v, instructions-renamed [] is) refl
    parts-renamed (c.export_field o x s i) = rw (index-renamed s i) refl
    parts-renamed (c.other_field o) = refl

  pub core_rule-renamed : (gs : List Field) → core_rule (map ren gs) ≡ core_rule gs
  core_rule-renamed gs =
      rw (
        each_behind-over ren late_import late_import late-renamed [] gs,
        each_behind-over ren repeated_id repeated_id repeated_id-renamed [] gs,
        flat_map-over ren (broken_parts gs) (broken_parts (map ren gs)) (parts-renamed gs) gs,
      ) refl
