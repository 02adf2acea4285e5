-- Names that are registered field by field are those of the fields so far.
use Rattle.std.proofs.Common.{◌≡◌, ◌-◌, ◌^◌, ◌<◌, ◌≤◌, Bool, true, false, cond, Option, Some, None, List, [], ◌∷◌, ◌++◌, length, map, filter, refl, sym, ◌∙◌, ap, arith}
use Rattle.comp_model.specs.declared.Space.{Space}
use Rattle.comp_model.specs.declared.Space.TheVariants.{CoreFunc, CoreTable, CoreMemory, CoreGlobal, CoreType}
use Rattle.comp_model.specs.Core.{Id}
use Rattle.comp_model.specs.CoreModules as c
use Rattle.comp_model.specs.CoreModules.{Field}
use Rattle.core_model.specs.Items.{is_space, declares, naming_of, items_in, ids_in}
use Rattle.core_model.specs.Rule.{repeated, repeated_id}
use Rattle.core_model.proofs.Lists.{append-nil, map-append, filter-append}
use Rattle.core_names.specs.declared.module_names.ModuleNames.{ModuleNames}
use Rattle.core_names.specs.ModuleIds.{AreIdsOf}
use Rattle.core_checks.specs.Named.{with_item, repeated_at, HasRoom}

-- the ids of a space behind one more
module _ (before : List Field) (f : Field) where
  ids-more : (s : Space) → ids_in s (before ++ f ∷ []) ≡ ids_in s before ++ cond (is_space s (declares f)) ((naming_of f).id ∷ []) []
  ids-more s =
      ap (map (λ g. (naming_of g).id)) (filter-append (λ g. is_space s (declares g)) before (f ∷ []))
      ∙ map-append (λ g. (naming_of g).id) (items_in s before) (filter (λ g. is_space s (declares g)) (f ∷ []))
      ∙ ap (λ r. ids_in s before ++ r) (go (is_space s (declares f)))
    where
      go : (b : Bool) → map (λ g. (naming_of g).id) (cond b (f ∷ []) []) ≡ cond b ((naming_of f).id ∷ []) []
      go true = refl
      go false = refl

module _ (n : ModuleNames) (x : Option Id) where
  types-with : (d : Option Space) → (with_item n d x).types ≡ n.types ++ cond (is_space CoreType d) (x ∷ []) []
  types-with None = sym (append-nil n.types)
  types-with (Some CoreType) = refl
  types-with (Some CoreFunc) = sym (append-nil n.types)
  types-with (Some CoreTable) = sym (append-nil n.types)
  types-with (Some CoreMemory) = sym (append-nil n.types)
  types-with (Some CoreGlobal) = sym (append-nil n.types)
  types-with (Some _) = sym (append-nil n.types)

  funcs-with : (d : Option Space) → (with_item n d x).funcs ≡ n.funcs ++ cond (is_space CoreFunc d) (x ∷ []) []
  funcs-with None = sym (append-nil n.funcs)
  funcs-with (Some CoreType) = sym (append-nil n.funcs)
  funcs-with (Some CoreFunc) = refl
  funcs-with (Some CoreTable) = sym (append-nil n.funcs)
  funcs-with (Some CoreMemory) = sym (append-nil n.funcs)
  funcs-with (Some CoreGlobal) = sym (append-nil n.funcs)
  funcs-with (Some _) = sym (append-nil n.funcs)

  tables-with : (d : Option Space) → (with_item n d x).tables ≡ n.tables ++ cond (is_space CoreTable d) (x ∷ []) []
  tables-with None = sym (append-nil n.tables)
  tables-with (Some CoreType) = sym (append-nil n.tables)
  tables-with (Some CoreFunc) = sym (append-nil n.tables)
  tables-with (Some CoreTable) = refl
  tables-with (Some CoreMemory) = sym (append-nil n.tables)
  tables-with (Some CoreGlobal) = sym (append-nil n.tables)
  tables-with (Some _) = sym (append-nil n.tables)

  memories-with : (d : Option Space) → (with_item n d x).memories ≡ n.memories ++ cond (is_space CoreMemory d) (x ∷ []) []
  memories-with None = sym (append-nil n.memories)
  memories-with (Some CoreType) = sym (append-nil n.memories)
  memories-with (Some CoreFunc) = sym (append-nil n.memories)
  memories-with (Some CoreTable) = sym (append-nil n.memories)
  memories-with (Some CoreMemory) = refl
  memories-with (Some CoreGlobal) = sym (append-nil n.memories)
  memories-with (Some _) = sym (append-nil n.memories)

  globals-with : (d : Option Space) → (with_item n d x).globals ≡ n.globals ++ cond (is_space CoreGlobal d) (x ∷ []) []
  globals-with None = sym (append-nil n.globals)
  globals-with (Some CoreType) = sym (append-nil n.globals)
  globals-with (Some CoreFunc) = sym (append-nil n.globals)
  globals-with (Some CoreTable) = sym (append-nil n.globals)
  globals-with (Some CoreMemory) = sym (append-nil n.globals)
  globals-with (Some CoreGlobal) = refl
  globals-with (Some _) = sym (append-nil n.globals)

module _ (n : ModuleNames) (before : List Field) (h : AreIdsOf n before) where
  pub names-more : (f : Field) → AreIdsOf (with_item n (declares f) (naming_of f).id) (before ++ f ∷ [])
  names-more f = record {
    types = types-with n (naming_of f).id (declares f) ∙ ap (λ ids. ids ++ cond (is_space CoreType (declares f)) ((naming_of f).id ∷ []) []) h.types ∙ sym (ids-more before f CoreType);
    funcs = funcs-with n (naming_of f).id (declares f) ∙ ap (λ ids. ids ++ cond (is_space CoreFunc (declares f)) ((naming_of f).id ∷ []) []) h.funcs ∙ sym (ids-more before f CoreFunc);
    tables = tables-with n (naming_of f).id (declares f) ∙ ap (λ ids. ids ++ cond (is_space CoreTable (declares f)) ((naming_of f).id ∷ []) []) h.tables ∙ sym (ids-more before f CoreTable);
    memories = memories-with n (naming_of f).id (declares f) ∙ ap (λ ids. ids ++ cond (is_space CoreMemory (declares f)) ((naming_of f).id ∷ []) []) h.memories ∙ sym (ids-more before f CoreMemory);
    globals = globals-with n (naming_of f).id (declares f) ∙ ap (λ ids. ids ++ cond (is_space CoreGlobal (declares f)) ((naming_of f).id ∷ []) []) h.globals ∙ sym (ids-more before f CoreGlobal);
  }

  -- an id that an earlier field of the same space has
  pub repeated-same : (f : Field) → repeated_at n (declares f) (naming_of f).id ≡ repeated_id before f
  repeated-same (c.type_field o m d) = ap (λ ids. repeated ids m.id) h.types
  repeated-same (c.import_field o a b m (c.func u)) = ap (λ ids. repeated ids m.id) h.funcs
  repeated-same (c.import_field o a b m (c.table l v)) = ap (λ ids. repeated ids m.id) h.tables
  repeated-same (c.import_field o a b m (c.memory l)) = ap (λ ids. repeated ids m.id) h.memories
  repeated-same (c.import_field o a b m (c.global v k)) = ap (λ ids. repeated ids m.id) h.globals
  repeated-same (c.import_field o a b m (c.other_entity p)) = refl
  repeated-same (c.func_field o m i u ls is) = ap (λ ids. repeated ids m.id) h.funcs
  repeated-same (c.table_field o m i l v) = ap (λ ids. repeated ids m.id) h.tables
  repeated-same (c.memory_field o m i l) = ap (λ ids. repeated ids m.id) h.memories
  repeated-same (c.global_field o m i v k is) = ap (λ ids. repeated ids m.id) h.globals
  repeated-same (c.export_field o x s i) = refl
  repeated-same (c.other_field o) = refl

  few : (s : Space) (fs : List Field) → length (ids_in s fs) ≤ length fs
  few s [] = omega arith
  few s (f ∷ fs) = go (is_space s (declares f)) (few s fs)
    where
      go : (b : Bool) → length (ids_in s fs) ≤ length fs → length (map (λ g. (naming_of g).id) (cond b (f ∷ items_in s fs) (items_in s fs))) ≤ length (f ∷ fs)
      go true k = omega (arith, k)
      go false k = omega (arith, k)

  -- where there are few fields, each space takes one more
  pub room-left : length before < 2 ^ 32 - 1 → HasRoom n
  room-left k = record {
    types = omega (arith, ap length h.types, few CoreType before, k);
    funcs = omega (arith, ap length h.funcs, few CoreFunc before, k);
    tables = omega (arith, ap length h.tables, few CoreTable before, k);
    memories = omega (arith, ap length h.memories, few CoreMemory before, k);
    globals = omega (arith, ap length h.globals, few CoreGlobal before, k);
  }
