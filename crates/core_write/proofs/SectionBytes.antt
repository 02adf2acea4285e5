-- The items of each section of resolved fields, field by field.
use Rattle.std.proofs.Common.{◌≡◌, ℕ, Bool, true, false, cond, ◌&&◌, List, [], ◌∷◌, ◌++◌, map, flat_map, not, is_some, Option, Some, None, refl, sym, ◌∙◌, ap}
use Rattle.std.specs.List.{list_all}
use Rattle.comp_model.specs.declared.Space.{Space}
use Rattle.comp_model.specs.declared.Space.TheVariants.{CoreFunc, CoreTable, CoreMemory, CoreGlobal, CoreType}
use Rattle.comp_model.specs.Core.{Text}
use Rattle.comp_model.specs.Leb.{uleb}
use Rattle.comp_model.specs.Payloads.{framed}
use Rattle.comp_model.specs.CoreModules as c
use Rattle.comp_model.specs.CoreModules.{Local, TypeUse, Entity, Instruction, Field}
use Rattle.core_model.specs.Items.{is_space, declares, is_definition, items_in, ids_in}
use Rattle.core_model.specs.Types.{written_type, written_types, added_types, all_types, type_of_use, locals_of, ids_of}
use Rattle.core_model.specs.IsResolved.{value_resolved, use_resolved, instruction_resolved, field_resolved, are_resolved}
use Rattle.core_model.specs.Bytes.{counted, values, type_item, value, value_bytes, entity_bytes, limits_bytes, mutable_byte, runs, run_bytes, expression, import_by, import_item, function_item, table_item, memory_item, global_item, code_item, definitions_in}
use Rattle.core_model.proofs.Lists.{append-nil, flat_map-over}
use Rattle.core_model.proofs.ResolvedFields.{and-left, and-right}
use Rattle.core_model.proofs.ResolvedBytes.{added_types-new}
use Rattle.core_model.proofs.Stays.{resolved-stay}
use Rattle.core_write.specs.Written.{unless_imported, values_of, code_entry, type_items, function_items, table_items, memory_items, global_items, code_items}
use Rattle.core_write.proofs.Same.{map-same, flat_map-same, flat_map-filter, map-flat, def-same, use-same, value_bytes-same, value-same, entity-same, expression-same}

-- resolved fields need no further type
pub no-types-added : (fs : List Field) → are_resolved fs ≡ true → added_types fs ≡ []
no-types-added fs e = ap added_types (sym (resolved-stay fs e)) ∙ added_types-new fs

pub types-written : (fs : List Field) → are_resolved fs ≡ true → all_types fs ≡ written_types fs
types-written fs e = ap (λ ss. written_types fs ++ map Some ss) (no-types-added fs e) ∙ append-nil (written_types fs)

module _ (fs : List Field) where
  type-one : (f : Field) → field_resolved f ≡ true → cond (is_space CoreType (declares f)) (type_item (written_type (ids_in CoreType fs) f)) [] ≡ type_items f
  type-one (c.type_field o n d) e = ap type_item (def-same (ids_in CoreType fs) d e)
  type-one (c.import_field o m x n (c.func u)) e = refl
  type-one (c.import_field o m x n (c.table l v)) e = refl
  type-one (c.import_field o m x n (c.memory l)) e = refl
  type-one (c.import_field o m x n (c.global v k)) e = refl
  type-one (c.import_field o m x n (c.other_entity p)) e = refl
  type-one (c.func_field o n i u ls is) e = refl
  type-one (c.table_field o n i l v) e = refl
  type-one (c.memory_field o n i l) e = refl
  type-one (c.global_field o n i v m is) e = refl
  type-one (c.export_field o x s i) e = refl
  type-one (c.other_field o) e = refl

  pub types-same : are_resolved fs ≡ true → flat_map type_item (all_types fs) ≡ flat_map type_items fs
  types-same e =
      ap (flat_map type_item) (types-written fs e)
      ∙ flat_map-over (written_type (ids_in CoreType fs)) (λ f. type_item (written_type (ids_in CoreType fs) f)) type_item (λ f. refl) (items_in CoreType fs)
      ∙ flat_map-filter (λ f. is_space CoreType (declares f)) (λ f. type_item (written_type (ids_in CoreType fs) f)) fs
      ∙ flat_map-same field_resolved _ type_items type-one fs e

  imported-same : (s : Option (Text × Text)) (n : Entity) → entity_bytes fs n ≡ entity_bytes [] n → import_by fs s (Some n) ≡ import_by [] s (Some n)
  imported-same None n e = refl
  imported-same (Some p) n e = ap (λ r. (framed p.0 ++ (framed p.1 ++ r)) ∷ []) e

  import-one : (f : Field) → field_resolved f ≡ true → import_item fs f ≡ import_item [] f
  import-one (c.type_field o n d) e = refl
  import-one (c.import_field o m x n k) e = imported-same (Some (m, x)) k (entity-same fs k e)
  import-one (c.func_field o n i u ls is) e = imported-same i.imported (c.func u) (entity-same fs (c.func u) (and-left (use_resolved u) _ e))
  import-one (c.table_field o n i l v) e = imported-same i.imported (c.table l v) (entity-same fs (c.table l v) e)
  import-one (c.memory_field o n i l) e = imported-same i.imported (c.memory l) refl
  import-one (c.global_field o n i v m is) e = imported-same i.imported (c.global v m) (entity-same fs (c.global v m) (and-left (value_resolved v) _ e))
  import-one (c.export_field o x s i) e = refl
  import-one (c.other_field o) e = refl

  pub imports-same : are_resolved fs ≡ true → flat_map (import_item fs) fs ≡ flat_map (import_item []) fs
  imports-same e = flat_map-same field_resolved (import_item fs) (import_item []) import-one fs e

  -- what an item of a space gives that is defined
  abbrev defines : Space → (Field → List ℕ) → Field → List (List ℕ)
  defines s item f = cond (is_space s (declares f)) (cond (is_definition f) (item f ∷ []) []) []

  defined-items : (s : Space) (item : Field → List ℕ) → map item (definitions_in fs s) ≡ flat_map (defines s item) fs
  defined-items s item =
      map-flat item (definitions_in fs s) ∙ flat_map-filter is_definition (λ f. item f ∷ []) (items_in s fs)
      ∙ flat_map-filter (λ f. is_space s (declares f)) (λ f. cond (is_definition f) (item f ∷ []) []) fs

  unless-same : (s : Option (Text × Text)) (x y : List ℕ) → x ≡ y → cond (not (is_some s) && true) (x ∷ []) [] ≡ unless_imported s y
  unless-same None x y e = ap (λ z. z ∷ []) e
  unless-same (Some p) x y e = refl

  imported-none : (t : Bool) → cond {A = List (List ℕ)} t [] [] ≡ []
  imported-none true = refl
  imported-none false = refl

  function-one : (f : Field) → field_resolved f ≡ true → defines CoreFunc (function_item fs) f ≡ function_items f
  function-one (c.func_field o n i u ls is) e = unless-same i.imported (uleb (type_of_use fs u)) (uleb (type_of_use [] u)) (ap uleb (use-same fs u (and-left (use_resolved u) _ e)))
  function-one (c.import_field o m x n k) e = imported-none (is_space CoreFunc (declares (c.import_field o m x n k)))
  function-one (c.type_field o n d) e = refl
  function-one (c.table_field o n i l v) e = refl
  function-one (c.memory_field o n i l) e = refl
  function-one (c.global_field o n i v m is) e = refl
  function-one (c.export_field o x s i) e = refl
  function-one (c.other_field o) e = refl

  table-one : (f : Field) → field_resolved f ≡ true → defines CoreTable (table_item fs) f ≡ table_items f
  table-one (c.table_field o n i l v) e = unless-same i.imported (value_bytes fs v ++ limits_bytes l) (value_bytes [] v ++ limits_bytes l) (ap (λ r. r ++ limits_bytes l) (value_bytes-same fs v e))
  table-one (c.import_field o m x n k) e = imported-none (is_space CoreTable (declares (c.import_field o m x n k)))
  table-one (c.type_field o n d) e = refl
  table-one (c.func_field o n i u ls is) e = refl
  table-one (c.memory_field o n i l) e = refl
  table-one (c.global_field o n i v m is) e = refl
  table-one (c.export_field o x s i) e = refl
  table-one (c.other_field o) e = refl

  memory-one : (f : Field) → field_resolved f ≡ true → defines CoreMemory (memory_item fs) f ≡ memory_items f
  memory-one (c.memory_field o n i l) e = unless-same i.imported (limits_bytes l) (limits_bytes l) refl
  memory-one (c.import_field o m x n k) e = imported-none (is_space CoreMemory (declares (c.import_field o m x n k)))
  memory-one (c.type_field o n d) e = refl
  memory-one (c.func_field o n i u ls is) e = refl
  memory-one (c.table_field o n i l v) e = refl
  memory-one (c.global_field o n i v m is) e = refl
  memory-one (c.export_field o x s i) e = refl
  memory-one (c.other_field o) e = refl

  global-one : (f : Field) → field_resolved f ≡ true → defines CoreGlobal (global_item fs) f ≡ global_items f
  global-one (c.global_field o n i v m is) e =
      unless-same i.imported (value_bytes fs v ++ (mutable_byte m ∷ expression fs [] is)) (value_bytes [] v ++ (mutable_byte m ∷ expression [] [] is))
      (ap (λ r. r ++ (mutable_byte m ∷ expression fs [] is)) (value_bytes-same fs v (and-left (value_resolved v) (list_all instruction_resolved is) e))
      ∙ ap (λ r. value_bytes [] v ++ (mutable_byte m ∷ r)) (expression-same fs [] is (and-right (value_resolved v) (list_all instruction_resolved is) e)))
  global-one (c.import_field o m x n k) e = imported-none (is_space CoreGlobal (declares (c.import_field o m x n k)))
  global-one (c.type_field o n d) e = refl
  global-one (c.func_field o n i u ls is) e = refl
  global-one (c.table_field o n i l v) e = refl
  global-one (c.memory_field o n i l) e = refl
  global-one (c.export_field o x s i) e = refl
  global-one (c.other_field o) e = refl

  entry-same : (u : TypeUse) (ls : List Local) (is : List Instruction) → (list_all (λ l. value_resolved l.value) ls && list_all instruction_resolved is) ≡ true
      → counted (map run_bytes (runs (values (map (λ l. value fs l.value) ls)))) ++ expression fs (ids_of (locals_of fs u ls)) is ≡ code_entry ls is
  entry-same u ls is e =
      ap (λ vs. counted (map run_bytes (runs (values vs))) ++ expression fs (ids_of (locals_of fs u ls)) is)
      (map-same (λ l. value_resolved l.value) (λ l. value fs l.value) (λ l. value [] l.value) (λ l. value-same (ids_in CoreType fs) l.value) ls (and-left (list_all (λ l. value_resolved l.value) ls) (list_all instruction_resolved is) e))
      ∙ ap (λ r. counted (map run_bytes (runs (values_of ls))) ++ r) (expression-same fs (ids_of (locals_of fs u ls)) is (and-right (list_all (λ l. value_resolved l.value) ls) (list_all instruction_resolved is) e))

  code-one : (f : Field) → field_resolved f ≡ true → defines CoreFunc (code_item fs) f ≡ code_items f
  code-one (c.func_field o n i u ls is) e = unless-same i.imported _ (framed (code_entry ls is)) (ap framed (entry-same u ls is (and-right (use_resolved u) _ e)))
  code-one (c.import_field o m x n k) e = imported-none (is_space CoreFunc (declares (c.import_field o m x n k)))
  code-one (c.type_field o n d) e = refl
  code-one (c.table_field o n i l v) e = refl
  code-one (c.memory_field o n i l) e = refl
  code-one (c.global_field o n i v m is) e = refl
  code-one (c.export_field o x s i) e = refl
  code-one (c.other_field o) e = refl

  pub functions-same : are_resolved fs ≡ true → map (function_item fs) (definitions_in fs CoreFunc) ≡ flat_map function_items fs
  functions-same e = defined-items CoreFunc (function_item fs) ∙ flat_map-same field_resolved (defines CoreFunc (function_item fs)) function_items function-one fs e

  pub tables-same : are_resolved fs ≡ true → map (table_item fs) (definitions_in fs CoreTable) ≡ flat_map table_items fs
  tables-same e = defined-items CoreTable (table_item fs) ∙ flat_map-same field_resolved (defines CoreTable (table_item fs)) table_items table-one fs e

  pub memories-same : are_resolved fs ≡ true → map (memory_item fs) (definitions_in fs CoreMemory) ≡ flat_map memory_items fs
  memories-same e = defined-items CoreMemory (memory_item fs) ∙ flat_map-same field_resolved (defines CoreMemory (memory_item fs)) memory_items memory-one fs e

  pub globals-same : are_resolved fs ≡ true → map (global_item fs) (definitions_in fs CoreGlobal) ≡ flat_map global_items fs
  globals-same e = defined-items CoreGlobal (global_item fs) ∙ flat_map-same field_resolved (defines CoreGlobal (global_item fs)) global_items global-one fs e

  pub code-same : are_resolved fs ≡ true → map (code_item fs) (definitions_in fs CoreFunc) ≡ flat_map code_items fs
  code-same e = defined-items CoreFunc (code_item fs) ∙ flat_map-same field_resolved (defines CoreFunc (code_item fs)) code_items code-one fs e
