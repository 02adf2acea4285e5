-- The exports of resolved fields, with a count in place of the fields before.
use Rattle.std.proofs.Common.{◌≡◌, ℕ, ◌+◌, true, cond, List, [], ◌∷◌, ◌++◌, map, flat_map, length, Option, Some, None, refl, ◌∙◌, ap, arith}
use Rattle.std.specs.List.{list_all}
use Rattle.std.proofs.lemmas.List.{length-append}
use Rattle.comp_model.specs.declared.Space.{Space}
use Rattle.comp_model.specs.declared.Space.TheVariants.{CoreFunc, CoreTable, CoreMemory, CoreGlobal, CoreTag}
use Rattle.comp_model.specs.Core.{Text}
use Rattle.comp_model.specs.CoreModules as c
use Rattle.comp_model.specs.CoreModules.{Index, Field}
use Rattle.core_model.specs.Items.{is_space, declares, items_in, ids_in, each_behind}
use Rattle.core_model.specs.IsResolved.{is_number, field_resolved, are_resolved}
use Rattle.core_model.specs.Bytes.{export_item, exports_of}
use Rattle.core_model.proofs.Lists.{filter-append}
use Rattle.core_model.proofs.ResolvedFields.{and-left, and-right}
use Rattle.core_write.specs.declared.counts.Counts.{Counts}
use Rattle.core_write.specs.Exports.{counted_in, exports_at, exports_from, no_counts}
use Rattle.core_write.proofs.Same.{index-same}

-- a count for each space that can be exported
pub record Match (before : List Field) (n : Counts) : Type 0 where
  pub funcs : length (items_in CoreFunc before) ≡ n.funcs
  pub tables : length (items_in CoreTable before) ≡ n.tables
  pub memories : length (items_in CoreMemory before) ≡ n.memories
  pub globals : length (items_in CoreGlobal before) ≡ n.globals

-- one field more
module _ (before : List Field) (f : Field) where
  one-more : (s : Space) → length (items_in s (before ++ f ∷ [])) ≡ length (items_in s before) + length (cond (is_space s (declares f)) (f ∷ []) [])
  one-more s = ap length (filter-append (λ g. is_space s (declares g)) before (f ∷ [])) ∙ length-append (items_in s before) (cond (is_space s (declares f)) (f ∷ []) [])

  added-in : (d : Option Space) (n : Counts) → (length (items_in CoreFunc before) ≡ n.funcs) → length (items_in CoreFunc before) + length (cond (is_space CoreFunc d) (f ∷ []) []) ≡ (counted_in d n).funcs
  added-in None n e = omega (arith, e)
  added-in (Some CoreFunc) n e = omega (arith, e)
  added-in (Some CoreTable) n e = omega (arith, e)
  added-in (Some CoreMemory) n e = omega (arith, e)
  added-in (Some CoreGlobal) n e = omega (arith, e)
  added-in (Some _) n e = omega (arith, e)

  tables-in : (d : Option Space) (n : Counts) → (length (items_in CoreTable before) ≡ n.tables) → length (items_in CoreTable before) + length (cond (is_space CoreTable d) (f ∷ []) []) ≡ (counted_in d n).tables
  tables-in None n e = omega (arith, e)
  tables-in (Some CoreFunc) n e = omega (arith, e)
  tables-in (Some CoreTable) n e = omega (arith, e)
  tables-in (Some CoreMemory) n e = omega (arith, e)
  tables-in (Some CoreGlobal) n e = omega (arith, e)
  tables-in (Some _) n e = omega (arith, e)

  memories-in : (d : Option Space) (n : Counts) → (length (items_in CoreMemory before) ≡ n.memories) → length (items_in CoreMemory before) + length (cond (is_space CoreMemory d) (f ∷ []) []) ≡ (counted_in d n).memories
  memories-in None n e = omega (arith, e)
  memories-in (Some CoreFunc) n e = omega (arith, e)
  memories-in (Some CoreTable) n e = omega (arith, e)
  memories-in (Some CoreMemory) n e = omega (arith, e)
  memories-in (Some CoreGlobal) n e = omega (arith, e)
  memories-in (Some _) n e = omega (arith, e)

  globals-in : (d : Option Space) (n : Counts) → (length (items_in CoreGlobal before) ≡ n.globals) → length (items_in CoreGlobal before) + length (cond (is_space CoreGlobal d) (f ∷ []) []) ≡ (counted_in d n).globals
  globals-in None n e = omega (arith, e)
  globals-in (Some CoreFunc) n e = omega (arith, e)
  globals-in (Some CoreTable) n e = omega (arith, e)
  globals-in (Some CoreMemory) n e = omega (arith, e)
  globals-in (Some CoreGlobal) n e = omega (arith, e)
  globals-in (Some _) n e = omega (arith, e)

  match-more : (n : Counts) → Match before n → Match (before ++ f ∷ []) (counted_in (declares f) n)
  match-more n h = record {
    funcs = one-more CoreFunc ∙ added-in (declares f) n h.funcs;
    tables = one-more CoreTable ∙ tables-in (declares f) n h.tables;
    memories = one-more CoreMemory ∙ memories-in (declares f) n h.memories;
    globals = one-more CoreGlobal ∙ globals-in (declares f) n h.globals;
  }

module _ (fs : List Field) where
  written-one : (before : List Field) (n : Counts) (o : ℕ) (x : Text) (s : Space) (i : Index) → is_number i ≡ true → exports_of fs before (c.export_field o x s i) ≡ exports_at n (c.export_field o x s i)
  written-one before n o x CoreTag i e = refl
  written-one before n o x CoreFunc i e = ap (λ k. export_item [] CoreFunc k x ∷ []) (index-same (ids_in CoreFunc fs) i e)
  written-one before n o x s i e = ap (λ k. export_item [] s k x ∷ []) (index-same (ids_in s fs) i e)

  export-one : (before : List Field) (n : Counts) → Match before n → (f : Field) → field_resolved f ≡ true → exports_of fs before f ≡ exports_at n f
  export-one before n h (c.export_field o x s i) e = written-one before n o x s i e
  export-one before n h (c.func_field o m i u ls is) e = ap (λ k. map (export_item [] CoreFunc k) i.exports) h.funcs
  export-one before n h (c.table_field o m i l v) e = ap (λ k. map (export_item [] CoreTable k) i.exports) h.tables
  export-one before n h (c.memory_field o m i l) e = ap (λ k. map (export_item [] CoreMemory k) i.exports) h.memories
  export-one before n h (c.global_field o m i v b is) e = ap (λ k. map (export_item [] CoreGlobal k) i.exports) h.globals
  export-one before n h (c.type_field o m d) e = refl
  export-one before n h (c.import_field o m x k (c.func u)) e = refl
  export-one before n h (c.import_field o m x k (c.table l v)) e = refl
  export-one before n h (c.import_field o m x k (c.memory l)) e = refl
  export-one before n h (c.import_field o m x k (c.global v b)) e = refl
  export-one before n h (c.import_field o m x k (c.other_entity p)) e = refl
  export-one before n h (c.other_field o) e = refl

  exports-along : (before gs : List Field) (n : Counts) → Match before n → list_all field_resolved gs ≡ true → flat_map (λ xs. xs) (each_behind (exports_of fs) before gs) ≡ exports_from n gs
  exports-along before [] n h e = refl
  exports-along before (g ∷ gs) n h e =
      ap (λ r. r ++ flat_map (λ xs. xs) (each_behind (exports_of fs) (before ++ g ∷ []) gs)) (export-one before n h g (and-left (field_resolved g) (list_all field_resolved gs) e))
      ∙ ap (λ r. exports_at n g ++ r) (exports-along (before ++ g ∷ []) gs (counted_in (declares g) n) (match-more before g n h) (and-right (field_resolved g) (list_all field_resolved gs) e))

  pub exports-same : are_resolved fs ≡ true → flat_map (λ xs. xs) (each_behind (exports_of fs) [] fs) ≡ exports_from no_counts fs
  exports-same e = exports-along [] fs no_counts (record { funcs = refl; tables = refl; memories = refl; globals = refl }) e
