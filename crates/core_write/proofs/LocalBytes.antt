-- The names within functions of resolved fields, with the count of the parameters of each type in place of all types.
use Rattle.std.proofs.Common.{◌≡◌, ℕ, ◌+◌, true, cond, List, [], ◌∷◌, ◌++◌, map, flat_map, length, slice_get, Option, Some, None, option_map, unwrap_or, refl, sym, ◌∙◌, ap, arith, append_assoc}
use Rattle.std.specs.List.{list_all}
use Rattle.std.proofs.lemmas.List.{length-map}
use Rattle.std.proofs.lemmas.Option.{slice_get-map}
use Rattle.comp_model.specs.declared.Space.TheVariants.{CoreFunc, CoreType}
use Rattle.comp_model.specs.Core.{Text, Id, CoreValue}
use Rattle.comp_model.specs.CoreModules as c
use Rattle.comp_model.specs.CoreModules.{Naming, Local, FunctionType, TypeUse, Field}
use Rattle.core_model.specs.Items.{is_space, declares, import_names, items_in, ids_in}
use Rattle.core_model.specs.Types.{Signature, written_type, written_types, all_types, nameless, params_of_type, params_by, type_of_use, locals_of}
use Rattle.core_model.specs.IsResolved.{use_resolved, field_resolved, are_resolved}
use Rattle.core_model.specs.NameSection.{name_of, named_at, names_from, locals_at, locals_named, local_names_from}
use Rattle.core_model.proofs.Lists.{map-append, flat_map-over}
use Rattle.core_model.proofs.ResolvedFields.{and-left, and-right}
use Rattle.core_write.specs.NamesWritten.{params_of_field, param_counts, first_behind, namings_of, written_namings, function_names, unless_named_import, local_items, local_items_from}
use Rattle.core_write.proofs.Same.{flat_map-filter, map-flat, all-filter, use-same}
use Rattle.core_write.proofs.SectionBytes.{types-written}

-- ---- how many parameters each type has

abbrev count_of : Option Signature → ℕ
count_of None = 0
count_of (Some s) = length s.params

module _ (ids : List (Option Id)) where
  count-one : (f : Field) → cond (is_space CoreType (declares f)) (count_of (written_type ids f) ∷ []) [] ≡ params_of_field f
  count-one (c.type_field o n (c.function t)) = ap (λ k. k ∷ []) (length-map t.params _)
  count-one (c.type_field o n (c.other_type p)) = refl
  count-one (c.import_field o m x n (c.func u)) = refl
  count-one (c.import_field o m x n (c.table l v)) = refl
  count-one (c.import_field o m x n (c.memory l)) = refl
  count-one (c.import_field o m x n (c.global v k)) = refl
  count-one (c.import_field o m x n (c.other_entity p)) = refl
  count-one (c.func_field o n i u ls is) = refl
  count-one (c.table_field o n i l v) = refl
  count-one (c.memory_field o n i l) = refl
  count-one (c.global_field o n i v m is) = refl
  count-one (c.export_field o x s i) = refl
  count-one (c.other_field o) = refl

each-same : {A B : Type 0} (g h : A → List B) → ((x : A) → g x ≡ h x) → (xs : List A) → flat_map g xs ≡ flat_map h xs
each-same g h e [] = refl
each-same g h e (x ∷ xs) = ap (λ r. r ++ flat_map g xs) (e x) ∙ ap (λ r. h x ++ r) (each-same g h e xs)

counts-same : (fs : List Field) → map count_of (written_types fs) ≡ param_counts fs
counts-same fs =
    map-flat count_of (written_types fs)
    ∙ flat_map-over (written_type (ids_in CoreType fs)) (λ f. count_of (written_type (ids_in CoreType fs) f) ∷ []) (λ t. count_of t ∷ []) (λ f. refl) (items_in CoreType fs)
    ∙ flat_map-filter (λ f. is_space CoreType (declares f)) (λ f. count_of (written_type (ids_in CoreType fs) f) ∷ []) fs
    ∙ each-same _ params_of_field (count-one (ids_in CoreType fs)) fs

-- ---- names behind others

names-behind : (i : ℕ) (ms ns : List Naming) → names_from i (ms ++ ns) ≡ names_from i ms ++ names_from (i + length ms) ns
names-behind i [] ns = let e : i ≡ i + 0 = omega arith in ap (λ k. names_from k ns) e
names-behind i (m ∷ ms) ns =
    let e : i + 1 + length ms ≡ i + length (m ∷ ms) = omega arith in
    ap (λ r. named_at i (name_of m) ++ r) (names-behind (i + 1) ms ns) ∙ sym (append_assoc (named_at i (name_of m)) (names_from (i + 1) ms) (names_from (i + 1 + length ms) ns))
    ∙ ap (λ k. (named_at i (name_of m) ++ names_from (i + 1) ms) ++ names_from k ns) e

-- parameters that only their type tells of have no names
none-named : (i : ℕ) (vs : List CoreValue) → names_from i (namings_of (map nameless vs)) ≡ []
none-named i [] = refl
none-named i (v ∷ vs) = none-named (i + 1) vs

behind-type : (t : Option (Option Signature)) (ls : List Local)
    → names_from 0 (namings_of (params_of_type t ++ ls)) ≡ names_from (unwrap_or (option_map count_of t) 0) (namings_of ls)
behind-type None ls = refl
behind-type (Some None) ls = refl
behind-type (Some (Some s)) ls =
    ap (names_from 0) (map-append (λ l. l.naming) (map nameless s.params) ls) ∙ names-behind 0 (namings_of (map nameless s.params)) (namings_of ls)
    ∙ ap (λ r. r ++ names_from (0 + length (namings_of (map nameless s.params))) (namings_of ls)) (none-named 0 s.params)
    ∙ ap (λ k. names_from k (namings_of ls)) (count s.params)
  where
    count : (vs : List CoreValue) → 0 + length (namings_of (map nameless vs)) ≡ length vs
    count vs = let e : length (namings_of (map nameless vs)) ≡ length vs = length-map (map nameless vs) (λ l. l.naming) ∙ length-map vs nameless in omega (arith, e)

module _ (fs : List Field) (resolved : are_resolved fs ≡ true) where
  count-at : (i : ℕ) → option_map count_of (slice_get (all_types fs) i) ≡ slice_get (param_counts fs) i
  count-at i = sym (slice_get-map count_of (all_types fs) i) ∙ ap (λ ts. slice_get (map count_of ts) i) (types-written fs resolved) ∙ ap (λ ns. slice_get ns i) (counts-same fs)

  within-same : (i : ℕ) (t : Option FunctionType) (ls : List Local)
      → names_from 0 (namings_of (params_by fs i t ++ ls)) ≡ names_from 0 (written_namings t) ++ names_from (first_behind (param_counts fs) i t) (namings_of ls)
  within-same i None ls = behind-type (slice_get (all_types fs) i) ls ∙ ap (λ n. names_from (unwrap_or n 0) (namings_of ls)) (count-at i)
  within-same i (Some t) ls =
      let e : 0 + length (namings_of t.params) ≡ length t.params = let d : length (namings_of t.params) ≡ length t.params = length-map t.params (λ l. l.naming) in omega (arith, d) in
      ap (names_from 0) (map-append (λ l. l.naming) t.params ls) ∙ names-behind 0 (namings_of t.params) (namings_of ls)
      ∙ ap (λ k. names_from 0 (namings_of t.params) ++ names_from k (namings_of ls)) e

  function-same : (u : TypeUse) (ls : List Local) → use_resolved u ≡ true → names_from 0 (map (λ x. x.naming) (locals_of fs u ls)) ≡ function_names (param_counts fs) u ls
  function-same u ls e = within-same (type_of_use fs u) u.signature ls ∙ ap (λ k. names_from 0 (written_namings u.signature) ++ names_from (first_behind (param_counts fs) k u.signature) (namings_of ls)) (use-same fs u e)

  local-one : (i : ℕ) (f : Field) → field_resolved f ≡ true → locals_named fs (import_names f) i f ≡ local_items (param_counts fs) i f
  local-one i (c.func_field o n l u ls is) e = go l.imported
    where
      go : (s : Option (Text × Text)) → locals_named fs s i (c.func_field o n l u ls is) ≡ unless_named_import s (locals_at i (function_names (param_counts fs) u ls))
      go None = ap (locals_at i) (function-same u ls (and-left (use_resolved u) _ e))
      go (Some p) = refl
  local-one i (c.type_field o n d) e = refl
  local-one i (c.import_field o m x n k) e = refl
  local-one i (c.table_field o n l k v) e = other l.imported
    where
      other : (s : Option (Text × Text)) → locals_named fs s i (c.table_field o n l k v) ≡ []
      other None = refl
      other (Some p) = refl
  local-one i (c.memory_field o n l k) e = other l.imported
    where
      other : (s : Option (Text × Text)) → locals_named fs s i (c.memory_field o n l k) ≡ []
      other None = refl
      other (Some p) = refl
  local-one i (c.global_field o n l v m is) e = other l.imported
    where
      other : (s : Option (Text × Text)) → locals_named fs s i (c.global_field o n l v m is) ≡ []
      other None = refl
      other (Some p) = refl
  local-one i (c.export_field o x s k) e = refl
  local-one i (c.other_field o) e = refl

  locals-along : (i : ℕ) (gs : List Field) → list_all field_resolved gs ≡ true → local_names_from fs i gs ≡ local_items_from (param_counts fs) i gs
  locals-along i [] e = refl
  locals-along i (g ∷ gs) e =
      ap (λ r. r ++ local_names_from fs (i + 1) gs) (local-one i g (and-left (field_resolved g) (list_all field_resolved gs) e))
      ∙ ap (λ r. local_items (param_counts fs) i g ++ r) (locals-along (i + 1) gs (and-right (field_resolved g) (list_all field_resolved gs) e))

  pub locals-same : local_names_from fs 0 (items_in CoreFunc fs) ≡ local_items_from (param_counts fs) 0 (items_in CoreFunc fs)
  locals-same = locals-along 0 (items_in CoreFunc fs) (all-filter field_resolved (λ f. is_space CoreFunc (declares f)) fs resolved)
