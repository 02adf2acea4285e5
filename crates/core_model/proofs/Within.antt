-- The bytes of a core module are at most eight times its weight.
use Rattle.std.proofs.Common.{◌≡◌, ℕ, suc, ◌+◌, ◌*◌, ◌<◌, ◌≤◌, ◌^◌, Bool, true, false, cond, List, [], ◌∷◌, ◌++◌, map, filter, flat_map, length, slice_get, Option, Some, None, refl, sym, ap, subst, arith, length-append}
use Rattle.std.proofs.lemmas.List.{length-map}
use Rattle.comp_model.specs.declared.Space.{Space}
use Rattle.comp_model.specs.declared.Space.TheVariants.{CoreFunc, CoreTable, CoreMemory, CoreGlobal, CoreTag, CoreType}
use Rattle.comp_model.specs.Core.{Text, Id, is_of_text, label_or_id, CoreValue}
use Rattle.comp_model.specs.Weight.{weight_of_all, weight_of_id, weight_of_label}
use Rattle.comp_model.specs.Leb.{uleb}
use Rattle.comp_model.specs.Payloads.{framed, core_sort_byte}
use Rattle.comp_wire.specs.Spelled.{core_bytes}
use Rattle.comp_wire.proofs.Numbers.{uleb_short}
use Rattle.comp_model.specs.CoreModules as c
use Rattle.comp_model.specs.CoreModules.{Index, Naming, Local, FunctionType, TypeDef, TypeUse, Entity, Instruction, Field, CoreModule}
use Rattle.core_model.specs.Items.{naming_of, inline_exports, import_names, is_definition, declares, is_space, items_in, ids_in, index_of, each_behind}
use Rattle.core_model.specs.Types.{Signature, resolved_value, signature_of, defined, written_signature, same_value, written_type, written_types, uses_of, needed_by, needed, added_types, all_types, nameless, params_of_type, params_by, type_of_use, locals_of, ids_of}
use Rattle.core_model.specs.Bytes as b
use Rattle.core_model.specs.Bytes.{counted, section, has_bytes, values, function_type_bytes, type_item, in_front, runs, run_bytes, value, value_bytes, entity_bytes, instruction_bytes, expression, import_by, import_item, function_item, table_item, memory_item, global_item, code_item, export_item, inline_export_items, exports_of, definitions_in, sections, module_bytes}
use Rattle.core_model.specs.NameSection.{name_of, named_at, names_from, names_in, locals_at, locals_named, local_names_from, module_name, section_name, custom, subsections, name_section}
use Rattle.core_model.specs.Module.{core_bytes as core_bytes_of, module_with}
use Rattle.core_model.specs.Weight.{weight_of_naming, weight_of_local, weight_of_def, weight_of_signature, weight_of_import, weight_of_field, module_weight}
use Rattle.core_model.proofs.Short.{ShortValues, ShortLocals, ShortDef, ShortSignature, ShortUse, ShortEntity, ShortBody, ShortField, EachShort, ShortParts}
use Rattle.core_model.proofs.Lists.{map-append, flat_map-append, Each, each-append, each-filter, length-filter}
use Rattle.core_model.proofs.Sums.{room, room-flat, room-map, sum-append, sum-filter, section-bound, counted-bound, framed-bound}
use Rattle.core_model.proofs.Counts.{added-sum, each-added}

-- values

bytes-of-six : (vs : List CoreValue) → Each (λ v. length (core_bytes v) ≤ 6) vs → room (map core_bytes (values vs)) ≤ 7 * length vs
bytes-of-six [] p = omega arith
bytes-of-six (v ∷ vs) p = go (has_bytes v) (bytes-of-six vs p.1) p.0
  where
    go : (t : Bool) → room (map core_bytes (values vs)) ≤ 7 * length vs → length (core_bytes v) ≤ 6 → room (map core_bytes (cond t (v ∷ values vs) (values vs))) ≤ 7 * suc (length vs)
    go true h q = omega (arith, h, q)
    go false h q = omega (arith, h)

abbrev type_room : Signature → ℕ
type_room s = 12 + 7 * (length s.params + length s.results)

abbrev Six : Signature → Type 0
Six s = Each (λ v. length (core_bytes v) ≤ 6) s.params × Each (λ v. length (core_bytes v) ≤ 6) s.results

type-bound : (s : Signature) → Six s → type_room s < 2 ^ 32 → 1 + length (function_type_bytes s) ≤ type_room s
type-bound s p h =
    let a = bytes-of-six s.params p.0 in
    let d = bytes-of-six s.results p.1 in
    let e = counted-bound (map core_bytes (values s.params)) (omega (arith, a, h)) in
    let g = counted-bound (map core_bytes (values s.results)) (omega (arith, d, h)) in
    let k = length-append (counted (map core_bytes (values s.params))) (counted (map core_bytes (values s.results))) in
    omega (arith, a, d, e, g, k)

-- runs of locals

abbrev RunIn : ℕ → (ℕ × CoreValue) → Type 0
RunIn n r = (r.0 ≤ n) × (length (core_bytes r.1) ≤ 6)

later-runs : (n : ℕ) (rs : List (ℕ × CoreValue)) → Each (RunIn n) rs → Each (RunIn (suc n)) rs
later-runs n [] p = tt
later-runs n (r ∷ rs) p = let h = p.0.0 in ((omega (arith, h), p.0.1), later-runs n rs p.1)

runs-in : (vs : List CoreValue) → Each (λ v. length (core_bytes v) ≤ 6) vs → Each (RunIn (length vs)) (runs vs) × (length (runs vs) ≤ length vs)
runs-in [] p = (tt, omega arith)
runs-in (v ∷ vs) p = go (runs vs) (runs-in vs p.1)
  where
    pick : (t : Bool) (r : ℕ × CoreValue) (rs : List (ℕ × CoreValue)) → Each (RunIn (length vs)) (r ∷ rs) → length (r ∷ rs) ≤ length vs
        → Each (RunIn (suc (length vs))) (cond t ((r.0 + 1, v) ∷ rs) ((1, v) ∷ r ∷ rs)) × (length (cond t ((r.0 + 1, v) ∷ rs) ((1, v) ∷ r ∷ rs)) ≤ suc (length vs))
    pick true r rs q l = let h = q.0.0 in (((omega (arith, h), p.0), later-runs (length vs) rs q.1), omega (arith, l))
    pick false r rs q l = (((omega arith, p.0), later-runs (length vs) (r ∷ rs) q), omega (arith, l))

    go : (rs : List (ℕ × CoreValue)) → Each (RunIn (length vs)) rs × (length rs ≤ length vs) → Each (RunIn (suc (length vs))) (in_front v rs) × (length (in_front v rs) ≤ suc (length vs))
    go [] q = (((omega arith, p.0), tt), omega arith)
    go (r ∷ rs) q = pick (same_value v r.1) r rs q.0 q.1

runs-room : (n : ℕ) (rs : List (ℕ × CoreValue)) → n < 2 ^ 32 → Each (RunIn n) rs → room (map run_bytes rs) ≤ 12 * length rs
runs-room n [] h p = omega arith
runs-room n (r ∷ rs) h p =
    let e = runs-room n rs h p.1 in
    let a = p.0.0 in
    let d = p.0.1 in
    let s = uleb_short r.0 (omega (arith, a, h)) in
    let k = length-append (uleb r.0) (core_bytes r.1) in
    omega (arith, e, d, s, k)

locals-room : (vs : List CoreValue) → length vs < 2 ^ 32 → Each (λ v. length (core_bytes v) ≤ 6) vs → room (map run_bytes (runs vs)) ≤ 12 * length vs
locals-room vs h p = let q = runs-in vs p in let e = runs-room (length vs) (runs vs) h q.0 in let l = q.1 in omega (arith, e, l)

-- names

abbrev name_cost : Option Text → ℕ
name_cost None = 0
name_cost (Some x) = 11 + length x

abbrev cost_of : Naming → ℕ
cost_of n = name_cost (name_of n)

named-bound : (i : ℕ) (o : Option Text) → i < 2 ^ 32 → name_cost o < 2 ^ 32 → room (named_at i o) ≤ name_cost o
named-bound i None h k = omega arith
named-bound i (Some x) h k =
    let a = uleb_short i h in
    let d = framed-bound x (omega (arith, k)) in
    let e = length-append (uleb i) (framed x) in
    omega (arith, a, d, e)

names-bound : (i : ℕ) (ns : List Naming) → i + length ns < 2 ^ 32 → weight_of_all cost_of ns < 2 ^ 32 → room (names_from i ns) ≤ weight_of_all cost_of ns
names-bound i [] h k = omega arith
names-bound i (n ∷ ns) h k =
    let a = named-bound i (name_of n) (omega (arith, h)) (omega (arith, k)) in
    let d = names-bound (i + 1) ns (omega (arith, h)) (omega (arith, k)) in
    let e = sum-append (λ x. 1 + length x) (named_at i (name_of n)) (names_from (i + 1) ns) in
    omega (arith, a, d, e)

cost-by : (t : Option Text) (x : Option Id) → name_cost (label_or_id t x) ≤ 11 + (weight_of_id x + weight_of_label t)
cost-by (Some t) x = omega arith
cost-by None None = omega arith
cost-by None (Some x) = elim (is_of_text x) as (λ b. name_cost (cond b (Some x.name) None) ≤ 11 + (weight_of_id (Some x) + weight_of_label None)) [ true ↦ omega arith | false ↦ omega arith ]

cost-bound : (n : Naming) → cost_of n ≤ 11 + weight_of_naming n
cost-bound n = cost-by n.label n.id

-- parameters and locals weigh 32 and more

locals-weigh : (ls : List Local) → 32 * length ls ≤ weight_of_all weight_of_local ls
locals-weigh [] = omega arith
locals-weigh (l ∷ ls) = let e = locals-weigh ls in omega (arith, e)

locals-cost : (ls : List Local) → weight_of_all cost_of (map (λ l. l.naming) ls) ≤ weight_of_all weight_of_local ls
locals-cost [] = omega arith
locals-cost (l ∷ ls) = let e = locals-cost ls in let d = cost-bound l.naming in omega (arith, e, d)

nameless-cost : (vs : List CoreValue) → weight_of_all cost_of (map (λ l. l.naming) (map nameless vs)) ≡ 0
nameless-cost [] = refl
nameless-cost (v ∷ vs) = let e = nameless-cost vs in omega (arith, e)

type-cost : (s : Option (Option Signature)) → weight_of_all cost_of (map (λ l. l.naming) (params_of_type s)) ≡ 0
type-cost None = refl
type-cost (Some None) = refl
type-cost (Some (Some s)) = nameless-cost s.params

exports-weigh : (xs : List Text) → weight_of_all (λ x. 12 + length x) xs ≤ weight_of_all (λ x. 32 + length x) xs
exports-weigh [] = omega arith
exports-weigh (x ∷ xs) = let e = exports-weigh xs in omega (arith, e)

module _ (fs : List Field) where
  abbrev type_ids : List (Option Id)
  type_ids = ids_in CoreType fs

  six-values : (vs : List CoreValue) → ShortValues fs vs → Each (λ v. length (core_bytes v) ≤ 6) (map (resolved_value type_ids) vs)
  six-values [] p = tt
  six-values (v ∷ vs) p = (p.0, six-values vs p.1)

  six-locals : (ls : List Local) → ShortLocals fs ls → Each (λ v. length (core_bytes v) ≤ 6) (map (λ l. resolved_value type_ids l.value) ls)
  six-locals [] p = tt
  six-locals (l ∷ ls) p = (p.0, six-locals ls p.1)

  six-signature : (t : Option FunctionType) → ShortSignature fs t → Six (written_signature type_ids t)
  six-signature None p = (tt, tt)
  six-signature (Some t) p = (six-locals t.params p.0, six-values t.results p.1)

  signature-weighs : (t : Option FunctionType) → type_room (written_signature type_ids t) ≤ 12 + weight_of_signature t
  signature-weighs None = omega arith
  signature-weighs (Some t) =
      let a = length-map t.params (λ p. resolved_value type_ids p.value) in
      let d = length-map t.results (resolved_value type_ids) in
      let e = locals-weigh t.params in
      omega (arith, a, d, e)

  needed-weighs : (i : Option Index) (t : Option FunctionType) → weight_of_all type_room (needed_by type_ids i t) ≤ 12 + weight_of_signature t
  needed-weighs None t = let e = signature-weighs t in omega (arith, e)
  needed-weighs (Some i) t = omega arith

  entity-bound : (e : Entity) → ShortEntity fs e → length (entity_bytes fs e) ≤ 18
  entity-bound (c.func u) p = let h = p.0 in omega (arith, h)
  entity-bound (c.table l v) p = let h = p.0 in let k = p.1 in let d = length-append (value_bytes fs v) (b.limits_bytes l) in omega (arith, h, k, d)
  entity-bound (c.memory l) p = omega (arith, p)
  entity-bound (c.global v m) p = let d = length-append (value_bytes fs v) (b.mutable_byte m ∷ []) in omega (arith, p, d)
  entity-bound (c.other_entity o) p = omega arith

  import-bound : (p : Option (Text × Text)) (e : Entity) → ShortEntity fs e → weight_of_import p < 2 ^ 32 → room (import_by fs p (Some e)) ≤ 29 + weight_of_import p
  import-bound None e q h = omega arith
  import-bound (Some p) e q h =
      let a = entity-bound e q in
      let m = framed-bound p.0 (omega (arith, h)) in
      let x = framed-bound p.1 (omega (arith, h)) in
      let d = length-append (framed p.1) (entity_bytes fs e) in
      let k = length-append (framed p.0) (framed p.1 ++ entity_bytes fs e) in
      omega (arith, a, m, x, d, k)

  body-bound : (ids : List (Option Id)) (is : List Instruction) → ShortBody fs ids is → length (flat_map (instruction_bytes fs ids) is) ≤ 11 * length is
  body-bound ids [] p = omega arith
  body-bound ids (i ∷ is) p =
      let e = body-bound ids is p.1 in
      let h = p.0 in
      let d = length-append (instruction_bytes fs ids i) (flat_map (instruction_bytes fs ids) is) in
      omega (arith, e, h, d)

  expression-bound : (ids : List (Option Id)) (is : List Instruction) → ShortBody fs ids is → length (expression fs ids is) ≤ 11 * length is + 1
  expression-bound ids is p = let e = body-bound ids is p in let d = length-append (flat_map (instruction_bytes fs ids) is) (0x0b ∷ []) in omega (arith, e, d)

  with-bytes : (vs : List CoreValue) → Each (λ v. length (core_bytes v) ≤ 6) vs → Each (λ v. length (core_bytes v) ≤ 6) (values vs) × (length (values vs) ≤ length vs)
  with-bytes [] p = (tt, omega arith)
  with-bytes (v ∷ vs) p = go (has_bytes v) (with-bytes vs p.1)
    where
      go : (t : Bool) → Each (λ w. length (core_bytes w) ≤ 6) (values vs) × (length (values vs) ≤ length vs)
          → Each (λ w. length (core_bytes w) ≤ 6) (cond t (v ∷ values vs) (values vs)) × (length (cond t (v ∷ values vs) (values vs)) ≤ suc (length vs))
      go true q = let h = q.1 in ((p.0, q.0), omega (arith, h))
      go false q = let h = q.1 in (q.0, omega (arith, h))

  code-bound : (ids : List (Option Id)) (ls : List Local) (is : List Instruction) → ShortLocals fs ls → ShortBody fs ids is → 12 * length ls + 11 * length is + 11 < 2 ^ 32
      → 1 + length (framed (counted (map run_bytes (runs (values (map (λ l. value fs l.value) ls)))) ++ expression fs ids is)) ≤ 12 * length ls + 11 * length is + 12
  code-bound ids ls is p q h =
      let vs : List CoreValue = map (λ l. value fs l.value) ls in
      let w = with-bytes vs (six-locals ls p) in
      let n = w.1 in
      let m = length-map ls (λ l. value fs l.value) in
      let r = locals-room (values vs) (omega (arith, n, m, h)) w.0 in
      let k = counted-bound (map run_bytes (runs (values vs))) (omega (arith, r, n, m, h)) in
      let e = expression-bound ids is q in
      let d = length-append (counted (map run_bytes (runs (values vs)))) (expression fs ids is) in
      let g = framed-bound (counted (map run_bytes (runs (values vs))) ++ expression fs ids is) (omega (arith, r, n, m, h, k, e, d)) in
      omega (arith, r, n, m, h, k, e, d, g)

  abbrev Ready : Field → Type 0
  Ready f = ShortField fs f × (8 * weight_of_field f < 2 ^ 32)

  -- types

  abbrev wt : Field → ℕ
  wt f = room (flat_map type_item (written_type type_ids f ∷ []))

  abbrev nt : Field → ℕ
  nt f = weight_of_all type_room (flat_map (needed type_ids) (uses_of f))

  abbrev Bounded : Signature → Type 0
  Bounded s = 1 + length (function_type_bytes s) ≤ type_room s

  written-sum : (gs : List Field) → room (flat_map type_item (map (written_type type_ids) gs)) ≡ weight_of_all wt gs
  written-sum [] = refl
  written-sum (g ∷ gs) =
      let e = written-sum gs in
      let d = sum-append (λ i. 1 + length i) (type_item (written_type type_ids g)) (flat_map type_item (map (written_type type_ids) gs)) in
      let k = sum-append (λ i. 1 + length i) (type_item (written_type type_ids g)) [] in
      omega (arith, e, d, k)

  bounded-room : (ss : List Signature) → Each Bounded ss → room (flat_map type_item (map Some ss)) ≤ weight_of_all type_room ss
  bounded-room [] p = omega arith
  bounded-room (s ∷ ss) p = let e = bounded-room ss p.1 in let h = p.0 in omega (arith, e, h)

  needed-bounded : (i : Option Index) (t : Option FunctionType) → ShortSignature fs t → 12 + weight_of_signature t < 2 ^ 32 → Each Bounded (needed_by type_ids i t)
  needed-bounded None t p h = let e = signature-weighs t in (type-bound (written_signature type_ids t) (six-signature t p) (omega (arith, e, h)), tt)
  needed-bounded (Some i) t p h = tt

  use-bounded : (u : TypeUse) → ShortUse fs u → 12 + weight_of_signature u.signature < 2 ^ 32 → Each Bounded (flat_map (needed type_ids) (u ∷ []))
  use-bounded u p h = each-append Bounded (needed type_ids u) [] (needed-bounded u.index u.signature p.1 h) tt

  field-bounded : (g : Field) → Ready g → Each Bounded (flat_map (needed type_ids) (uses_of g))
  field-bounded (c.import_field o m x n (c.func u)) p = let h = p.1 in use-bounded u p.0 (omega (arith, h))
  field-bounded (c.import_field o m x n (c.table l v)) p = tt
  field-bounded (c.import_field o m x n _) p = tt
  field-bounded (c.func_field o n i u ls is) p = let h = p.1 in use-bounded u p.0.0 (omega (arith, h))
  field-bounded _ p = tt

  needs-bounded : (gs : List Field) → Each Ready gs → Each Bounded (flat_map (needed type_ids) (flat_map uses_of gs))
  needs-bounded [] p = tt
  needs-bounded (g ∷ gs) p = subst (Each Bounded) (sym (flat_map-append (needed type_ids) (uses_of g) (flat_map uses_of gs)))
      (each-append Bounded (flat_map (needed type_ids) (uses_of g)) (flat_map (needed type_ids) (flat_map uses_of gs)) (field-bounded g p.0) (needs-bounded gs p.1))

  needs-sum : (gs : List Field) → weight_of_all type_room (flat_map (needed type_ids) (flat_map uses_of gs)) ≡ weight_of_all nt gs
  needs-sum [] = refl
  needs-sum (g ∷ gs) =
      let e = needs-sum gs in
      let a = ap (weight_of_all type_room) (flat_map-append (needed type_ids) (uses_of g) (flat_map uses_of gs)) in
      let d = sum-append type_room (flat_map (needed type_ids) (uses_of g)) (flat_map (needed type_ids) (flat_map uses_of gs)) in
      omega (arith, e, a, d)

  types-room : Each Ready fs → room (flat_map type_item (all_types fs)) ≤ weight_of_all wt fs + weight_of_all nt fs
  types-room p =
      let a = ap room (flat_map-append type_item (written_types fs) (map Some (added_types fs))) in
      let d = sum-append (λ i. 1 + length i) (flat_map type_item (written_types fs)) (flat_map type_item (map Some (added_types fs))) in
      let e = written-sum (items_in CoreType fs) in
      let f = sum-filter wt (λ g. is_space CoreType (declares g)) fs in
      let ss : List Signature = flat_map (needed type_ids) (flat_map uses_of fs) in
      let g = bounded-room (added_types fs) (each-added Bounded (written_types fs) ss (needs-bounded fs p)) in
      let h = added-sum type_room (written_types fs) ss in
      let k = needs-sum fs in
      omega (arith, a, d, e, f, g, h, k)

  -- exports

  abbrev ex : Field → ℕ
  ex (c.export_field o x s i) = 12 + length x
  ex f = weight_of_all (λ x. 12 + length x) (inline_exports f)

  export-bound : (s : Space) (i : ℕ) (x : Text) → length (uleb i) ≤ 5 → length x < 2 ^ 32 → 1 + length (export_item fs s i x) ≤ 12 + length x
  export-bound s i x h k = let a = framed-bound x k in let d = length-append (framed x) (core_sort_byte s ∷ uleb i) in omega (arith, h, a, d)

  exports-bound : (s : Space) (i : ℕ) (xs : List Text) → length (uleb i) ≤ 5 → weight_of_all (λ x. 12 + length x) xs < 2 ^ 32 → room (map (export_item fs s i) xs) ≤ weight_of_all (λ x. 12 + length x) xs
  exports-bound s i [] h k = omega arith
  exports-bound s i (x ∷ xs) h k =
      let e = exports-bound s i xs h (omega (arith, k)) in
      let d = export-bound s i x h (omega (arith, k)) in
      omega (arith, e, d)

  inline-bound : (before : List Field) (s : Option Space) (xs : List Text) → length before < 2 ^ 32 → weight_of_all (λ x. 12 + length x) xs < 2 ^ 32
      → room (inline_export_items fs before s xs) ≤ weight_of_all (λ x. 12 + length x) xs
  inline-bound before None xs h k = omega arith
  inline-bound before (Some s) xs h k =
      let e = length-filter (λ f. is_space s (declares f)) before in
      exports-bound s (length (items_in s before)) xs (uleb_short (length (items_in s before)) (omega (arith, e, h))) k

  one-export : (s : Space) (i : ℕ) (x : Text) → length (uleb i) ≤ 5 → length x < 2 ^ 32 → room (export_item fs s i x ∷ []) ≤ 12 + length x
  one-export s i x h k = let e = export-bound s i x h k in omega (arith, e)

  field-exports : (before : List Field) (g : Field) → length before < 2 ^ 32 → Ready g → ex g < 2 ^ 32 → room (exports_of fs before g) ≤ ex g
  field-exports before (c.export_field o x CoreTag i) h p k = omega arith
  field-exports before (c.export_field o x CoreFunc i) h p k = one-export CoreFunc (index_of (ids_in CoreFunc fs) i) x p.0 (omega (arith, k))
  field-exports before (c.export_field o x s i) h p k = one-export s (index_of (ids_in s fs) i) x p.0 (omega (arith, k))
  field-exports before (c.import_field o m x n e) h p k = inline-bound before (declares (c.import_field o m x n e)) [] h k
  field-exports before (c.type_field o n d) h p k = omega arith
  field-exports before (c.func_field o n i u ls is) h p k = inline-bound before (Some CoreFunc) i.exports h k
  field-exports before (c.table_field o n i l v) h p k = inline-bound before (Some CoreTable) i.exports h k
  field-exports before (c.memory_field o n i l) h p k = inline-bound before (Some CoreMemory) i.exports h k
  field-exports before (c.global_field o n i v m is) h p k = inline-bound before (Some CoreGlobal) i.exports h k
  field-exports before (c.other_field o) h p k = omega arith

  exports-room : (before gs : List Field) → length before + length gs < 2 ^ 32 → Each Ready gs → weight_of_all ex gs < 2 ^ 32 → room (flat_map (λ xs. xs) (each_behind (exports_of fs) before gs)) ≤ weight_of_all ex gs
  exports-room before [] h p k = omega arith
  exports-room before (g ∷ gs) h p k =
      let n = length-append before (g ∷ []) in
      let e = exports-room (before ++ g ∷ []) gs (omega (arith, h, n)) p.1 (omega (arith, k)) in
      let d = field-exports before g (omega (arith, h)) p.0 (omega (arith, k)) in
      let a = sum-append (λ x. 1 + length x) (exports_of fs before g) (flat_map (λ xs. xs) (each_behind (exports_of fs) (before ++ g ∷ []) gs)) in
      omega (arith, e, d, a)

  -- names

  abbrev na : Field → ℕ
  na f = 11 + weight_of_naming (naming_of f)

  namings-cost : (gs : List Field) → weight_of_all cost_of (map naming_of gs) ≤ weight_of_all na gs
  namings-cost [] = omega arith
  namings-cost (g ∷ gs) = let e = namings-cost gs in let d = cost-bound (naming_of g) in omega (arith, e, d)

  names-room : (s : Space) → length fs < 2 ^ 32 → weight_of_all na fs < 2 ^ 32 → room (names_in s fs) ≤ weight_of_all na fs
  names-room s h k =
      let a = namings-cost (items_in s fs) in
      let d = sum-filter na (λ f. is_space s (declares f)) fs in
      let l = length-map (items_in s fs) naming_of in
      let n = length-filter (λ f. is_space s (declares f)) fs in
      let e = names-bound 0 (map naming_of (items_in s fs)) (omega (arith, h, l, n)) (omega (arith, k, a, d)) in
      omega (arith, a, d, e)

  abbrev lo : Field → ℕ
  lo (c.func_field o n i u ls is) = 11 + weight_of_signature u.signature + weight_of_all weight_of_local ls
  lo f = 0

  params-cost : (i : ℕ) (t : Option FunctionType) → weight_of_all cost_of (map (λ l. l.naming) (params_by fs i t)) ≤ weight_of_signature t
  params-cost i (Some t) = let e = locals-cost t.params in omega (arith, e)
  params-cost i None = let e = type-cost (slice_get (all_types fs) i) in omega (arith, e)

  all-locals-cost : (u : TypeUse) (ls : List Local) → weight_of_all cost_of (map (λ l. l.naming) (locals_of fs u ls)) ≤ weight_of_signature u.signature + weight_of_all weight_of_local ls
  all-locals-cost u ls =
      let ps : List Local = params_by fs (type_of_use fs u) u.signature in
      let a = ap (weight_of_all cost_of) (map-append (λ l. l.naming) ps ls) in
      let d = sum-append cost_of (map (λ l. l.naming) ps) (map (λ l. l.naming) ls) in
      let e = params-cost (type_of_use fs u) u.signature in
      let g = locals-cost ls in
      omega (arith, a, d, e, g)

  at-bound : (i : ℕ) (ns : List (List ℕ)) → i < 2 ^ 32 → room ns < 2 ^ 32 → room (locals_at i ns) ≤ 11 + room ns
  at-bound i [] h k = omega arith
  at-bound i (n ∷ ns) h k =
      let a = uleb_short i h in
      let d = counted-bound (n ∷ ns) k in
      let e = length-append (uleb i) (counted (n ∷ ns)) in
      omega (arith, a, d, e)

  function-locals : (p : Option (Text × Text)) (i : ℕ) (g : Field) → i < 2 ^ 32 → Ready g → lo g < 2 ^ 32 → room (locals_named fs p i g) ≤ lo g
  function-locals None i (c.func_field o n l u ls is) h p k =
      let ns : List Naming = map (λ x. x.naming) (locals_of fs u ls) in
      let q = p.0.3 in
      let m = length-map (locals_of fs u ls) (λ x. x.naming) in
      let a = all-locals-cost u ls in
      let d = names-bound 0 ns (omega (arith, q, m)) (omega (arith, a, k)) in
      let e = at-bound i (names_from 0 ns) h (omega (arith, a, d, k)) in
      omega (arith, a, d, e)
  function-locals None i (c.type_field o n d) h p k = omega arith
  function-locals None i _ h p k = omega arith
  function-locals (Some q) i g h p k = omega arith

  local-names-room : (i : ℕ) (gs : List Field) → i + length gs < 2 ^ 32 → Each Ready gs → weight_of_all lo gs < 2 ^ 32 → room (local_names_from fs i gs) ≤ weight_of_all lo gs
  local-names-room i [] h p k = omega arith
  local-names-room i (g ∷ gs) h p k =
      let e = local-names-room (i + 1) gs (omega (arith, h)) p.1 (omega (arith, k)) in
      let d = function-locals (import_names g) i g (omega (arith, h)) p.0 (omega (arith, k)) in
      let a = sum-append (λ x. 1 + length x) (locals_named fs (import_names g) i g) (local_names_from fs (i + 1) gs) in
      omega (arith, e, d, a)

  -- one field

  abbrev im : Field → ℕ
  im f = room (import_item fs f)

  abbrev fn : Field → ℕ
  fn f = 1 + length (function_item fs f)

  abbrev tb : Field → ℕ
  tb f = 1 + length (table_item fs f)

  abbrev me : Field → ℕ
  me f = 1 + length (memory_item fs f)

  abbrev gl : Field → ℕ
  gl f = 1 + length (global_item fs f)

  abbrev co : Field → ℕ
  co f = 1 + length (code_item fs f)

  abbrev total : Field → ℕ
  total f = wt f + nt f + im f + fn f + tb f + me f + gl f + ex f + co f + 5 * na f + lo f

  def-bound : (d : TypeDef) → ShortDef fs d → weight_of_def d + 12 < 2 ^ 32 → room (flat_map type_item (defined type_ids d ∷ [])) ≤ 13 + weight_of_def d
  def-bound (c.function t) p h = let e = signature-weighs (Some t) in let d = type-bound (signature_of type_ids t) (six-signature (Some t) p) (omega (arith, e, h)) in omega (arith, e, d)
  def-bound (c.other_type o) p h = omega arith

  use-needs : (u : TypeUse) → weight_of_all type_room (flat_map (needed type_ids) (u ∷ [])) ≤ 12 + weight_of_signature u.signature
  use-needs u = let e = needed-weighs u.index u.signature in let d = sum-append type_room (needed type_ids u) [] in omega (arith, e, d)

  field-total : (f : Field) → Ready f → total f ≤ 8 * weight_of_field f
  field-total (c.type_field o n d) p = let h = p.1 in let e = def-bound d p.0 (omega (arith, h)) in omega (arith, e)
  field-total (c.import_field o m x n (c.func u)) p =
      let h = p.1 in
      let e = use-needs u in
      let a = import-bound (Some (m, x)) (c.func u) p.0 (omega (arith, h)) in
      omega (arith, e, a)
  field-total (c.import_field o m x n (c.table l v)) p = let h = p.1 in let a = import-bound (Some (m, x)) (c.table l v) p.0 (omega (arith, h)) in omega (arith, a)
  field-total (c.import_field o m x n (c.memory l)) p = let h = p.1 in let a = import-bound (Some (m, x)) (c.memory l) p.0 (omega (arith, h)) in omega (arith, a)
  field-total (c.import_field o m x n (c.global v b)) p = let h = p.1 in let a = import-bound (Some (m, x)) (c.global v b) p.0 (omega (arith, h)) in omega (arith, a)
  field-total (c.import_field o m x n (c.other_entity k)) p = let h = p.1 in let a = import-bound (Some (m, x)) (c.other_entity k) p.0 (omega (arith, h)) in omega (arith, a)
  field-total (c.func_field o n i u ls is) p =
      let h = p.1 in
      let e = use-needs u in
      let a = import-bound i.imported (c.func u) p.0.0 (omega (arith, h)) in
      let q = p.0.0.0 in
      let w = locals-weigh ls in
      let k = code-bound (ids_of (locals_of fs u ls)) ls is p.0.1 p.0.2 (omega (arith, h, w)) in
      let x = exports-weigh i.exports in
      omega (arith, e, a, q, w, k, x)
  field-total (c.table_field o n i l v) p =
      let h = p.1 in
      let a = import-bound i.imported (c.table l v) p.0 (omega (arith, h)) in
      let q = p.0.0 in
      let r = p.0.1 in
      let d = length-append (value_bytes fs v) (b.limits_bytes l) in
      let x = exports-weigh i.exports in
      omega (arith, a, q, r, d, x)
  field-total (c.memory_field o n i l) p =
      let h = p.1 in
      let a = import-bound i.imported (c.memory l) p.0 (omega (arith, h)) in
      let q = p.0 in
      let x = exports-weigh i.exports in
      omega (arith, a, q, x)
  field-total (c.global_field o n i v m is) p =
      let h = p.1 in
      let a = import-bound i.imported (c.global v m) p.0.0 (omega (arith, h)) in
      let q = p.0.0 in
      let e = expression-bound [] is p.0.1 in
      let d = length-append (value_bytes fs v) (b.mutable_byte m ∷ expression fs [] is) in
      let x = exports-weigh i.exports in
      omega (arith, a, q, e, d, x)
  field-total (c.export_field o x s i) p = omega arith
  field-total (c.other_field o) p = omega arith

  all-total : (gs : List Field) → Each Ready gs
      → weight_of_all wt gs + weight_of_all nt gs + weight_of_all im gs + weight_of_all fn gs + weight_of_all tb gs + weight_of_all me gs + weight_of_all gl gs + weight_of_all ex gs + weight_of_all co gs + 5 * weight_of_all na gs + weight_of_all lo gs
      ≤ 8 * weight_of_all weight_of_field gs
  all-total [] p = omega arith
  all-total (g ∷ gs) p = let e = all-total gs p.1 in let d = field-total g p.0 in omega (arith, e, d)

  each-ready : (gs : List Field) → EachShort fs gs → 8 * weight_of_all weight_of_field gs < 2 ^ 32 → Each Ready gs
  each-ready [] p h = tt
  each-ready (g ∷ gs) p h = ((p.0, omega (arith, h)), each-ready gs p.1 (omega (arith, h)))

  fields-weigh : (gs : List Field) → Each Ready gs → length gs ≤ weight_of_all fn gs
  fields-weigh [] p = omega arith
  fields-weigh (g ∷ gs) p = let e = fields-weigh gs p.1 in omega (arith, e)

  -- a section of one item for each definition
  defined-room : (s : Space) (k : Field → List ℕ) → room (map k (filter is_definition (items_in s fs))) ≤ weight_of_all (λ f. 1 + length (k f)) fs
  defined-room s k =
      let a = room-map k (filter is_definition (items_in s fs)) in
      let d = sum-filter (λ f. 1 + length (k f)) is_definition (items_in s fs) in
      let e = sum-filter (λ f. 1 + length (k f)) (λ f. is_space s (declares f)) fs in
      omega (arith, a, d, e)

  abbrev all : ℕ
  all = weight_of_all wt fs + weight_of_all nt fs + weight_of_all im fs + weight_of_all fn fs + weight_of_all tb fs + weight_of_all me fs + weight_of_all gl fs + weight_of_all ex fs + weight_of_all co fs

  sections-bound : Each Ready fs → 8 * weight_of_all weight_of_field fs + 5 < 2 ^ 32 → length (sections fs) ≤ all + 88
  sections-bound p h =
      let t = all-total fs p in
      let n = fields-weigh fs p in
      let s1 : List ℕ = section 0x01 (flat_map type_item (all_types fs)) in
      let s2 : List ℕ = section 0x02 (flat_map (import_item fs) fs) in
      let s3 : List ℕ = section 0x03 (map (function_item fs) (definitions_in fs CoreFunc)) in
      let s4 : List ℕ = section 0x04 (map (table_item fs) (definitions_in fs CoreTable)) in
      let s5 : List ℕ = section 0x05 (map (memory_item fs) (definitions_in fs CoreMemory)) in
      let s6 : List ℕ = section 0x06 (map (global_item fs) (definitions_in fs CoreGlobal)) in
      let s7 : List ℕ = section 0x07 (flat_map (λ xs. xs) (each_behind (exports_of fs) [] fs)) in
      let s8 : List ℕ = section 0x0a (map (code_item fs) (definitions_in fs CoreFunc)) in
      let r1 = types-room p in
      let r2 = room-flat (import_item fs) fs in
      let r3 = defined-room CoreFunc (function_item fs) in
      let r4 = defined-room CoreTable (table_item fs) in
      let r5 = defined-room CoreMemory (memory_item fs) in
      let r6 = defined-room CoreGlobal (global_item fs) in
      let r7 = exports-room [] fs (omega (arith, n, t, h)) p (omega (arith, t, h)) in
      let r8 = defined-room CoreFunc (code_item fs) in
      let b1 = section-bound 0x01 (flat_map type_item (all_types fs)) (omega (arith, r1, t, h)) in
      let b2 = section-bound 0x02 (flat_map (import_item fs) fs) (omega (arith, r2, t, h)) in
      let b3 = section-bound 0x03 (map (function_item fs) (definitions_in fs CoreFunc)) (omega (arith, r3, t, h)) in
      let b4 = section-bound 0x04 (map (table_item fs) (definitions_in fs CoreTable)) (omega (arith, r4, t, h)) in
      let b5 = section-bound 0x05 (map (memory_item fs) (definitions_in fs CoreMemory)) (omega (arith, r5, t, h)) in
      let b6 = section-bound 0x06 (map (global_item fs) (definitions_in fs CoreGlobal)) (omega (arith, r6, t, h)) in
      let b7 = section-bound 0x07 (flat_map (λ xs. xs) (each_behind (exports_of fs) [] fs)) (omega (arith, r7, t, h)) in
      let b8 = section-bound 0x0a (map (code_item fs) (definitions_in fs CoreFunc)) (omega (arith, r8, t, h)) in
      let a2 = length-append s1 s2 in
      let a3 = length-append (s1 ++ s2) s3 in
      let a4 = length-append (s1 ++ s2 ++ s3) s4 in
      let a5 = length-append (s1 ++ s2 ++ s3 ++ s4) s5 in
      let a6 = length-append (s1 ++ s2 ++ s3 ++ s4 ++ s5) s6 in
      let a7 = length-append (s1 ++ s2 ++ s3 ++ s4 ++ s5 ++ s6) s7 in
      let a8 = length-append (s1 ++ s2 ++ s3 ++ s4 ++ s5 ++ s6 ++ s7) s8 in
      omega (arith, r1, r2, r3, r4, r5, r6, r7, r8, b1, b2, b3, b4, b5, b6, b7, b8, a2, a3, a4, a5, a6, a7, a8)

  module-name-bound : (o : Option Text) → name_cost o < 2 ^ 32 → length (module_name o) ≤ name_cost o
  module-name-bound None h = omega arith
  module-name-bound (Some x) h =
      let a = framed-bound x (omega (arith, h)) in
      let d = framed-bound (framed x) (omega (arith, a, h)) in
      omega (arith, a, d)

  custom-bound : (bytes : List ℕ) → length bytes + 9 < 2 ^ 32 → length (custom bytes) ≤ length bytes + 15
  custom-bound [] h = omega arith
  custom-bound (x ∷ xs) h =
      let a = framed-bound section_name (omega arith) in
      let d = length-append (framed section_name) (x ∷ xs) in
      let e = framed-bound (framed section_name ++ x ∷ xs) (omega (arith, a, d, h)) in
      omega (arith, a, d, e, h)

  subsections-bound : (n : Naming) → Each Ready fs → 8 * weight_of_all weight_of_field fs + 5 < 2 ^ 32 → cost_of n < 2 ^ 32
      → length (subsections (module_with n fs)) ≤ cost_of n + 5 * weight_of_all na fs + weight_of_all lo fs + 66
  subsections-bound n p h k =
      let t = all-total fs p in
      let w = fields-weigh fs p in
      let f = length-filter (λ g. is_space CoreFunc (declares g)) fs in
      let l = sum-filter lo (λ g. is_space CoreFunc (declares g)) fs in
      let s0 : List ℕ = module_name (name_of n) in
      let s1 : List ℕ = section 0x01 (names_in CoreFunc fs) in
      let s2 : List ℕ = section 0x02 (local_names_from fs 0 (items_in CoreFunc fs)) in
      let s4 : List ℕ = section 0x04 (names_in CoreType fs) in
      let s5 : List ℕ = section 0x05 (names_in CoreTable fs) in
      let s6 : List ℕ = section 0x06 (names_in CoreMemory fs) in
      let s7 : List ℕ = section 0x07 (names_in CoreGlobal fs) in
      let r1 = names-room CoreFunc (omega (arith, w, t, h)) (omega (arith, t, h)) in
      let r2 = local-names-room 0 (items_in CoreFunc fs) (omega (arith, w, t, h, f)) (each-filter Ready (λ g. is_space CoreFunc (declares g)) fs p) (omega (arith, l, t, h)) in
      let r4 = names-room CoreType (omega (arith, w, t, h)) (omega (arith, t, h)) in
      let r5 = names-room CoreTable (omega (arith, w, t, h)) (omega (arith, t, h)) in
      let r6 = names-room CoreMemory (omega (arith, w, t, h)) (omega (arith, t, h)) in
      let r7 = names-room CoreGlobal (omega (arith, w, t, h)) (omega (arith, t, h)) in
      let b0 = module-name-bound (name_of n) k in
      let b1 = section-bound 0x01 (names_in CoreFunc fs) (omega (arith, r1, t, h)) in
      let b2 = section-bound 0x02 (local_names_from fs 0 (items_in CoreFunc fs)) (omega (arith, r2, l, t, h)) in
      let b4 = section-bound 0x04 (names_in CoreType fs) (omega (arith, r4, t, h)) in
      let b5 = section-bound 0x05 (names_in CoreTable fs) (omega (arith, r5, t, h)) in
      let b6 = section-bound 0x06 (names_in CoreMemory fs) (omega (arith, r6, t, h)) in
      let b7 = section-bound 0x07 (names_in CoreGlobal fs) (omega (arith, r7, t, h)) in
      let a1 = length-append s0 s1 in
      let a2 = length-append (s0 ++ s1) s2 in
      let a4 = length-append (s0 ++ s1 ++ s2) s4 in
      let a5 = length-append (s0 ++ s1 ++ s2 ++ s4) s5 in
      let a6 = length-append (s0 ++ s1 ++ s2 ++ s4 ++ s5) s6 in
      let a7 = length-append (s0 ++ s1 ++ s2 ++ s4 ++ s5 ++ s6) s7 in
      omega (arith, l, r1, r2, r4, r5, r6, r7, b0, b1, b2, b4, b5, b6, b7, a1, a2, a4, a5, a6, a7)

pub bytes-within : (m : CoreModule) → ShortParts m.fields → 8 * (32 + module_weight m) + weight_of_naming m.naming < 2 ^ 32 → length (core_bytes_of m) ≤ 8 * (32 + module_weight m) + weight_of_naming m.naming
bytes-within m p h =
    let fs : List Field = m.fields in
    let ready : Each (Ready fs) fs = each-ready fs fs p (omega (arith, h)) in
    let t = all-total fs fs ready in
    let c = cost-bound m.naming in
    let s = sections-bound fs ready (omega (arith, h)) in
    let u = subsections-bound fs m.naming ready (omega (arith, h)) (omega (arith, c, h)) in
    let k = custom-bound fs (subsections m) (omega (arith, t, c, u, h)) in
    let a = length-append b.preamble (sections fs) in
    let d = length-append (module_bytes fs) (name_section m) in
    omega (arith, t, c, s, u, k, a, d)
