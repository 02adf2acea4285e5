-- Fields that break no rule break none once they are resolved.
use Rattle.std.proofs.Common.{◌≡◌, ℕ, zero, suc, ◌==◌, eq-eqb, subst, Bool, true, false, true≢false, cond, List, [], ◌∷◌, ◌++◌, map, flat_map, slice_get, Option, Some, None, option_map, unwrap_or, refl, sym, ◌∙◌, ap, is_some}
use Rattle.std.specs.Prelude.{⊤}
use Rattle.std.specs.List.{list_any, list_all}
use Rattle.std.proofs.lemmas.Option.{none-some}
use Rattle.comp_model.specs.declared.Space.{Space}
use Rattle.comp_model.specs.declared.Space.TheVariants.{CoreFunc, CoreGlobal, CoreType}
use Rattle.comp_model.specs.Core as core
use Rattle.comp_model.specs.Core.{Id, CoreValue, CoreRefusal}
use Rattle.comp_model.specs.CoreModules as c
use Rattle.comp_model.specs.CoreModules.{Index, Naming, Local, FunctionType, TypeDef, TypeUse, Entity, Instruction, Field}
use Rattle.core_model.specs.Items.{offset_of, naming_of, is_import, is_definition, declares, items_in, ids_in, place_of, meant, index_of, each_behind}
use Rattle.core_model.specs.Types.{Signature, reference_to, resolved_value, signature_of, written_signature, same_value, same_values, same_signature, is_type, type_place, written_types, uses_of_entity, uses_of, needed_by, needed, new_type, added, added_types, all_types, written_params, locals_of, ids_of}
use Rattle.core_model.specs.Rule.{refuse, first_broken, late_import, repeated, repeated_in, repeated_id, unknown, unknown_in_value, unknown_in_type, broken_local, offset_of_index, is_found, is_written, mismatch, unknown_in_signature, broken_use, broken_entity, unknown_in_instruction, broken_parts, core_rule}
use Rattle.core_model.specs.Resolved.{numbered, numbered_value, numbered_local, numbered_signature, numbered_use_index, numbered_use, numbered_entity, numbered_instruction, written_out, type_added, resolved_fields}
use Rattle.core_model.specs.IsResolved.{is_number, value_resolved, type_resolved}
use Rattle.core_model.proofs.Lists.{append-nil, append-assoc, map-append, map-over, each_behind-over, flat_map-append, each_behind-append, Each, each-append}
use Rattle.core_model.proofs.ResolvedBytes.{signature-kept, num, extra, new, declares-kept, definition-kept, naming-kept, items-num, written_types-new}
use Rattle.core_model.proofs.ResolvedFields.{and-both, and-left, and-right, number-numbered, value-numbered, signature-numbered, WrittenOut, added-written, needs-each}

-- no refusal

abbrev Silent : List (Option CoreRefusal) → Type 0
Silent rs = Each (λ r. r ≡ None) rs

some-none : {A : Type 0} (x : A) → Some x ≡ None → ⊥
some-none x e = none-some x (sym e)

silent : (rs : List (Option CoreRefusal)) → first_broken rs ≡ None → Silent rs
silent [] e = tt
silent (None ∷ rs) e = (refl, silent rs e)
silent (Some r ∷ rs) e = absurd (some-none r e)

first-none : (rs : List (Option CoreRefusal)) → Silent rs → first_broken rs ≡ None
first-none [] p = refl
first-none (r ∷ rs) p = ap (λ x. first_broken (x ∷ rs)) p.0 ∙ first-none rs p.1

each-left : {A : Type 0} (P : A → Type 0) (xs ys : List A) → Each P (xs ++ ys) → Each P xs
each-left P [] ys p = tt
each-left P (x ∷ xs) ys p = (p.0, each-left P xs ys p.1)

each-right : {A : Type 0} (P : A → Type 0) (xs ys : List A) → Each P (xs ++ ys) → Each P ys
each-right P [] ys p = p
each-right P (x ∷ xs) ys p = each-right P xs ys p.1

silent-append : (rs ss : List (Option CoreRefusal)) → Silent rs → Silent ss → Silent (rs ++ ss)
silent-append rs ss p q = each-append (λ r. r ≡ None) rs ss p q

silent-left : (rs ss : List (Option CoreRefusal)) → Silent (rs ++ ss) → Silent rs
silent-left rs ss p = each-left (λ r. r ≡ None) rs ss p

silent-right : (rs ss : List (Option CoreRefusal)) → Silent (rs ++ ss) → Silent ss
silent-right rs ss p = each-right (λ r. r ≡ None) rs ss p

silent-map : {A : Type 0} (k : A → Option CoreRefusal) (p : A → Bool) → ((x : A) → p x ≡ true → k x ≡ None) → (xs : List A) → list_all p xs ≡ true → Silent (map k xs)
silent-map k p e [] d = tt
silent-map k p e (x ∷ xs) d = (e x (and-left (p x) (list_all p xs) d), silent-map k p e xs (and-right (p x) (list_all p xs) d))

silent-all : {A C : Type 0} (h : A → C) (k : C → Option CoreRefusal) → ((x : A) → k (h x) ≡ None) → (xs : List A) → Silent (map k (map h xs))
silent-all h k e [] = tt
silent-all h k e (x ∷ xs) = (e x, silent-all h k e xs)

silent-behind : {A C : Type 0} (h : A → C) (k : List A → A → Option CoreRefusal) (j : List C → C → Option CoreRefusal)
    → ((before : List A) (x : A) → k before x ≡ None → j (map h before) (h x) ≡ None) → (before xs : List A) → Silent (each_behind k before xs) → Silent (each_behind j (map h before) (map h xs))
silent-behind h k j e before [] p = tt
silent-behind h k j e before (x ∷ xs) p =
    (e before x p.0, subst (λ b. Silent (each_behind j b (map h xs))) (map-append h before (x ∷ [])) (silent-behind h k j e (before ++ x ∷ []) xs p.1))

-- a test that let nothing through
passed : (b : Bool) (r : CoreRefusal) → cond b None (Some r) ≡ None → b ≡ true
passed true r e = refl
passed false r e = absurd (some-none r e)

-- numbers and types without names are not unknown

number-known : (ids : List (Option Id)) (i : Index) → is_number i ≡ true → unknown ids i ≡ None
number-known ids (c.number o n) e = refl
number-known ids (c.named x) e = absurd (true≢false (sym e))

value-known : (ids : List (Option Id)) (v : CoreValue) → value_resolved v ≡ true → unknown_in_value ids v ≡ None
value-known ids (core.ref_name b r x) e = absurd (true≢false (sym e))
value-known ids core.i32 e = refl
value-known ids _ e = refl

type-known : (ids : List (Option Id)) (t : FunctionType) → type_resolved t ≡ true → Silent (unknown_in_type ids t)
type-known ids t e = silent-append (map (λ p. unknown_in_value ids p.value) t.params) (map (unknown_in_value ids) t.results)
    (silent-map (λ p. unknown_in_value ids p.value) (λ p. value_resolved p.value) (λ p. value-known ids p.value) t.params (and-left (list_all (λ p. value_resolved p.value) t.params) (list_all value_resolved t.results) e))
    (silent-map (unknown_in_value ids) value_resolved (value-known ids) t.results (and-right (list_all (λ p. value_resolved p.value) t.params) (list_all value_resolved t.results) e))

-- a type is found at its place

bool-refl : (i : ℕ) → (i == i) ≡ true
bool-refl i = eq-eqb i i refl

same-reference : (b : Bool) (i : Option ℕ) → same_value (reference_to b i) (reference_to b i) ≡ true
same-reference b None = refl
same-reference true (Some i) = bool-refl i
same-reference false (Some i) = bool-refl i

same-resolved : (ids : List (Option Id)) (v : CoreValue) → same_value (resolved_value ids v) (resolved_value ids v) ≡ true
same-resolved ids (core.ref_func true) = refl
same-resolved ids (core.ref_func false) = refl
same-resolved ids (core.ref_extern true) = refl
same-resolved ids (core.ref_extern false) = refl
same-resolved ids (core.ref_index true i) = bool-refl i
same-resolved ids (core.ref_index false i) = bool-refl i
same-resolved ids (core.ref_numeral true o i) = bool-refl i
same-resolved ids (core.ref_numeral false o i) = bool-refl i
same-resolved ids (core.ref_name b r x) = same-reference b (place_of x ids)
same-resolved ids core.i32 = refl
same-resolved ids _ = refl

same-params : (ids : List (Option Id)) (ps : List Local) → same_values (map (λ p. resolved_value ids p.value) ps) (map (λ p. resolved_value ids p.value) ps) ≡ true
same-params ids [] = refl
same-params ids (p ∷ ps) = and-both (same-resolved ids p.value) (same-params ids ps)

same-results : (ids : List (Option Id)) (vs : List CoreValue) → same_values (map (resolved_value ids) vs) (map (resolved_value ids) vs) ≡ true
same-results ids [] = refl
same-results ids (v ∷ vs) = and-both (same-resolved ids v) (same-results ids vs)

abbrev Itself : Signature → Type 0
Itself s = same_signature s s ≡ true

itself : (ids : List (Option Id)) (t : Option FunctionType) → Itself (written_signature ids t)
itself ids None = refl
itself ids (Some t) = and-both (same-params ids t.params) (same-results ids t.results)

abbrev Placed : List (Option Signature) → Signature → Type 0
Placed ts s = is_some (type_place s ts) ≡ true

-- found where it is placed
found : (s : Signature) (ts : List (Option Signature)) → Placed ts s → is_found (slice_get ts (unwrap_or (type_place s ts) 0)) s ≡ true
found s [] e = absurd (true≢false (sym e))
found s (t ∷ ts) e = go (is_type s t) refl (found s ts) e
  where
    later : (o : Option ℕ) → (is_some o ≡ true → is_found (slice_get ts (unwrap_or o 0)) s ≡ true) → is_some (option_map suc o) ≡ true → is_found (slice_get (t ∷ ts) (unwrap_or (option_map suc o) 0)) s ≡ true
    later None h d = absurd (true≢false (sym d))
    later (Some i) h d = h refl

    go : (b : Bool) → is_type s t ≡ b → (Placed ts s → is_found (slice_get ts (unwrap_or (type_place s ts) 0)) s ≡ true)
        → is_some (cond b (Some zero) (option_map suc (type_place s ts))) ≡ true → is_found (slice_get (t ∷ ts) (unwrap_or (cond b (Some zero) (option_map suc (type_place s ts))) 0)) s ≡ true
    go true q h d = q
    go false q h d = later (type_place s ts) h d

some-suc : (o : Option ℕ) → is_some (option_map suc o) ≡ is_some o
some-suc None = refl
some-suc (Some i) = refl

placed-front : (s : Signature) (ts us : List (Option Signature)) → Placed ts s → Placed (ts ++ us) s
placed-front s [] us e = absurd (true≢false (sym e))
placed-front s (t ∷ ts) us e = go (is_type s t) (placed-front s ts us) e
  where
    go : (b : Bool) → (Placed ts s → Placed (ts ++ us) s) → is_some (cond b (Some zero) (option_map suc (type_place s ts))) ≡ true → is_some (cond b (Some zero) (option_map suc (type_place s (ts ++ us)))) ≡ true
    go true h d = refl
    go false h d = some-suc (type_place s (ts ++ us)) ∙ h (sym (some-suc (type_place s ts)) ∙ d)

placed-last : (s : Signature) (ts : List (Option Signature)) → Itself s → Placed (ts ++ Some s ∷ []) s
placed-last s [] e = rw e refl
placed-last s (t ∷ ts) e = go (is_type s t) (placed-last s ts e)
  where
    go : (b : Bool) → Placed (ts ++ Some s ∷ []) s → is_some (cond b (Some zero) (option_map suc (type_place s (ts ++ Some s ∷ [])))) ≡ true
    go true h = refl
    go false h = some-suc (type_place s (ts ++ Some s ∷ [])) ∙ h

placed-new : (s : Signature) (ts : List (Option Signature)) → Itself s → Placed (ts ++ map Some (new_type ts s)) s
placed-new s ts e = go (is_some (type_place s ts)) refl
  where
    go : (b : Bool) → is_some (type_place s ts) ≡ b → Placed (ts ++ map Some (cond b [] (s ∷ []))) s
    go true q = subst (λ us. Placed us s) (sym (append-nil ts)) q
    go false q = placed-last s ts e

-- each type that is needed is placed among all
all-placed : (ts : List (Option Signature)) (ss : List Signature) → Each Itself ss → Each (Placed (ts ++ map Some (added ts ss))) ss
all-placed ts [] p = tt
all-placed ts (s ∷ ss) p =
    let n : List Signature = new_type ts s in
    let more : List (Option Signature) = ts ++ map Some n in
    let rest : List Signature = added more ss in
    let e : more ++ map Some rest ≡ ts ++ map Some (n ++ rest) = append-assoc ts (map Some n) (map Some rest) ∙ ap (λ r. ts ++ r) (sym (map-append Some n rest)) in (
      subst (λ ws. Placed ws s) e (placed-front s more (map Some rest) (placed-new s ts p.0)),
      subst (λ ws. Each (Placed ws) ss) e (all-placed more ss p.1),
    )

found-front : (ts us : List (Option Signature)) (i : ℕ) (s : Signature) → is_found (slice_get ts i) s ≡ true → is_found (slice_get (ts ++ us) i) s ≡ true
found-front [] us i s e = absurd (true≢false (sym e))
found-front (t ∷ ts) us zero s e = e
found-front (t ∷ ts) us (suc i) s e = found-front ts us i s e

meant-numbered : (ids ks : List (Option Id)) (i : Index) → meant ks (numbered ids i) ≡ Some (index_of ids i)
meant-numbered ids ks (c.number o n) = refl
meant-numbered ids ks (c.named x) = refl

local_ids-numbered : (ids : List (Option Id)) (ls : List Local) → ids_of (map (numbered_local ids) ls) ≡ ids_of ls
local_ids-numbered ids ls = map-over (numbered_local ids) (λ l. l.naming.id) (λ l. l.naming.id) (λ l. refl) ls

local-numbered : (ids ks : List (Option Id)) (before : List Local) (l : Local) → broken_local ids before l ≡ None → broken_local ks (map (numbered_local ids) before) (numbered_local ids l) ≡ None
local-numbered ids ks before l e =
    let p : Silent (unknown_in_value ids l.value ∷ repeated (ids_of before) l.naming.id ∷ []) = silent (unknown_in_value ids l.value ∷ repeated (ids_of before) l.naming.id ∷ []) e in
    first-none (unknown_in_value ks (numbered_value ids l.value) ∷ repeated (ids_of (map (numbered_local ids) before)) l.naming.id ∷ [])
    (value-known ks (numbered_value ids l.value) (value-numbered ids l.value), (ap (λ xs. repeated xs l.naming.id) (local_ids-numbered ids before) ∙ p.1.0, tt))

params-numbered : (ids : List (Option Id)) (t : Option FunctionType) → written_params (option_map (numbered_signature ids) t) ≡ map (numbered_local ids) (written_params t)
params-numbered ids None = refl
params-numbered ids (Some t) = refl

module _ (fs : List Field) where
  abbrev old_ids : List (Option Id)
  old_ids = ids_in CoreType fs

  abbrev new_ids : List (Option Id)
  new_ids = ids_in CoreType (new fs)

  -- the type of a use without an index is found at its place
  abbrev FoundBy : Option Index → Option FunctionType → Type 0
  FoundBy None t = is_found (slice_get (all_types fs) (unwrap_or (type_place (written_signature old_ids t) (all_types fs)) 0)) (written_signature old_ids t) ≡ true
  FoundBy (Some i) t = ⊤

  abbrev Found : TypeUse → Type 0
  Found u = FoundBy u.index u.signature

  found-by : (i : Option Index) (t : Option FunctionType) → Each (Placed (all_types fs)) (needed_by old_ids i t) → FoundBy i t
  found-by None t p = found (written_signature old_ids t) (all_types fs) p.0
  found-by (Some i) t p = tt

  uses-found : (us : List TypeUse) → Each (Placed (all_types fs)) (flat_map (needed old_ids) us) → Each Found us
  uses-found [] p = tt
  uses-found (u ∷ us) p = (
    found-by u.index u.signature (each-left (Placed (all_types fs)) (needed old_ids u) (flat_map (needed old_ids) us) p),
    uses-found us (each-right (Placed (all_types fs)) (needed old_ids u) (flat_map (needed old_ids) us) p),
  )

  all-found : Each Found (flat_map uses_of fs)
  all-found = uses-found (flat_map uses_of fs)
      (all-placed (written_types fs) (flat_map (needed old_ids) (flat_map uses_of fs)) (needs-each Itself old_ids (itself old_ids) (flat_map uses_of fs)))

  is-written : (n : ℕ) (t : FunctionType) → is_found (slice_get (all_types fs) n) (signature_of old_ids t) ≡ true
      → is_written (written_types (new fs)) (Some n) (signature_of new_ids (numbered_signature old_ids t)) ≡ true
  is-written n t h = ap (λ ts. is_written ts (Some n) (signature_of new_ids (numbered_signature old_ids t))) (written_types-new fs)
      ∙ ap (λ s. is_found (slice_get (all_types fs) n) s) (signature-kept old_ids new_ids t) ∙ h

  found-among : (o : Option ℕ) (s : Signature) → is_written (written_types fs) o s ≡ true → is_found (slice_get (all_types fs) (unwrap_or o 0)) s ≡ true
  found-among None s e = absurd (true≢false (sym e))
  found-among (Some n) s e = found-front (written_types fs) (map Some (added_types fs)) n s e

  mismatch-new : (i : Option Index) (t : Option FunctionType) → FoundBy i t → mismatch fs i t ≡ None
      → mismatch (new fs) (Some (numbered_use_index fs (record { index = i; signature = t }) i)) (option_map (numbered_signature old_ids) t) ≡ None
  mismatch-new None None p e = refl
  mismatch-new (Some i) None p e = refl
  mismatch-new None (Some t) p e = ap (λ b. cond b None (refuse core.type_mismatch 0)) (is-written (unwrap_or (type_place (signature_of old_ids t) (all_types fs)) 0) t p)
  mismatch-new (Some i) (Some t) p e =
      let w : is_written (written_types fs) (meant old_ids i) (signature_of old_ids t) ≡ true = passed (is_written (written_types fs) (meant old_ids i) (signature_of old_ids t)) (record { fault = core.type_mismatch; offset = offset_of_index i }) e in
      ap (λ b. cond b None (refuse core.type_mismatch (offset_of_index (numbered old_ids i))))
      (ap (λ o. is_written (written_types (new fs)) o (signature_of new_ids (numbered_signature old_ids t))) (meant-numbered old_ids new_ids i)
      ∙ is-written (index_of old_ids i) t (found-among (meant old_ids i) (signature_of old_ids t) w))

  use_index-known : (u : TypeUse) (i : Option Index) → unknown new_ids (numbered_use_index fs u i) ≡ None
  use_index-known u None = refl
  use_index-known u (Some i) = number-known new_ids (numbered old_ids i) (number-numbered old_ids i)

  signature-known : (t : Option FunctionType) → Silent (unknown_in_signature (new fs) (option_map (numbered_signature old_ids) t))
  signature-known None = tt
  signature-known (Some t) = type-known new_ids (numbered_signature old_ids t) (signature-numbered old_ids t)

  use-new : (u : TypeUse) → Found u → Silent (broken_use fs u) → Silent (broken_use (new fs) (numbered_use fs u))
  use-new u p q =
      let m : Silent (mismatch fs u.index u.signature ∷ []) = silent-right (unknown_in_signature fs u.signature) (mismatch fs u.index u.signature ∷ []) q.1 in (
        use_index-known u u.index,
        silent-append (unknown_in_signature (new fs) (option_map (numbered_signature old_ids) u.signature)) (mismatch (new fs) (Some (numbered_use_index fs u u.index)) (option_map (numbered_signature old_ids) u.signature) ∷ [])
            (signature-known u.signature) (mismatch-new u.index u.signature p m.0, tt),
      )

  value-new : (v : CoreValue) → unknown_in_value new_ids (numbered_value old_ids v) ≡ None
  value-new v = value-known new_ids (numbered_value old_ids v) (value-numbered old_ids v)

  instruction-new : (ks ls : List (Option Id)) (i : Instruction) → unknown_in_instruction (new fs) ks (numbered_instruction fs ls i) ≡ None
  instruction-new ks ls (c.call i) = number-known (ids_in CoreFunc (new fs)) (numbered (ids_in CoreFunc fs) i) (number-numbered (ids_in CoreFunc fs) i)
  instruction-new ks ls (c.local_get i) = number-known ks (numbered ls i) (number-numbered ls i)
  instruction-new ks ls (c.local_set i) = number-known ks (numbered ls i) (number-numbered ls i)
  instruction-new ks ls (c.local_tee i) = number-known ks (numbered ls i) (number-numbered ls i)
  instruction-new ks ls (c.global_get i) = number-known (ids_in CoreGlobal (new fs)) (numbered (ids_in CoreGlobal fs) i) (number-numbered (ids_in CoreGlobal fs) i)
  instruction-new ks ls (c.global_set i) = number-known (ids_in CoreGlobal (new fs)) (numbered (ids_in CoreGlobal fs) i) (number-numbered (ids_in CoreGlobal fs) i)
  instruction-new ks ls c.nop = refl
  instruction-new ks ls _ = refl

  body-new : (ks ls : List (Option Id)) (is : List Instruction) → Silent (map (unknown_in_instruction (new fs) ks) (map (numbered_instruction fs ls) is))
  body-new ks ls is = silent-all (numbered_instruction fs ls) (unknown_in_instruction (new fs) ks) (instruction-new ks ls) is

  locals-new : (t : Option FunctionType) (ls : List Local) → Silent (each_behind (broken_local old_ids) [] (written_params t ++ ls))
      → Silent (each_behind (broken_local new_ids) [] (written_params (option_map (numbered_signature old_ids) t) ++ map (numbered_local old_ids) ls))
  locals-new t ls p =
      let e : map (numbered_local old_ids) (written_params t ++ ls) ≡ written_params (option_map (numbered_signature old_ids) t) ++ map (numbered_local old_ids) ls =
      map-append (numbered_local old_ids) (written_params t) ls ∙ ap (λ r. r ++ map (numbered_local old_ids) ls) (sym (params-numbered old_ids t)) in
      subst (λ ks. Silent (each_behind (broken_local new_ids) [] ks)) e
      (silent-behind (numbered_local old_ids) (broken_local old_ids) (broken_local new_ids) (local-numbered old_ids new_ids) [] (written_params t ++ ls) p)

  entity-new : (x : Entity) → Each Found (uses_of_entity x) → Silent (broken_entity fs x) → Silent (broken_entity (new fs) (numbered_entity fs x))
  entity-new (c.func u) p q = use-new u p.0 q
  entity-new (c.table l v) p q = (value-new v, tt)
  entity-new (c.memory l) p q = tt
  entity-new (c.global v m) p q = (value-new v, tt)
  entity-new (c.other_entity o) p q = tt

  parts-new : (g : Field) → Each Found (uses_of g) → Silent (broken_parts fs g) → Silent (broken_parts (new fs) (num fs g))
  parts-new (c.type_field o n (c.function t)) p q = type-known new_ids (numbered_signature old_ids t) (signature-numbered old_ids t)
  parts-new (c.type_field o n (c.other_type k)) p q = tt
  parts-new (c.import_field o m x n e) p q = entity-new e p q
  parts-new (c.func_field o n i u ls is) p q =
      let ids : List (Option Id) = ids_of (written_params u.signature ++ ls) in
      let ks : List Local = written_params (option_map (numbered_signature old_ids) u.signature) ++ map (numbered_local old_ids) ls in
      let rest : Silent (each_behind (broken_local old_ids) [] (written_params u.signature ++ ls) ++ map (unknown_in_instruction fs ids) is) =
      silent-right (broken_use fs u) (each_behind (broken_local old_ids) [] (written_params u.signature ++ ls) ++ map (unknown_in_instruction fs ids) is) q in
      silent-append (broken_use (new fs) (numbered_use fs u))
      (each_behind (broken_local new_ids) [] ks ++ map (unknown_in_instruction (new fs) (ids_of ks)) (map (numbered_instruction fs (ids_of (locals_of fs u ls))) is))
      (use-new u p.0 (silent-left (broken_use fs u) (each_behind (broken_local old_ids) [] (written_params u.signature ++ ls) ++ map (unknown_in_instruction fs ids) is) q))
      (silent-append (each_behind (broken_local new_ids) [] ks) (map (unknown_in_instruction (new fs) (ids_of ks)) (map (numbered_instruction fs (ids_of (locals_of fs u ls))) is))
      (locals-new u.signature ls (silent-left (each_behind (broken_local old_ids) [] (written_params u.signature ++ ls)) (map (unknown_in_instruction fs ids) is) rest))
      (body-new (ids_of ks) (ids_of (locals_of fs u ls)) is))
  parts-new (c.table_field o n i l v) p q = (value-new v, tt)
  parts-new (c.memory_field o n i l) p q = tt
  parts-new (c.global_field o n i v m is) p q = (value-new v, body-new [] [] is)
  parts-new (c.export_field o x s i) p q = (number-known (ids_in s (new fs)) (numbered (ids_in s fs) i) (number-numbered (ids_in s fs) i), tt)
  parts-new (c.other_field o) p q = tt

  all_parts-new : (gs : List Field) → Each Found (flat_map uses_of gs) → Silent (flat_map (broken_parts fs) gs) → Silent (flat_map (broken_parts (new fs)) (map (num fs) gs))
  all_parts-new [] p q = tt
  all_parts-new (g ∷ gs) p q = silent-append (broken_parts (new fs) (num fs g)) (flat_map (broken_parts (new fs)) (map (num fs) gs))
      (parts-new g (each-left Found (uses_of g) (flat_map uses_of gs) p) (silent-left (broken_parts fs g) (flat_map (broken_parts fs) gs) q))
      (all_parts-new gs (each-right Found (uses_of g) (flat_map uses_of gs) p) (silent-right (broken_parts fs g) (flat_map (broken_parts fs) gs) q))

  parts-extra : (ss : List Signature) → Each WrittenOut ss → Silent (flat_map (broken_parts (new fs)) (map type_added ss))
  parts-extra [] p = tt
  parts-extra (s ∷ ss) p = silent-append (broken_parts (new fs) (type_added s)) (flat_map (broken_parts (new fs)) (map type_added ss)) (type-known new_ids (written_out s) p.0) (parts-extra ss p.1)

  -- imports and ids

  import-num : (g : Field) → is_import (num fs g) ≡ is_import g
  import-num (c.type_field o n d) = refl
  import-num _ = refl

  offset-num : (g : Field) → offset_of (num fs g) ≡ offset_of g
  offset-num (c.type_field o n d) = refl
  offset-num _ = refl

  any-num : (gs : List Field) → list_any is_definition (map (num fs) gs) ≡ list_any is_definition gs
  any-num [] = refl
  any-num (g ∷ gs) = rw (definition-kept fs g, any-num gs) refl

  late-num : (before : List Field) (g : Field) → late_import (map (num fs) before) (num fs g) ≡ late_import before g
  late-num before g = rw (import-num g, any-num before, offset-num g) refl

  ids-num : (s : Space) (gs : List Field) → ids_in s (map (num fs) gs) ≡ ids_in s gs
  ids-num s gs = ap (map (λ g. (naming_of g).id)) (items-num fs s gs) ∙ map-over (num fs) (λ g. (naming_of g).id) (λ g. (naming_of g).id) (λ g. ap (λ n. n.id) (naming-kept fs g)) (items_in s gs)

  again-num : (before : List Field) (s : Option Space) (x : Option Id) → repeated_in (map (num fs) before) s x ≡ repeated_in before s x
  again-num before None x = refl
  again-num before (Some s) x = ap (λ ids. repeated ids x) (ids-num s before)

  repeated-num : (before : List Field) (g : Field) → repeated_id (map (num fs) before) (num fs g) ≡ repeated_id before g
  repeated-num before g = rw (declares-kept fs g, naming-kept fs g) (again-num before (declares g) (naming_of g).id)

  late-extra : (before : List Field) (ss : List Signature) → Silent (each_behind late_import before (map type_added ss))
  late-extra before [] = tt
  late-extra before (s ∷ ss) = (refl, late-extra (before ++ type_added s ∷ []) ss)

  repeated-extra : (before : List Field) (ss : List Signature) → Silent (each_behind repeated_id before (map type_added ss))
  repeated-extra before [] = tt
  repeated-extra before (s ∷ ss) = (refl, repeated-extra (before ++ type_added s ∷ []) ss)

  each-new : (k : List Field → Field → Option CoreRefusal) → ((before : List Field) (g : Field) → k (map (num fs) before) (num fs g) ≡ k before g)
      → ((before : List Field) → Silent (each_behind k before (extra fs))) → Silent (each_behind k [] fs) → Silent (each_behind k [] (new fs))
  each-new k e x p = subst Silent (sym (each_behind-append k [] (map (num fs) fs) (extra fs)))
      (silent-append (each_behind k [] (map (num fs) fs)) (each_behind k (map (num fs) fs) (extra fs)) (subst Silent (sym (each_behind-over (num fs) k k e [] fs)) p) (x (map (num fs) fs)))

pub resolved-accepted : (fs : List Field) → core_rule fs ≡ None → core_rule (resolved_fields fs) ≡ None
resolved-accepted fs e =
    let late : List (Option CoreRefusal) = each_behind late_import [] fs in
    let twice : List (Option CoreRefusal) = each_behind repeated_id [] fs in
    let parts : List (Option CoreRefusal) = flat_map (broken_parts fs) fs in
    let p : Silent (late ++ (twice ++ parts)) = silent (late ++ (twice ++ parts)) e in
    let q : Silent (twice ++ parts) = silent-right late (twice ++ parts) p in
    first-none (each_behind late_import [] (new fs) ++ (each_behind repeated_id [] (new fs) ++ flat_map (broken_parts (new fs)) (new fs)))
    (silent-append (each_behind late_import [] (new fs)) (each_behind repeated_id [] (new fs) ++ flat_map (broken_parts (new fs)) (new fs))
    (each-new fs late_import (late-num fs) (λ b. late-extra fs b (added_types fs)) (silent-left late (twice ++ parts) p))
    (silent-append (each_behind repeated_id [] (new fs)) (flat_map (broken_parts (new fs)) (new fs))
    (each-new fs repeated_id (repeated-num fs) (λ b. repeated-extra fs b (added_types fs)) (silent-left twice parts q))
    (subst Silent (sym (flat_map-append (broken_parts (new fs)) (map (num fs) fs) (extra fs)))
    (silent-append (flat_map (broken_parts (new fs)) (map (num fs) fs)) (flat_map (broken_parts (new fs)) (extra fs))
    (all_parts-new fs fs (all-found fs) (silent-right twice parts q))
    (parts-extra fs (added_types fs) (added-written fs))))))
