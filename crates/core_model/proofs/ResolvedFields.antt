-- What the resolver leaves is resolved, and it leaves resolved fields as they are.
use Rattle.std.proofs.Common.{◌≡◌, ℕ, Bool, true, false, true≢false, ◌&&◌, List, [], ◌∷◌, ◌++◌, map, flat_map, Option, Some, None, option_map, refl, sym}
use Rattle.std.specs.List.{list_all}
use Rattle.comp_model.specs.declared.Space.TheVariants.{CoreFunc, CoreGlobal, CoreType}
use Rattle.comp_model.specs.Core as core
use Rattle.comp_model.specs.Core.{Id, CoreValue}
use Rattle.comp_model.specs.CoreModules as c
use Rattle.comp_model.specs.CoreModules.{Index, Local, FunctionType, TypeUse, Entity, Instruction, Field}
use Rattle.core_model.specs.Items.{ids_in, place_of}
use Rattle.core_model.specs.Types.{Signature, reference_to, resolved_value, written_signature, written_types, uses_of, needed_by, needed, added_types, nameless, locals_of, ids_of}
use Rattle.core_model.specs.Resolved.{numbered, numbered_type, numbered_value, numbered_local, numbered_signature, numbered_use_index, numbered_use, numbered_entity, numbered_instruction, numbered_field, written_value, written_out, type_added, resolved_fields}
use Rattle.core_model.specs.IsResolved.{is_number, value_resolved, type_resolved, signature_resolved, use_resolved, entity_resolved, instruction_resolved, field_resolved, are_resolved}
use Rattle.core_model.proofs.Lists.{Each, each-append}
use Rattle.core_model.proofs.Counts.{each-added}

pub and-both : {a b : Bool} → a ≡ true → b ≡ true → (a && b) ≡ true
and-both {a = a} {b = b} p q = rw (p, q) refl

pub and-left : (a b : Bool) → (a && b) ≡ true → a ≡ true
and-left true b e = refl
and-left false b e = e

pub and-right : (a b : Bool) → (a && b) ≡ true → b ≡ true
and-right true b e = e
and-right false b e = absurd (true≢false (sym e))

all-map : {A C : Type 0} (h : A → C) (p : C → Bool) → ((x : A) → p (h x) ≡ true) → (xs : List A) → list_all p (map h xs) ≡ true
all-map h p e [] = refl
all-map h p e (x ∷ xs) = and-both (e x) (all-map h p e xs)

all-append : {A : Type 0} (p : A → Bool) (xs ys : List A) → list_all p xs ≡ true → list_all p ys ≡ true → list_all p (xs ++ ys) ≡ true
all-append p [] ys e d = d
all-append p (x ∷ xs) ys e d = and-both (and-left (p x) (list_all p xs) e) (all-append p xs ys (and-right (p x) (list_all p xs) e) d)

-- what is needed of added types, of all signatures that a use writes

module _ (P : Signature → Type 0) (ids : List (Option Id)) (all : (t : Option FunctionType) → P (written_signature ids t)) where
  needed-each : (i : Option Index) (t : Option FunctionType) → Each P (needed_by ids i t)
  needed-each None t = (all t, tt)
  needed-each (Some i) t = tt

  pub needs-each : (us : List TypeUse) → Each P (flat_map (needed ids) us)
  needs-each [] = tt
  needs-each (u ∷ us) = each-append P (needed ids u) (flat_map (needed ids) us) (needed-each u.index u.signature) (needs-each us)

-- what is left is resolved

pub number-numbered : (ids : List (Option Id)) (i : Index) → is_number (numbered ids i) ≡ true
number-numbered ids (c.number o n) = refl
number-numbered ids (c.named x) = refl

type-numbered : (b : Bool) (o : ℕ) (i : Option ℕ) → value_resolved (numbered_type b o i) ≡ true
type-numbered b o None = refl
type-numbered b o (Some i) = refl

pub value-numbered : (ids : List (Option Id)) (v : CoreValue) → value_resolved (numbered_value ids v) ≡ true
value-numbered ids (core.ref_name b r x) = type-numbered b x.offset (place_of x ids)
value-numbered ids core.i32 = refl
value-numbered ids _ = refl

pub signature-numbered : (ids : List (Option Id)) (t : FunctionType) → type_resolved (numbered_signature ids t) ≡ true
signature-numbered ids t = and-both (all-map (numbered_local ids) (λ p. value_resolved p.value) (λ p. value-numbered ids p.value) t.params) (all-map (numbered_value ids) value_resolved (value-numbered ids) t.results)

option-numbered : (ids : List (Option Id)) (t : Option FunctionType) → signature_resolved (option_map (numbered_signature ids) t) ≡ true
option-numbered ids None = refl
option-numbered ids (Some t) = signature-numbered ids t

pub reference-written : (b : Bool) (i : Option ℕ) → value_resolved (written_value (reference_to b i)) ≡ true
reference-written b None = refl
reference-written b (Some i) = refl

pub value-written : (ids : List (Option Id)) (v : CoreValue) → value_resolved (written_value (resolved_value ids v)) ≡ true
value-written ids (core.ref_name b r x) = reference-written b (place_of x ids)
value-written ids core.i32 = refl
value-written ids _ = refl

params-written : (ids : List (Option Id)) (ps : List Local) → list_all (λ p. value_resolved p.value) (map (λ v. nameless (written_value v)) (map (λ p. resolved_value ids p.value) ps)) ≡ true
params-written ids [] = refl
params-written ids (p ∷ ps) = and-both (value-written ids p.value) (params-written ids ps)

results-written : (ids : List (Option Id)) (vs : List CoreValue) → list_all value_resolved (map written_value (map (resolved_value ids) vs)) ≡ true
results-written ids [] = refl
results-written ids (v ∷ vs) = and-both (value-written ids v) (results-written ids vs)

abbrev pub WrittenOut : Signature → Type 0
WrittenOut s = type_resolved (written_out s) ≡ true

pub written-out : (ids : List (Option Id)) (t : Option FunctionType) → WrittenOut (written_signature ids t)
written-out ids None = refl
written-out ids (Some t) = and-both (params-written ids t.params) (results-written ids t.results)

all-written : (ss : List Signature) → Each WrittenOut ss → list_all field_resolved (map type_added ss) ≡ true
all-written [] p = refl
all-written (s ∷ ss) p = and-both p.0 (all-written ss p.1)

module _ (fs : List Field) where
  abbrev ids : List (Option Id)
  ids = ids_in CoreType fs

  use_index-numbered : (u : TypeUse) (i : Option Index) → is_number (numbered_use_index fs u i) ≡ true
  use_index-numbered u None = refl
  use_index-numbered u (Some i) = number-numbered ids i

  use-numbered : (u : TypeUse) → use_resolved (numbered_use fs u) ≡ true
  use-numbered u = and-both (use_index-numbered u u.index) (option-numbered ids u.signature)

  entity-numbered : (e : Entity) → entity_resolved (numbered_entity fs e) ≡ true
  entity-numbered (c.func u) = use-numbered u
  entity-numbered (c.table l v) = value-numbered ids v
  entity-numbered (c.memory l) = refl
  entity-numbered (c.global v m) = value-numbered ids v
  entity-numbered (c.other_entity o) = refl

  instruction-numbered : (locals : List (Option Id)) (i : Instruction) → instruction_resolved (numbered_instruction fs locals i) ≡ true
  instruction-numbered locals (c.call i) = number-numbered (ids_in CoreFunc fs) i
  instruction-numbered locals (c.local_get i) = number-numbered locals i
  instruction-numbered locals (c.local_set i) = number-numbered locals i
  instruction-numbered locals (c.local_tee i) = number-numbered locals i
  instruction-numbered locals (c.global_get i) = number-numbered (ids_in CoreGlobal fs) i
  instruction-numbered locals (c.global_set i) = number-numbered (ids_in CoreGlobal fs) i
  instruction-numbered locals c.nop = refl
  instruction-numbered locals _ = refl

  body-numbered : (locals : List (Option Id)) (is : List Instruction) → list_all instruction_resolved (map (numbered_instruction fs locals) is) ≡ true
  body-numbered locals is = all-map (numbered_instruction fs locals) instruction_resolved (instruction-numbered locals) is

  field-numbered : (g : Field) → field_resolved (numbered_field fs g) ≡ true
  field-numbered (c.type_field o n (c.function t)) = signature-numbered ids t
  field-numbered (c.type_field o n (c.other_type p)) = refl
  field-numbered (c.import_field o m x n e) = entity-numbered e
  field-numbered (c.func_field o n i u ls is) =
      and-both (use-numbered u) (and-both (all-map (numbered_local ids) (λ l. value_resolved l.value) (λ l. value-numbered ids l.value) ls) (body-numbered (ids_of (locals_of fs u ls)) is))
  field-numbered (c.table_field o n i l v) = value-numbered ids v
  field-numbered (c.memory_field o n i l) = refl
  field-numbered (c.global_field o n i v m is) = and-both (value-numbered ids v) (body-numbered [] is)
  field-numbered (c.export_field o x s i) = number-numbered (ids_in s fs) i
  field-numbered (c.other_field o) = refl

  pub added-written : Each WrittenOut (added_types fs)
  added-written = each-added WrittenOut (written_types fs) (flat_map (needed ids) (flat_map uses_of fs)) (needs-each WrittenOut ids (written-out ids) (flat_map uses_of fs))

pub resolved-are-resolved : (fs : List Field) → are_resolved (resolved_fields fs) ≡ true
resolved-are-resolved fs = all-append field_resolved (map (numbered_field fs) fs) (map type_added (added_types fs))
    (all-map (numbered_field fs) field_resolved (field-numbered fs) fs) (all-written (added_types fs) (added-written fs))
