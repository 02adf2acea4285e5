-- Parts of resolved fields mean the same among whatever fields they stand.
use Rattle.std.proofs.Common.{◌≡◌, Bool, true, false, true≢false, cond, ◌&&◌, List, [], ◌∷◌, ◌++◌, map, filter, flat_map, Option, Some, None, refl, sym, ◌∙◌, ap}
use Rattle.std.specs.List.{list_all}
use Rattle.comp_model.specs.Core as core
use Rattle.comp_model.specs.Core.{Id, CoreValue}
use Rattle.comp_model.specs.Leb.{uleb}
use Rattle.comp_wire.specs.Spelled.{core_bytes}
use Rattle.comp_model.specs.CoreModules as c
use Rattle.comp_model.specs.CoreModules.{Index, Local, FunctionType, TypeDef, TypeUse, Entity, Instruction, Field}
use Rattle.comp_model.specs.declared.Space.TheVariants.{CoreFunc, CoreGlobal, CoreType}
use Rattle.core_model.specs.Items.{ids_in, index_of}
use Rattle.core_model.specs.Types.{resolved_value, signature_of, defined, type_by, type_of_use}
use Rattle.core_model.specs.IsResolved.{is_number, value_resolved, type_resolved, index_resolved, use_resolved, signature_resolved, def_resolved, entity_resolved, instruction_resolved}
use Rattle.core_model.specs.Bytes.{value_bytes, entity_bytes, limits_bytes, mutable_byte, instruction_bytes, expression}
use Rattle.core_model.proofs.ResolvedFields.{and-left, and-right}

-- ---- lists

-- two functions that agree where a test holds
pub map-same : {A B : Type 0} (p : A → Bool) (g h : A → B) → ((x : A) → p x ≡ true → g x ≡ h x) → (xs : List A) → list_all p xs ≡ true → map g xs ≡ map h xs
map-same p g h e [] d = refl
map-same p g h e (x ∷ xs) d =
    ap (λ y. y ∷ map g xs) (e x (and-left (p x) (list_all p xs) d)) ∙ ap (λ ys. h x ∷ ys) (map-same p g h e xs (and-right (p x) (list_all p xs) d))

pub flat_map-same : {A B : Type 0} (p : A → Bool) (g h : A → List B) → ((x : A) → p x ≡ true → g x ≡ h x) → (xs : List A) → list_all p xs ≡ true → flat_map g xs ≡ flat_map h xs
flat_map-same p g h e [] d = refl
flat_map-same p g h e (x ∷ xs) d =
    ap (λ y. y ++ flat_map g xs) (e x (and-left (p x) (list_all p xs) d)) ∙ ap (λ ys. h x ++ ys) (flat_map-same p g h e xs (and-right (p x) (list_all p xs) d))

pub flat_map-filter : {A B : Type 0} (q : A → Bool) (k : A → List B) (xs : List A) → flat_map k (filter q xs) ≡ flat_map (λ x. cond (q x) (k x) []) xs
flat_map-filter q k [] = refl
flat_map-filter q k (x ∷ xs) = go (q x) ∙ ap (λ r. cond (q x) (k x) [] ++ r) (flat_map-filter q k xs)
  where
    go : (b : Bool) → flat_map k (cond b (x ∷ filter q xs) (filter q xs)) ≡ cond b (k x) [] ++ flat_map k (filter q xs)
    go true = refl
    go false = refl

pub map-flat : {A B : Type 0} (g : A → B) (xs : List A) → map g xs ≡ flat_map (λ x. g x ∷ []) xs
map-flat g [] = refl
map-flat g (x ∷ xs) = ap (λ r. g x ∷ r) (map-flat g xs)

pub all-filter : {A : Type 0} (p q : A → Bool) (xs : List A) → list_all p xs ≡ true → list_all p (filter q xs) ≡ true
all-filter p q [] e = refl
all-filter p q (x ∷ xs) e = go (q x) (all-filter p q xs (and-right (p x) (list_all p xs) e))
  where
    go : (b : Bool) → list_all p (filter q xs) ≡ true → list_all p (cond b (x ∷ filter q xs) (filter q xs)) ≡ true
    go true d = ap (λ t. t && list_all p (filter q xs)) (and-left (p x) (list_all p xs) e) ∙ d
    go false d = d

-- ---- parts

module _ (ids : List (Option Id)) where
  pub index-same : (i : Index) → is_number i ≡ true → index_of ids i ≡ index_of [] i
  index-same (c.number o n) e = refl
  index-same (c.named x) e = absurd (true≢false (sym e))

  pub value-same : (v : CoreValue) → value_resolved v ≡ true → resolved_value ids v ≡ resolved_value [] v
  value-same (core.ref_name b r x) e = absurd (true≢false (sym e))
  value-same core.i32 e = refl
  value-same _ e = refl

  pub signature-same : (t : FunctionType) → type_resolved t ≡ true → signature_of ids t ≡ signature_of [] t
  signature-same t e =
      ap (λ ps. record { params = ps; results = map (resolved_value ids) t.results })
      (map-same (λ p. value_resolved p.value) (λ p. resolved_value ids p.value) (λ p. resolved_value [] p.value) (λ p. value-same p.value) t.params (and-left (list_all (λ p. value_resolved p.value) t.params) (list_all value_resolved t.results) e))
      ∙ ap (λ rs. record { params = map (λ p. resolved_value [] p.value) t.params; results = rs })
      (map-same value_resolved (resolved_value ids) (resolved_value []) value-same t.results (and-right (list_all (λ p. value_resolved p.value) t.params) (list_all value_resolved t.results) e))

  pub def-same : (d : TypeDef) → def_resolved d ≡ true → defined ids d ≡ defined [] d
  def-same (c.function t) e = ap Some (signature-same t e)
  def-same (c.other_type o) e = refl

module _ (fs : List Field) where
  pub use-same : (u : TypeUse) → use_resolved u ≡ true → type_of_use fs u ≡ type_of_use [] u
  use-same u e = go u.index (and-left (index_resolved u.index) (signature_resolved u.signature) e)
    where
      go : (i : Option Index) → index_resolved i ≡ true → type_by fs i u.signature ≡ type_by [] i u.signature
      go None d = absurd (true≢false (sym d))
      go (Some i) d = index-same (ids_in CoreType fs) i d

  pub value_bytes-same : (v : CoreValue) → value_resolved v ≡ true → value_bytes fs v ≡ value_bytes [] v
  value_bytes-same v e = ap core_bytes (value-same (ids_in CoreType fs) v e)

  pub entity-same : (n : Entity) → entity_resolved n ≡ true → entity_bytes fs n ≡ entity_bytes [] n
  entity-same (c.func u) e = ap (λ k. 0x00 ∷ uleb k) (use-same u e)
  entity-same (c.table l v) e = ap (λ b. 0x01 ∷ (b ++ limits_bytes l)) (value_bytes-same v e)
  entity-same (c.memory l) e = refl
  entity-same (c.global v m) e = ap (λ b. 0x03 ∷ (b ++ mutable_byte m ∷ [])) (value_bytes-same v e)
  entity-same (c.other_entity o) e = refl

  pub instruction-same : (locals : List (Option Id)) (i : Instruction) → instruction_resolved i ≡ true → instruction_bytes fs locals i ≡ instruction_bytes [] [] i
  instruction-same locals (c.call i) e = ap (λ k. 0x10 ∷ uleb k) (index-same (ids_in CoreFunc fs) i e)
  instruction-same locals (c.local_get i) e = ap (λ k. 0x20 ∷ uleb k) (index-same locals i e)
  instruction-same locals (c.local_set i) e = ap (λ k. 0x21 ∷ uleb k) (index-same locals i e)
  instruction-same locals (c.local_tee i) e = ap (λ k. 0x22 ∷ uleb k) (index-same locals i e)
  instruction-same locals (c.global_get i) e = ap (λ k. 0x23 ∷ uleb k) (index-same (ids_in CoreGlobal fs) i e)
  instruction-same locals (c.global_set i) e = ap (λ k. 0x24 ∷ uleb k) (index-same (ids_in CoreGlobal fs) i e)
  instruction-same locals c.nop e = refl
  instruction-same locals _ e = refl

  pub expression-same : (locals : List (Option Id)) (is : List Instruction) → list_all instruction_resolved is ≡ true → expression fs locals is ≡ expression [] [] is
  expression-same locals is e =
      ap (λ b. b ++ 0x0b ∷ []) (flat_map-same instruction_resolved (instruction_bytes fs locals) (instruction_bytes [] []) (instruction-same locals) is e)
