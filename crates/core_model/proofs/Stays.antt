-- The resolver leaves resolved fields as they are.
use Rattle.std.proofs.Common.{◌≡◌, Bool, true, true≢false, ◌&&◌, List, [], ◌∷◌, map, flat_map, Option, Some, None, option_map, refl, sym, ◌∙◌, ap}
use Rattle.std.specs.List.{list_all}
use Rattle.comp_model.specs.declared.Space.TheVariants.{CoreFunc, CoreGlobal, CoreType}
use Rattle.comp_model.specs.Core as core
use Rattle.comp_model.specs.Core.{Id, CoreValue}
use Rattle.comp_model.specs.CoreModules as c
use Rattle.comp_model.specs.CoreModules.{Index, Local, FunctionType, TypeDef, TypeUse, Entity, Instruction, Field}
use Rattle.core_model.specs.Items.{ids_in}
use Rattle.core_model.specs.Types.{written_types, uses_of, needed_by, needed, added, locals_of, ids_of}
use Rattle.core_model.specs.Resolved.{numbered, numbered_value, numbered_local, numbered_signature, numbered_use_index, numbered_use, numbered_entity, numbered_def, numbered_instruction, numbered_field, type_added, resolved_fields}
use Rattle.core_model.specs.IsResolved.{is_number, value_resolved, type_resolved, signature_resolved, index_resolved, use_resolved, def_resolved, entity_resolved, instruction_resolved, field_resolved, are_resolved}
use Rattle.core_model.proofs.Lists.{append-nil, both, flat_map-append}
use Rattle.core_model.proofs.ResolvedFields.{and-left, and-right, resolved-are-resolved}

number-stays : (ids : List (Option Id)) (i : Index) → is_number i ≡ true → numbered ids i ≡ i
number-stays ids (c.number o n) e = refl
number-stays ids (c.named x) e = absurd (true≢false (sym e))

value-stays : (ids : List (Option Id)) (v : CoreValue) → value_resolved v ≡ true → numbered_value ids v ≡ v
value-stays ids (core.ref_name b r x) e = absurd (true≢false (sym e))
value-stays ids core.i32 e = refl
value-stays ids _ e = refl

all-stay : {A : Type 0} (h : A → A) (p : A → Bool) → ((x : A) → p x ≡ true → h x ≡ x) → (xs : List A) → list_all p xs ≡ true → map h xs ≡ xs
all-stay h p e [] d = refl
all-stay h p e (x ∷ xs) d = ap (λ y. y ∷ map h xs) (e x (and-left (p x) (list_all p xs) d)) ∙ ap (λ ys. x ∷ ys) (all-stay h p e xs (and-right (p x) (list_all p xs) d))

local-stays : (ids : List (Option Id)) (l : Local) → value_resolved l.value ≡ true → numbered_local ids l ≡ l
local-stays ids l e = ap (λ v. record { naming = l.naming; value = v }) (value-stays ids l.value e)

locals-stay : (ids : List (Option Id)) (ls : List Local) → list_all (λ l. value_resolved l.value) ls ≡ true → map (numbered_local ids) ls ≡ ls
locals-stay ids ls e = all-stay (numbered_local ids) (λ l. value_resolved l.value) (local-stays ids) ls e

type-stays : (ids : List (Option Id)) (t : FunctionType) → type_resolved t ≡ true → numbered_signature ids t ≡ t
type-stays ids t e =
    let p : list_all (λ l. value_resolved l.value) t.params ≡ true = and-left (list_all (λ l. value_resolved l.value) t.params) (list_all value_resolved t.results) e in
    let r : list_all value_resolved t.results ≡ true = and-right (list_all (λ l. value_resolved l.value) t.params) (list_all value_resolved t.results) e in
    ap (λ ps. record { params = ps; results = map (numbered_value ids) t.results }) (locals-stay ids t.params p)
    ∙ ap (λ rs. record { params = t.params; results = rs }) (all-stay (numbered_value ids) value_resolved (value-stays ids) t.results r)

signature-stays : (ids : List (Option Id)) (t : Option FunctionType) → signature_resolved t ≡ true → option_map (numbered_signature ids) t ≡ t
signature-stays ids None e = refl
signature-stays ids (Some t) e = ap Some (type-stays ids t e)

module _ (fs : List Field) where
  abbrev type_ids : List (Option Id)
  type_ids = ids_in CoreType fs

  index-stays : (u : TypeUse) (i : Option Index) → index_resolved i ≡ true → Some (numbered_use_index fs u i) ≡ i
  index-stays u None e = absurd (true≢false (sym e))
  index-stays u (Some i) e = ap Some (number-stays type_ids i e)

  use-stays : (u : TypeUse) → use_resolved u ≡ true → numbered_use fs u ≡ u
  use-stays u e =
      ap (λ i. record { index = i; signature = option_map (numbered_signature type_ids) u.signature }) (index-stays u u.index (and-left (index_resolved u.index) (signature_resolved u.signature) e))
      ∙ ap (λ t. record { index = u.index; signature = t }) (signature-stays type_ids u.signature (and-right (index_resolved u.index) (signature_resolved u.signature) e))

  def-stays : (d : TypeDef) → def_resolved d ≡ true → numbered_def fs d ≡ d
  def-stays (c.function t) e = ap c.function (type-stays type_ids t e)
  def-stays (c.other_type o) e = refl

  entity-stays : (x : Entity) → entity_resolved x ≡ true → numbered_entity fs x ≡ x
  entity-stays (c.func u) e = ap c.func (use-stays u e)
  entity-stays (c.table l v) e = ap (c.table l) (value-stays type_ids v e)
  entity-stays (c.memory l) e = refl
  entity-stays (c.global v m) e = ap (λ w. c.global w m) (value-stays type_ids v e)
  entity-stays (c.other_entity o) e = refl

  instruction-stays : (ids : List (Option Id)) (i : Instruction) → instruction_resolved i ≡ true → numbered_instruction fs ids i ≡ i
  instruction-stays ids (c.call i) e = ap c.call (number-stays (ids_in CoreFunc fs) i e)
  instruction-stays ids (c.local_get i) e = ap c.local_get (number-stays ids i e)
  instruction-stays ids (c.local_set i) e = ap c.local_set (number-stays ids i e)
  instruction-stays ids (c.local_tee i) e = ap c.local_tee (number-stays ids i e)
  instruction-stays ids (c.global_get i) e = ap c.global_get (number-stays (ids_in CoreGlobal fs) i e)
  instruction-stays ids (c.global_set i) e = ap c.global_set (number-stays (ids_in CoreGlobal fs) i e)
  instruction-stays ids c.nop e = refl
  instruction-stays ids _ e = refl

  body-stays : (ids : List (Option Id)) (is : List Instruction) → list_all instruction_resolved is ≡ true → map (numbered_instruction fs ids) is ≡ is
  body-stays ids is e = all-stay (numbered_instruction fs ids) instruction_resolved (instruction-stays ids) is e

  field-stays : (g : Field) → field_resolved g ≡ true → numbered_field fs g ≡ g
  field-stays (c.type_field o n d) e = ap (c.type_field o n) (def-stays d e)
  field-stays (c.import_field o m x n y) e = ap (c.import_field o m x n) (entity-stays y e)
  field-stays (c.func_field o n i u ls is) e =
      let r : (list_all (λ l. value_resolved l.value) ls && list_all instruction_resolved is) ≡ true = and-right (use_resolved u) (list_all (λ l. value_resolved l.value) ls && list_all instruction_resolved is) e in
      ap (λ w. c.func_field o n i w (map (numbered_local type_ids) ls) (map (numbered_instruction fs (ids_of (locals_of fs u ls))) is))
      (use-stays u (and-left (use_resolved u) (list_all (λ l. value_resolved l.value) ls && list_all instruction_resolved is) e))
      ∙ ap (λ ks. c.func_field o n i u ks (map (numbered_instruction fs (ids_of (locals_of fs u ls))) is)) (locals-stay type_ids ls (and-left (list_all (λ l. value_resolved l.value) ls) (list_all instruction_resolved is) r))
      ∙ ap (c.func_field o n i u ls) (body-stays (ids_of (locals_of fs u ls)) is (and-right (list_all (λ l. value_resolved l.value) ls) (list_all instruction_resolved is) r))
  field-stays (c.table_field o n i l v) e = ap (c.table_field o n i l) (value-stays type_ids v e)
  field-stays (c.memory_field o n i l) e = refl
  field-stays (c.global_field o n i v m is) e =
      ap (λ w. c.global_field o n i w m (map (numbered_instruction fs []) is)) (value-stays type_ids v (and-left (value_resolved v) (list_all instruction_resolved is) e))
      ∙ ap (c.global_field o n i v m) (body-stays [] is (and-right (value_resolved v) (list_all instruction_resolved is) e))
  field-stays (c.export_field o x s i) e = ap (c.export_field o x s) (number-stays (ids_in s fs) i e)
  field-stays (c.other_field o) e = refl

-- a use with an index needs no type
nothing-needed : (ids : List (Option Id)) (u : TypeUse) (i : Option Index) → u.index ≡ i → index_resolved i ≡ true → needed ids u ≡ []
nothing-needed ids u None q e = absurd (true≢false (sym e))
nothing-needed ids u (Some i) q e = ap (λ j. needed_by ids j u.signature) q

one-needs : (ids : List (Option Id)) (u : TypeUse) → use_resolved u ≡ true → flat_map (needed ids) (u ∷ []) ≡ []
one-needs ids u e = append-nil (needed ids u) ∙ nothing-needed ids u u.index refl (and-left (index_resolved u.index) (signature_resolved u.signature) e)

field-needs : (ids : List (Option Id)) (g : Field) → field_resolved g ≡ true → flat_map (needed ids) (uses_of g) ≡ []
field-needs ids (c.import_field o m x n (c.func u)) e = one-needs ids u e
field-needs ids (c.import_field o m x n (c.table l v)) e = refl
field-needs ids (c.import_field o m x n _) e = refl
field-needs ids (c.func_field o n i u ls is) e = one-needs ids u (and-left (use_resolved u) (list_all (λ l. value_resolved l.value) ls && list_all instruction_resolved is) e)
field-needs ids _ e = refl

none-needed : (ids : List (Option Id)) (gs : List Field) → are_resolved gs ≡ true → flat_map (needed ids) (flat_map uses_of gs) ≡ []
none-needed ids [] e = refl
none-needed ids (g ∷ gs) e = flat_map-append (needed ids) (uses_of g) (flat_map uses_of gs)
    ∙ both (field-needs ids g (and-left (field_resolved g) (are_resolved gs) e)) (none-needed ids gs (and-right (field_resolved g) (are_resolved gs) e))

pub resolved-stay : (fs : List Field) → are_resolved fs ≡ true → resolved_fields fs ≡ fs
resolved-stay fs e =
    both (all-stay (numbered_field fs) field_resolved (field-stays fs) fs e) (ap (λ ss. map type_added (added (written_types fs) ss)) (none-needed (ids_in CoreType fs) fs e))
    ∙ append-nil fs

pub resolved-twice : (fs : List Field) → resolved_fields (resolved_fields fs) ≡ resolved_fields fs
resolved-twice fs = resolved-stay (resolved_fields fs) (resolved-are-resolved fs)
