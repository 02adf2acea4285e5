-- The bytes of a core module, its name section among them, are those of its resolved fields.
use Rattle.std.proofs.Common.{◌≡◌, ℕ, ◌+◌, Bool, true, false, cond, List, [], ◌∷◌, ◌++◌, map, filter, flat_map, slice_get, Option, Some, None, option_map, refl, sym, ◌∙◌, ap, is_some}
use Rattle.std.proofs.lemmas.List.{length-map}
use Rattle.comp_model.specs.declared.Space.{Space}
use Rattle.comp_model.specs.declared.Space.TheVariants.{CoreFunc, CoreTable, CoreMemory, CoreGlobal, CoreTag, CoreType}
use Rattle.comp_model.specs.Core as core
use Rattle.comp_model.specs.Core.{Text, Id, CoreValue}
use Rattle.comp_model.specs.Leb.{uleb}
use Rattle.comp_model.specs.CoreModules as c
use Rattle.comp_model.specs.CoreModules.{Index, Naming, Local, FunctionType, TypeDef, TypeUse, Entity, Instruction, Field, CoreModule}
use Rattle.core_model.specs.Items.{naming_of, import_names, entity_of, is_definition, declares, is_space, items_in, ids_in, place_of, index_of, each_behind}
use Rattle.core_model.specs.Types.{Signature, reference_to, resolved_value, signature_of, defined, written_signature, type_place, written_type, written_types, uses_of, needed_by, needed, new_type, type_by, added, added_types, all_types, type_of_use, nameless, params_of_type, params_by, locals_of, ids_of}
use Rattle.core_model.specs.Bytes as b
use Rattle.core_model.specs.Bytes.{value, entity_bytes, instruction_bytes, expression, import_by, import_item, function_item, table_item, memory_item, global_item, code_item, inline_export_items, exports_of, definitions_in, sections, module_bytes}
use Rattle.core_model.specs.NameSection.{name_of, named_at, names_from, names_in, locals_at, locals_named, local_names_from, module_name, custom, name_section}
use Rattle.core_model.specs.Module.{core_bytes, module_with}
use Rattle.core_model.specs.Resolved.{numbered, numbered_type, numbered_value, numbered_local, numbered_signature, numbered_use_index, numbered_use, numbered_entity, numbered_def, numbered_instruction, numbered_field, written_value, written_out, type_added, resolved_fields}
use Rattle.core_model.proofs.Lists.{append-nil, map-append, both, map-over, flat_map-over, each_behind-over, flat_map-append, filter-append, filter-over, each_behind-append, Each, each-append}

-- parts, whatever the ids of the new types are

index-kept : (ids new : List (Option Id)) (i : Index) → index_of new (numbered ids i) ≡ index_of ids i
index-kept ids new (c.number o n) = refl
index-kept ids new (c.named x) = refl

type-kept : (new : List (Option Id)) (b : Bool) (o : ℕ) (i : Option ℕ) → resolved_value new (numbered_type b o i) ≡ reference_to b i
type-kept new b o None = refl
type-kept new b o (Some i) = refl

value-kept : (ids new : List (Option Id)) (v : CoreValue) → resolved_value new (numbered_value ids v) ≡ resolved_value ids v
value-kept ids new (core.ref_name b r x) = type-kept new b x.offset (place_of x ids)
value-kept ids new core.i32 = refl
value-kept ids new _ = refl

pub signature-kept : (ids new : List (Option Id)) (t : FunctionType) → signature_of new (numbered_signature ids t) ≡ signature_of ids t
signature-kept ids new t =
    rw (
      map-over (numbered_local ids) (λ p. resolved_value ids p.value) (λ p. resolved_value new p.value) (λ p. value-kept ids new p.value) t.params,
      map-over (numbered_value ids) (resolved_value ids) (resolved_value new) (value-kept ids new) t.results,
    ) refl

-- a type that is written out is the type again

reference-again : (new : List (Option Id)) (b : Bool) (i : Option ℕ) → resolved_value new (written_value (reference_to b i)) ≡ reference_to b i
reference-again new b None = refl
reference-again new b (Some i) = refl

value-again : (ids new : List (Option Id)) (v : CoreValue) → resolved_value new (written_value (resolved_value ids v)) ≡ resolved_value ids v
value-again ids new (core.ref_name b r x) = reference-again new b (place_of x ids)
value-again ids new core.i32 = refl
value-again ids new _ = refl

params-again : (ids new : List (Option Id)) (ps : List Local)
    → map (λ p. resolved_value new p.value) (map (λ v. nameless (written_value v)) (map (λ p. resolved_value ids p.value) ps)) ≡ map (λ p. resolved_value ids p.value) ps
params-again ids new [] = refl
params-again ids new (p ∷ ps) = rw (value-again ids new p.value, params-again ids new ps) refl

results-again : (ids new : List (Option Id)) (vs : List CoreValue) → map (resolved_value new) (map written_value (map (resolved_value ids) vs)) ≡ map (resolved_value ids) vs
results-again ids new [] = refl
results-again ids new (v ∷ vs) = rw (value-again ids new v, results-again ids new vs) refl

abbrev Again : List (Option Id) → Signature → Type 0
Again new s = signature_of new (written_out s) ≡ s

again : (ids new : List (Option Id)) (t : Option FunctionType) → Again new (written_signature ids t)
again ids new None = refl
again ids new (Some t) = rw (params-again ids new t.params, results-again ids new t.results) refl

needed-again : (ids new : List (Option Id)) (i : Option Index) (t : Option FunctionType) → Each (Again new) (needed_by ids i t)
needed-again ids new None t = (again ids new t, tt)
needed-again ids new (Some i) t = tt

needs-again : (ids new : List (Option Id)) (us : List TypeUse) → Each (Again new) (flat_map (needed ids) us)
needs-again ids new [] = tt
needs-again ids new (u ∷ us) = each-append (Again new) (needed ids u) (flat_map (needed ids) us) (needed-again ids new u.index u.signature) (needs-again ids new us)

added-again : (new : List (Option Id)) (ts : List (Option Signature)) (ss : List Signature) → Each (Again new) ss → Each (Again new) (added ts ss)
added-again new ts [] p = tt
added-again new ts (s ∷ ss) p = each-append (Again new) (new_type ts s) (added (ts ++ map Some (new_type ts s)) ss) (go (is_some (type_place s ts))) (added-again new (ts ++ map Some (new_type ts s)) ss p.1)
  where
    go : (b : Bool) → Each (Again new) (cond b [] (s ∷ []))
    go true = tt
    go false = (p.0, tt)

written-again : (new : List (Option Id)) (ss : List Signature) → Each (Again new) ss → map (written_type new) (map type_added ss) ≡ map Some ss
written-again new [] p = refl
written-again new (s ∷ ss) p = rw (p.0, written-again new ss p.1) refl

module _ (fs : List Field) where
  abbrev pub num : Field → Field
  num g = numbered_field fs g

  abbrev pub extra : List Field
  extra = map type_added (added_types fs)

  abbrev pub new : List Field
  new = resolved_fields fs

  pub declares-kept : (g : Field) → declares (num g) ≡ declares g
  declares-kept (c.import_field o m x n (c.func u)) = refl
  declares-kept _ = refl

  pub definition-kept : (g : Field) → is_definition (num g) ≡ is_definition g
  definition-kept (c.type_field o n d) = refl
  definition-kept _ = refl

  pub naming-kept : (g : Field) → naming_of (num g) ≡ naming_of g
  naming-kept (c.type_field o n d) = refl
  naming-kept _ = refl

  pub items-num : (s : Space) (gs : List Field) → items_in s (map num gs) ≡ map num (items_in s gs)
  items-num s gs = filter-over num (λ g. is_space s (declares g)) (λ g. is_space s (declares g)) (λ g. ap (is_space s) (declares-kept g)) gs

  pub items-new : (s : Space) → items_in s new ≡ map num (items_in s fs) ++ items_in s extra
  items-new s = filter-append (λ g. is_space s (declares g)) (map num fs) extra ∙ ap (λ r. r ++ items_in s extra) (items-num s fs)

  -- types

  types-extra : (ss : List Signature) → items_in CoreType (map type_added ss) ≡ map type_added ss
  types-extra [] = refl
  types-extra (s ∷ ss) = ap (λ r. type_added s ∷ r) (types-extra ss)

  def-kept : (ids : List (Option Id)) (d : TypeDef) → defined ids (numbered_def fs d) ≡ defined (ids_in CoreType fs) d
  def-kept ids (c.function t) = ap Some (signature-kept (ids_in CoreType fs) ids t)
  def-kept ids (c.other_type o) = refl

  written-kept : (ids : List (Option Id)) (g : Field) → written_type ids (num g) ≡ written_type (ids_in CoreType fs) g
  written-kept ids (c.type_field o n d) = def-kept ids d
  written-kept ids _ = refl

  pub written_types-new : written_types new ≡ all_types fs
  written_types-new =
      let ids : List (Option Id) = ids_in CoreType new in
      ap (map (written_type ids)) (items-new CoreType ∙ ap (λ r. map num (items_in CoreType fs) ++ r) (types-extra (added_types fs)))
      ∙ map-append (written_type ids) (map num (items_in CoreType fs)) extra
      ∙ both (map-over num (written_type (ids_in CoreType fs)) (written_type ids) (written-kept ids) (items_in CoreType fs))
      (written-again ids (added_types fs) (added-again ids (written_types fs) (flat_map (needed (ids_in CoreType fs)) (flat_map uses_of fs)) (needs-again (ids_in CoreType fs) ids (flat_map uses_of fs))))

  uses-num : (g : Field) → uses_of (num g) ≡ map (numbered_use fs) (uses_of g)
  uses-num (c.import_field o m x n (c.func u)) = refl
  uses-num _ = refl

  -- each use has an index, so none is needed
  none-needed-by : (ids : List (Option Id)) (us : List TypeUse) → flat_map (needed ids) (map (numbered_use fs) us) ≡ []
  none-needed-by ids [] = refl
  none-needed-by ids (u ∷ us) = none-needed-by ids us

  none-needed-num : (ids : List (Option Id)) (gs : List Field) → flat_map (needed ids) (flat_map uses_of (map num gs)) ≡ []
  none-needed-num ids [] = refl
  none-needed-num ids (g ∷ gs) = flat_map-append (needed ids) (uses_of (num g)) (flat_map uses_of (map num gs))
      ∙ both (ap (flat_map (needed ids)) (uses-num g) ∙ none-needed-by ids (uses_of g)) (none-needed-num ids gs)

  uses-extra : (ss : List Signature) → flat_map uses_of (map type_added ss) ≡ []
  uses-extra [] = refl
  uses-extra (s ∷ ss) = uses-extra ss

  none-needed : (ids : List (Option Id)) → flat_map (needed ids) (flat_map uses_of new) ≡ []
  none-needed ids = ap (flat_map (needed ids)) (flat_map-append uses_of (map num fs) extra)
      ∙ flat_map-append (needed ids) (flat_map uses_of (map num fs)) (flat_map uses_of extra)
      ∙ both (none-needed-num ids fs) (ap (flat_map (needed ids)) (uses-extra (added_types fs)))

  pub added_types-new : added_types new ≡ []
  added_types-new = ap (added (written_types new)) (none-needed (ids_in CoreType new))

  pub all_types-new : all_types new ≡ all_types fs
  all_types-new = ap (λ ss. written_types new ++ map Some ss) added_types-new ∙ append-nil (written_types new) ∙ written_types-new

  -- type uses and locals

  use_index-new : (u : TypeUse) (i : Option Index) (e : u.index ≡ i) → index_of (ids_in CoreType new) (numbered_use_index fs u i) ≡ type_of_use fs u
  use_index-new u None e = refl
  use_index-new u (Some i) e = index-kept (ids_in CoreType fs) (ids_in CoreType new) i ∙ sym (ap (λ j. type_by fs j u.signature) e)

  use-new : (u : TypeUse) → type_of_use new (numbered_use fs u) ≡ type_of_use fs u
  use-new u = use_index-new u u.index refl

  namings-num : (ls : List Local) → map (λ l. l.naming) (map (numbered_local (ids_in CoreType fs)) ls) ≡ map (λ l. l.naming) ls
  namings-num ls = map-over (numbered_local (ids_in CoreType fs)) (λ l. l.naming) (λ l. l.naming) (λ l. refl) ls

  params-new : (i : ℕ) (t : Option FunctionType)
      → map (λ l. l.naming) (params_by new i (option_map (numbered_signature (ids_in CoreType fs)) t)) ≡ map (λ l. l.naming) (params_by fs i t)
  params-new i (Some t) = namings-num t.params
  params-new i None = ap (λ ts. map (λ l. l.naming) (params_of_type (slice_get ts i))) all_types-new

  pub locals-new : (u : TypeUse) (ls : List Local)
      → map (λ l. l.naming) (locals_of new (numbered_use fs u) (map (numbered_local (ids_in CoreType fs)) ls)) ≡ map (λ l. l.naming) (locals_of fs u ls)
  locals-new u ls =
      ap (λ i. map (λ l. l.naming) (params_by new i (option_map (numbered_signature (ids_in CoreType fs)) u.signature) ++ map (numbered_local (ids_in CoreType fs)) ls)) (use-new u)
      ∙ map-append (λ l. l.naming) (params_by new (type_of_use fs u) (option_map (numbered_signature (ids_in CoreType fs)) u.signature)) (map (numbered_local (ids_in CoreType fs)) ls)
      ∙ both (params-new (type_of_use fs u) u.signature) (namings-num ls)
      ∙ sym (map-append (λ l. l.naming) (params_by fs (type_of_use fs u) u.signature) ls)

  ids-of-namings : (ls : List Local) → ids_of ls ≡ map (λ n. n.id) (map (λ l. l.naming) ls)
  ids-of-namings [] = refl
  ids-of-namings (l ∷ ls) = ap (λ r. l.naming.id ∷ r) (ids-of-namings ls)

  local_ids-new : (u : TypeUse) (ls : List Local) → ids_of (locals_of new (numbered_use fs u) (map (numbered_local (ids_in CoreType fs)) ls)) ≡ ids_of (locals_of fs u ls)
  local_ids-new u ls = ids-of-namings (locals_of new (numbered_use fs u) (map (numbered_local (ids_in CoreType fs)) ls)) ∙ ap (map (λ n. n.id)) (locals-new u ls) ∙ sym (ids-of-namings (locals_of fs u ls))

  -- bytes of parts

  value-new : (v : CoreValue) → value new (numbered_value (ids_in CoreType fs) v) ≡ value fs v
  value-new v = value-kept (ids_in CoreType fs) (ids_in CoreType new) v

  entity-new : (e : Entity) → entity_bytes new (numbered_entity fs e) ≡ entity_bytes fs e
  entity-new (c.func u) = ap (λ i. 0x00 ∷ uleb i) (use-new u)
  entity-new (c.table l v) = rw (value-new v) refl
  entity-new (c.memory l) = refl
  entity-new (c.global v m) = rw (value-new v) refl
  entity-new (c.other_entity o) = refl

  instruction-new : (ids : List (Option Id)) (i : Instruction) → instruction_bytes new ids (numbered_instruction fs ids i) ≡ instruction_bytes fs ids i
  instruction-new ids (c.call i) = ap (λ n. 0x10 ∷ uleb n) (index-kept (ids_in CoreFunc fs) (ids_in CoreFunc new) i)
  instruction-new ids (c.local_get i) = ap (λ n. 0x20 ∷ uleb n) (index-kept ids ids i)
  instruction-new ids (c.local_set i) = ap (λ n. 0x21 ∷ uleb n) (index-kept ids ids i)
  instruction-new ids (c.local_tee i) = ap (λ n. 0x22 ∷ uleb n) (index-kept ids ids i)
  instruction-new ids (c.global_get i) = ap (λ n. 0x23 ∷ uleb n) (index-kept (ids_in CoreGlobal fs) (ids_in CoreGlobal new) i)
  instruction-new ids (c.global_set i) = ap (λ n. 0x24 ∷ uleb n) (index-kept (ids_in CoreGlobal fs) (ids_in CoreGlobal new) i)
  instruction-new ids c.nop = refl
  instruction-new ids _ = refl

  expression-new : (ids : List (Option Id)) (is : List Instruction) → expression new ids (map (numbered_instruction fs ids) is) ≡ expression fs ids is
  expression-new ids is = rw (flat_map-over (numbered_instruction fs ids) (instruction_bytes fs ids) (instruction_bytes new ids) (instruction-new ids) is) refl

  -- items of sections

  entity_of-num : (g : Field) → entity_of (num g) ≡ option_map (numbered_entity fs) (entity_of g)
  entity_of-num (c.type_field o n d) = refl
  entity_of-num _ = refl

  pub imports-num : (g : Field) → import_names (num g) ≡ import_names g
  imports-num (c.type_field o n d) = refl
  imports-num _ = refl

  import_by-new : (p : Option (Text × Text)) (e : Option Entity) → import_by new p (option_map (numbered_entity fs) e) ≡ import_by fs p e
  import_by-new (Some p) (Some e) = rw (entity-new e) refl
  import_by-new (Some p) None = refl
  import_by-new None e = refl

  import-new : (g : Field) → import_item new (num g) ≡ import_item fs g
  import-new g = rw (imports-num g, entity_of-num g) (import_by-new (import_names g) (entity_of g))

  function-new : (g : Field) → function_item new (num g) ≡ function_item fs g
  function-new (c.func_field o n i u ls is) = ap uleb (use-new u)
  function-new _ = refl

  table-new : (g : Field) → table_item new (num g) ≡ table_item fs g
  table-new (c.table_field o n i l v) = rw (value-new v) refl
  table-new _ = refl

  memory-new : (g : Field) → memory_item new (num g) ≡ memory_item fs g
  memory-new (c.memory_field o n i l) = refl
  memory-new _ = refl

  global-new : (g : Field) → global_item new (num g) ≡ global_item fs g
  global-new (c.global_field o n i v m is) = rw (value-new v, expression-new [] is) refl
  global-new _ = refl

  code-new : (g : Field) → code_item new (num g) ≡ code_item fs g
  code-new (c.func_field o n i u ls is) =
      rw (
        local_ids-new u ls,
        expression-new (ids_of (locals_of fs u ls)) is,
        map-over (numbered_local (ids_in CoreType fs)) (λ l. value fs l.value) (λ l. value new l.value) (λ l. value-new l.value) ls,
      ) refl
  code-new _ = refl

  inline-new : (before : List Field) (s : Option Space) (xs : List Text) → inline_export_items new (map num before) s xs ≡ inline_export_items fs before s xs
  inline-new before None xs = refl
  inline-new before (Some s) xs = rw (items-num s before, length-map (items_in s before) num) refl

  export-new : (before : List Field) (g : Field) → exports_of new (map num before) (num g) ≡ exports_of fs before g
  export-new before (c.export_field o x CoreTag i) = refl
  export-new before (c.export_field o x CoreFunc i) = rw (index-kept (ids_in CoreFunc fs) (ids_in CoreFunc new) i) refl
  export-new before (c.export_field o x s i) = rw (index-kept (ids_in s fs) (ids_in s new) i) refl
  export-new before (c.import_field o m x n e) = rw (declares-kept (c.import_field o m x n e)) (inline-new before (declares (c.import_field o m x n e)) [])
  export-new before (c.type_field o n d) = refl
  export-new before (c.func_field o n i u ls is) = inline-new before (Some CoreFunc) i.exports
  export-new before (c.table_field o n i l v) = inline-new before (Some CoreTable) i.exports
  export-new before (c.memory_field o n i l) = inline-new before (Some CoreMemory) i.exports
  export-new before (c.global_field o n i v m is) = inline-new before (Some CoreGlobal) i.exports
  export-new before (c.other_field o) = refl

  -- the added types have no import, no export and no definition

  imports-extra : (ss : List Signature) → flat_map (import_item new) (map type_added ss) ≡ []
  imports-extra [] = refl
  imports-extra (s ∷ ss) = imports-extra ss

  exports-extra : (before : List Field) (ss : List Signature) → flat_map (λ xs. xs) (each_behind (exports_of new) before (map type_added ss)) ≡ []
  exports-extra before [] = refl
  exports-extra before (s ∷ ss) = exports-extra (before ++ type_added s ∷ []) ss

  definitions-extra : (s : Space) (ss : List Signature) → filter is_definition (items_in s (map type_added ss)) ≡ []
  definitions-extra s [] = refl
  definitions-extra s (t ∷ ts) = go (is_space s (Some CoreType)) (definitions-extra s ts)
    where
      go : (b : Bool) → filter is_definition (items_in s (map type_added ts)) ≡ [] → filter is_definition (cond b (type_added t ∷ items_in s (map type_added ts)) (items_in s (map type_added ts))) ≡ []
      go true e = e
      go false e = e

  definitions-new : (s : Space) → definitions_in new s ≡ map num (definitions_in fs s)
  definitions-new s = ap (filter is_definition) (items-new s)
      ∙ filter-append is_definition (map num (items_in s fs)) (items_in s extra)
      ∙ both (filter-over num is_definition is_definition definition-kept (items_in s fs)) (definitions-extra s (added_types fs))
      ∙ append-nil (map num (definitions_in fs s))

  items_here : (s : Space) (k : List Field → Field → List ℕ) → ((g : Field) → k new (num g) ≡ k fs g) → map (k new) (definitions_in new s) ≡ map (k fs) (definitions_in fs s)
  items_here s k e = ap (map (k new)) (definitions-new s) ∙ map-over num (k fs) (k new) e (definitions_in fs s)

  all_imports-new : flat_map (import_item new) new ≡ flat_map (import_item fs) fs
  all_imports-new = flat_map-append (import_item new) (map num fs) extra
      ∙ both (flat_map-over num (import_item fs) (import_item new) import-new fs) (imports-extra (added_types fs))
      ∙ append-nil (flat_map (import_item fs) fs)

  all_exports-new : flat_map (λ xs. xs) (each_behind (exports_of new) [] new) ≡ flat_map (λ xs. xs) (each_behind (exports_of fs) [] fs)
  all_exports-new = ap (flat_map (λ xs. xs)) (each_behind-append (exports_of new) [] (map num fs) extra)
      ∙ flat_map-append (λ xs. xs) (each_behind (exports_of new) [] (map num fs)) (each_behind (exports_of new) (map num fs) extra)
      ∙ both (ap (flat_map (λ xs. xs)) (each_behind-over num (exports_of fs) (exports_of new) export-new [] fs)) (exports-extra (map num fs) (added_types fs))
      ∙ append-nil (flat_map (λ xs. xs) (each_behind (exports_of fs) [] fs))

  pub module_bytes-new : module_bytes new ≡ module_bytes fs
  module_bytes-new = ap (λ r. b.preamble ++ r)
      (both (both (both (both (both (both (both
      (ap (λ ts. b.section 0x01 (flat_map b.type_item ts)) all_types-new)
      (ap (b.section 0x02) all_imports-new))
      (ap (b.section 0x03) (items_here CoreFunc function_item function-new)))
      (ap (b.section 0x04) (items_here CoreTable table_item table-new)))
      (ap (b.section 0x05) (items_here CoreMemory memory_item memory-new)))
      (ap (b.section 0x06) (items_here CoreGlobal global_item global-new)))
      (ap (b.section 0x07) all_exports-new))
      (ap (b.section 0x0a) (items_here CoreFunc code_item code-new)))

  -- names

  names-behind : (xs ys : List Naming) → ((i : ℕ) → names_from i ys ≡ []) → (i : ℕ) → names_from i (xs ++ ys) ≡ names_from i xs
  names-behind [] ys e i = e i
  names-behind (x ∷ xs) ys e i = ap (λ r. named_at i (name_of x) ++ r) (names-behind xs ys e (i + 1))

  names-extra : (s : Space) (ss : List Signature) (i : ℕ) → names_from i (map naming_of (items_in s (map type_added ss))) ≡ []
  names-extra s [] i = refl
  names-extra s (t ∷ ts) i = go (is_space s (Some CoreType)) (λ j. names-extra s ts j)
    where
      go : (b : Bool) → ((j : ℕ) → names_from j (map naming_of (items_in s (map type_added ts))) ≡ []) → names_from i (map naming_of (cond b (type_added t ∷ items_in s (map type_added ts)) (items_in s (map type_added ts)))) ≡ []
      go true e = e (i + 1)
      go false e = e i

  names-new : (s : Space) → names_in s new ≡ names_in s fs
  names-new s = ap (λ gs. names_from 0 (map naming_of gs)) (items-new s)
      ∙ ap (names_from 0) (map-append naming_of (map num (items_in s fs)) (items_in s extra))
      ∙ names-behind (map naming_of (map num (items_in s fs))) (map naming_of (items_in s extra)) (names-extra s (added_types fs)) 0
      ∙ ap (names_from 0) (map-over num naming_of naming_of naming-kept (items_in s fs))

  functions-extra : (ss : List Signature) → items_in CoreFunc (map type_added ss) ≡ []
  functions-extra [] = refl
  functions-extra (s ∷ ss) = functions-extra ss

  function-names : (p : Option (Text × Text)) (i : ℕ) (g : Field) → locals_named new p i (num g) ≡ locals_named fs p i g
  function-names None i (c.func_field o n l u ls is) = ap (λ ns. locals_at i (names_from 0 ns)) (locals-new u ls)
  function-names None i (c.type_field o n d) = refl
  function-names None i _ = refl
  function-names (Some p) i g = refl

  local_names-num : (i : ℕ) (gs : List Field) → local_names_from new i (map num gs) ≡ local_names_from fs i gs
  local_names-num i [] = refl
  local_names-num i (g ∷ gs) = both (ap (λ p. locals_named new p i (num g)) (imports-num g) ∙ function-names (import_names g) i g) (local_names-num (i + 1) gs)

  local_names-new : local_names_from new 0 (items_in CoreFunc new) ≡ local_names_from fs 0 (items_in CoreFunc fs)
  local_names-new = ap (local_names_from new 0) (items-new CoreFunc ∙ ap (λ r. map num (items_in CoreFunc fs) ++ r) (functions-extra (added_types fs)) ∙ append-nil (map num (items_in CoreFunc fs)))
      ∙ local_names-num 0 (items_in CoreFunc fs)

  pub name_section-new : (n : Naming) → name_section (record { naming = n; fields = new }) ≡ name_section (record { naming = n; fields = fs })
  name_section-new n = ap custom
      (both (both (both (both (both (ap (λ r. module_name (name_of n) ++ b.section 0x01 r) (names-new CoreFunc))
      (ap (b.section 0x02) local_names-new))
      (ap (b.section 0x04) (names-new CoreType)))
      (ap (b.section 0x05) (names-new CoreTable)))
      (ap (b.section 0x06) (names-new CoreMemory)))
      (ap (b.section 0x07) (names-new CoreGlobal)))

pub core_bytes-resolved : (n : Naming) (fs : List Field) → core_bytes (module_with n (resolved_fields fs)) ≡ core_bytes (module_with n fs)
core_bytes-resolved n fs = both (module_bytes-new fs) (name_section-new fs n)
