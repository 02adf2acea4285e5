-- The bytes of a core module without its name section under a map of its ids that keeps which of them are equal.
use Rattle.std.proofs.Common.{◌≡◌, ℕ, Bool, true, false, cond, List, [], ◌∷◌, ◌++◌, map, filter, flat_map, length, slice_get, Option, Some, None, option_map, refl, sym, ◌∙◌, ap}
use Rattle.std.proofs.lemmas.List.{length-map}
use Rattle.comp_model.specs.declared.Space.{Space}
use Rattle.comp_model.specs.declared.Space.TheVariants.{CoreFunc, CoreTable, CoreMemory, CoreGlobal, CoreTag, CoreType}
use Rattle.comp_model.specs.Core.{Text, Id, same_id, CoreValue}
use Rattle.comp_model.specs.Leb.{uleb}
use Rattle.comp_model.specs.CoreModules as c
use Rattle.comp_model.specs.CoreModules.{Index, Local, FunctionType, TypeUse, Entity, Instruction, Field}
use Rattle.core_model.specs.Items.{inline_exports, import_names, entity_of, is_definition, declares, items_in, ids_in, index_of}
use Rattle.core_model.specs.Types.{Signature, written_signature, written_types, uses_of, needed_by, needed, added, all_types, type_by, type_of_use, nameless, params_of_type, params_by, locals_of, ids_of}
use Rattle.core_model.specs.Bytes as b
use Rattle.core_model.specs.Bytes.{values, value, value_bytes, entity_bytes, instruction_bytes, expression, import_by, import_item, function_item, table_item, memory_item, global_item, code_item, export_item, inline_export_items, exports_of, definitions_in, sections, module_bytes}
use Rattle.comp_model.specs.Renaming.{renamed_value, renamed_index, renamed_local, renamed_type, renamed_use, renamed_entity, renamed_instruction, renamed_field}
use Rattle.core_model.proofs.Lists.{both, map-append, map-over, flat_map-over, each_behind-over}
use Rattle.core_model.proofs.Renamed.{declares-renamed, definition-renamed, items-renamed, ids-renamed, meant-renamed, value-renamed, signature-renamed, written_types-renamed, local_ids-renamed}

module _ (f : Id → Id) (same : (x y : Id) → same_id (f x) (f y) ≡ same_id x y) (keeps : (x : Id) → (f x).offset ≡ x.offset) where
  abbrev ren : Field → Field
  ren g = renamed_field f g

  abbrev new : List (Option Id) → List (Option Id)
  new ids = map (option_map f) ids

  -- types

  uses-renamed : (g : Field) → uses_of (ren g) ≡ map (renamed_use f) (uses_of g)
  uses-renamed (c.import_field o m x n (c.func u)) = refl
  uses-renamed _ = refl

  all_uses-renamed : (gs : List Field) → flat_map uses_of (map ren gs) ≡ map (renamed_use f) (flat_map uses_of gs)
  all_uses-renamed [] = refl
  all_uses-renamed (g ∷ gs) = rw (uses-renamed g, all_uses-renamed gs) (sym (map-append (renamed_use f) (uses_of g) (flat_map uses_of gs)))

  written-renamed : (ids : List (Option Id)) (t : Option FunctionType) → written_signature (new ids) (option_map (renamed_type f) t) ≡ written_signature ids t
  written-renamed ids None = refl
  written-renamed ids (Some t) = signature-renamed f same keeps ids t

  needed-renamed : (ids : List (Option Id)) (i : Option Index) (t : Option FunctionType) → needed_by (new ids) (option_map (renamed_index f) i) (option_map (renamed_type f) t) ≡ needed_by ids i t
  needed-renamed ids None t = rw (written-renamed ids t) refl
  needed-renamed ids (Some i) t = refl

  module _ (gs : List Field) where
    abbrev all : List Field
    all = map ren gs

    abbrev types : List (Option Id)
    types = ids_in CoreType gs

    ids-here : (s : Space) → ids_in s all ≡ new (ids_in s gs)
    ids-here s = ids-renamed f same keeps s gs

    needs-renamed : flat_map (needed (ids_in CoreType all)) (flat_map uses_of all) ≡ flat_map (needed types) (flat_map uses_of gs)
    needs-renamed = rw (ids-here CoreType, all_uses-renamed gs) (flat_map-over (renamed_use f) (needed types) (needed (new types)) (λ u. needed-renamed types u.index u.signature) (flat_map uses_of gs))

    all_types-renamed : all_types all ≡ all_types gs
    all_types-renamed = ap (λ ws. ws ++ map Some (added ws (flat_map (needed (ids_in CoreType all)) (flat_map uses_of all)))) (written_types-renamed f same keeps gs)
        ∙ ap (λ ss. written_types gs ++ map Some (added (written_types gs) ss)) needs-renamed

    type-renamed : (i : Option Index) (t : Option FunctionType) → type_by all (option_map (renamed_index f) i) (option_map (renamed_type f) t) ≡ type_by gs i t
    type-renamed None t = rw (all_types-renamed, ids-here CoreType, written-renamed types t) refl
    type-renamed (Some i) t = rw (ids-here CoreType, meant-renamed f same keeps types i) refl

    use-renamed : (u : TypeUse) → type_of_use all (renamed_use f u) ≡ type_of_use gs u
    use-renamed u = type-renamed u.index u.signature

    nameless-renamed : (vs : List CoreValue) → ids_of (map nameless vs) ≡ new (ids_of (map nameless vs))
    nameless-renamed [] = refl
    nameless-renamed (v ∷ vs) = ap (λ r. None ∷ r) (nameless-renamed vs)

    type_params-renamed : (s : Option (Option Signature)) → ids_of (params_of_type s) ≡ new (ids_of (params_of_type s))
    type_params-renamed None = refl
    type_params-renamed (Some None) = refl
    type_params-renamed (Some (Some s)) = nameless-renamed s.params

    params-renamed : (i : ℕ) (t : Option FunctionType) → ids_of (params_by all i (option_map (renamed_type f) t)) ≡ new (ids_of (params_by gs i t))
    params-renamed i (Some t) = local_ids-renamed f same keeps t.params
    params-renamed i None = rw all_types-renamed (type_params-renamed (slice_get (all_types gs) i))

    ids_of-append : (ks ls : List Local) → ids_of (ks ++ ls) ≡ ids_of ks ++ ids_of ls
    ids_of-append ks ls = map-append (λ l. l.naming.id) ks ls

    locals-renamed : (u : TypeUse) (ls : List Local) → ids_of (locals_of all (renamed_use f u) (map (renamed_local f) ls)) ≡ new (ids_of (locals_of gs u ls))
    locals-renamed u ls =
        let p : List Local = params_by gs (type_of_use gs u) u.signature in
        let q : List Local = params_by all (type_of_use gs u) (option_map (renamed_type f) u.signature) in
        rw (use-renamed u) (ids_of-append q (map (renamed_local f) ls)
        ∙ both (params-renamed (type_of_use gs u) u.signature) (local_ids-renamed f same keeps ls)
        ∙ sym (ap new (ids_of-append p ls) ∙ map-append (option_map f) (ids_of p) (ids_of ls)))

    -- bytes of parts

    value-renamed' : (v : CoreValue) → value all (renamed_value f v) ≡ value gs v
    value-renamed' v = rw (ids-here CoreType) (value-renamed f same keeps types v)

    entity-renamed : (e : Entity) → entity_bytes all (renamed_entity f e) ≡ entity_bytes gs e
    entity-renamed (c.func u) = rw (use-renamed u) refl
    entity-renamed (c.table l v) = rw (value-renamed' v) refl
    entity-renamed (c.memory l) = refl
    entity-renamed (c.global v m) = rw (value-renamed' v) refl
    entity-renamed (c.other_entity o) = refl

    index-renamed : (s : Space) (i : Index) → index_of (ids_in s all) (renamed_index f i) ≡ index_of (ids_in s gs) i
    index-renamed s i = rw (ids-here s, meant-renamed f same keeps (ids_in s gs) i) refl

    instruction-renamed : (ids : List (Option Id)) (i : Instruction) → instruction_bytes all (new ids) (renamed_instruction f i) ≡ instruction_bytes gs ids i
    instruction-renamed ids (c.call i) = rw (index-renamed CoreFunc i) refl
    instruction-renamed ids (c.local_get i) = rw (meant-renamed f same keeps ids i) refl
    instruction-renamed ids (c.local_set i) = rw (meant-renamed f same keeps ids i) refl
    instruction-renamed ids (c.local_tee i) = rw (meant-renamed f same keeps ids i) refl
    instruction-renamed ids (c.global_get i) = rw (index-renamed CoreGlobal i) refl
    instruction-renamed ids (c.global_set i) = rw (index-renamed CoreGlobal i) refl
    instruction-renamed ids c.nop = refl
    instruction-renamed ids _ = refl

    expression-renamed : (ids : List (Option Id)) (is : List Instruction) → expression all (new ids) (map (renamed_instruction f) is) ≡ expression gs ids is
    expression-renamed ids is = rw (flat_map-over (renamed_instruction f) (instruction_bytes gs ids) (instruction_bytes all (new ids)) (instruction-renamed ids) is) refl

    -- items of sections

    entity_of-renamed : (g : Field) → entity_of (ren g) ≡ option_map (renamed_entity f) (entity_of g)
    entity_of-renamed (c.type_field o n d) = refl
    entity_of-renamed _ = refl

    names-renamed : (g : Field) → import_names (ren g) ≡ import_names g
    names-renamed (c.type_field o n d) = refl
    names-renamed _ = refl

    exports-renamed : (g : Field) → inline_exports (ren g) ≡ inline_exports g
    exports-renamed (c.type_field o n d) = refl
    exports-renamed _ = refl

    import_by-renamed : (p : Option (Text × Text)) (e : Option Entity) → import_by all p (option_map (renamed_entity f) e) ≡ import_by gs p e
    import_by-renamed (Some p) (Some e) = rw (entity-renamed e) refl
    import_by-renamed (Some p) None = refl
    import_by-renamed None e = refl

    import-renamed : (g : Field) → import_item all (ren g) ≡ import_item gs g
    import-renamed g = rw (names-renamed g, entity_of-renamed g) (import_by-renamed (import_names g) (entity_of g))

    function-renamed : (g : Field) → function_item all (ren g) ≡ function_item gs g
    function-renamed (c.func_field o n i u ls is) = ap uleb (use-renamed u)
    function-renamed _ = refl

    table-renamed : (g : Field) → table_item all (ren g) ≡ table_item gs g
    table-renamed (c.table_field o n i l v) = rw (value-renamed' v) refl
    table-renamed _ = refl

    memory-renamed : (g : Field) → memory_item all (ren g) ≡ memory_item gs g
    memory-renamed (c.memory_field o n i l) = refl
    memory-renamed _ = refl

    global-renamed : (g : Field) → global_item all (ren g) ≡ global_item gs g
    global-renamed (c.global_field o n i v m is) = rw (value-renamed' v, expression-renamed [] is) refl
    global-renamed _ = refl

    code-renamed : (g : Field) → code_item all (ren g) ≡ code_item gs g
    code-renamed (c.func_field o n i u ls is) =
        rw (
          locals-renamed u ls,
          expression-renamed (ids_of (locals_of gs u ls)) is,
          map-over (renamed_local f) (λ l. value gs l.value) (λ l. value all l.value) (λ l. value-renamed' l.value) ls,
        ) refl
    code-renamed _ = refl

    count-renamed : (s : Space) (before : List Field) → length (items_in s (map ren before)) ≡ length (items_in s before)
    count-renamed s before = rw (items-renamed f same keeps s before) (length-map (items_in s before) ren)

    inline-renamed : (before : List Field) (s : Option Space) (xs : List Text) → inline_export_items all (map ren before) s xs ≡ inline_export_items gs before s xs
    inline-renamed before None xs = refl
    inline-renamed before (Some s) xs = rw (count-renamed s before) refl

    export-renamed : (before : List Field) (g : Field) → exports_of all (map ren before) (ren g) ≡ exports_of gs before g
    export-renamed before (c.export_field o x CoreTag i) = refl
    export-renamed before (c.export_field o x CoreFunc i) = rw (index-renamed CoreFunc i) refl
    export-renamed before (c.export_field o x s i) = rw (index-renamed s i) refl
    export-renamed before (c.import_field o m x n e) = rw (declares-renamed f same keeps (c.import_field o m x n e)) (inline-renamed before (declares (c.import_field o m x n e)) [])
    export-renamed before (c.type_field o n d) = refl
    export-renamed before (c.func_field o n i u ls is) = inline-renamed before (Some CoreFunc) i.exports
    export-renamed before (c.table_field o n i l v) = inline-renamed before (Some CoreTable) i.exports
    export-renamed before (c.memory_field o n i l) = inline-renamed before (Some CoreMemory) i.exports
    export-renamed before (c.global_field o n i v m is) = inline-renamed before (Some CoreGlobal) i.exports
    export-renamed before (c.other_field o) = refl

    filtered-renamed : (hs : List Field) → filter is_definition (map ren hs) ≡ map ren (filter is_definition hs)
    filtered-renamed [] = refl
    filtered-renamed (h ∷ hs) = rw (definition-renamed f same keeps h, filtered-renamed hs) (go (is_definition h))
      where
        go : (t : Bool) → cond t (ren h ∷ map ren (filter is_definition hs)) (map ren (filter is_definition hs)) ≡ map ren (cond t (h ∷ filter is_definition hs) (filter is_definition hs))
        go true = refl
        go false = refl

    definitions-renamed : (s : Space) → definitions_in all s ≡ map ren (definitions_in gs s)
    definitions-renamed s = rw (items-renamed f same keeps s gs) (filtered-renamed (items_in s gs))

    items_here : (s : Space) (k : List Field → Field → List ℕ) → ((g : Field) → k all (ren g) ≡ k gs g) → map (k all) (definitions_in all s) ≡ map (k gs) (definitions_in gs s)
    items_here s k e = ap (map (k all)) (definitions-renamed s) ∙ map-over ren (k gs) (k all) e (definitions_in gs s)

    sections-renamed : sections all ≡ sections gs
    sections-renamed =
        both (both (both (both (both (both (both
        (ap (λ ts. b.section 0x01 (flat_map b.type_item ts)) all_types-renamed)
        (ap (b.section 0x02) (flat_map-over ren (import_item gs) (import_item all) import-renamed gs)))
        (ap (b.section 0x03) (items_here CoreFunc function_item function-renamed)))
        (ap (b.section 0x04) (items_here CoreTable table_item table-renamed)))
        (ap (b.section 0x05) (items_here CoreMemory memory_item memory-renamed)))
        (ap (b.section 0x06) (items_here CoreGlobal global_item global-renamed)))
        (ap (λ xs. b.section 0x07 (flat_map (λ ys. ys) xs)) (each_behind-over ren (exports_of gs) (exports_of all) export-renamed [] gs)))
        (ap (b.section 0x0a) (items_here CoreFunc code_item code-renamed))

  pub module_bytes-renamed : (gs : List Field) → module_bytes (map ren gs) ≡ module_bytes gs
  module_bytes-renamed gs = ap (λ r. b.preamble ++ r) (sections-renamed gs)
