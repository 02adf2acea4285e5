-- Where each numeral is a machine word and the weight is small, each part that holds one number is short; so the bytes are at most eight times the weight.
use Rattle.std.proofs.Common.{◌≡◌, ℕ, zero, suc, ◌+◌, ◌*◌, ◌/◌, ◌<◌, ◌≤◌, ◌^◌, ℤ, pos, negsuc, Bool, true, false, cond, List, [], ◌∷◌, length, Option, Some, None, option_map, unwrap_or, inl, inr, ap, arith, length-append, lit<, lit≤}
use Rattle.std.proofs.lemmas.Bool.{cases_lt}
use Rattle.std.proofs.lemmas.List.{length-map}
use Rattle.comp_model.specs.declared.Space.{Space}
use Rattle.comp_model.specs.declared.Space.TheVariants.{CoreFunc, CoreGlobal, CoreType}
use Rattle.comp_model.specs.Core as core
use Rattle.comp_model.specs.Core.{Id, CoreValue}
use Rattle.comp_model.specs.Spaces.{bears}
use Rattle.comp_model.specs.Weight.{weight_of_all}
use Rattle.comp_model.specs.Leb.{leb, plain, turned, uleb, signed_leb}
use Rattle.comp_wire.specs.Spelled.{core_bytes}
use Rattle.comp_wire.proofs.Numbers.{leb-small, leb-large, uleb_short, sleb_short}
use Rattle.comp_model.specs.CoreModules as c
use Rattle.comp_model.specs.CoreModules.{Index, Local, FunctionType, TypeUse, Limits, Entity, Instruction, Field, CoreModule}
use Rattle.core_model.specs.Items.{naming_of, declares, is_space, items_in, ids_in, place_of, index_of}
use Rattle.core_model.specs.Types.{Signature, reference_to, resolved_value, written_signature, type_place, is_type, all_types, type_by, type_of_use, params_by, locals_of, ids_of}
use Rattle.core_model.specs.Bytes.{limits_by, instruction_bytes}
use Rattle.core_model.specs.Weight.{weight_of_local, weight_of_signature, weight_of_field, module_weight, weight_of_naming, weight_alone}
use Rattle.core_model.specs.Module.{core_bytes as core_bytes_of}
use Rattle.core_model.proofs.Short.{ShortValue, ShortValues, ShortLocals, ShortType, ShortSignature, ShortUse, ShortLimits, ShortEntity, ShortBody, ShortField, EachShort, ShortParts}
use Rattle.core_model.specs.Words.{Word, IndexWord, ValueWord, ValuesWord, LocalsWord, TypeWord, OptionWord, SignatureWord, UseWord, MostWord, LimitsWord, EntityWord, IntWord, InstructionWord, BodyWord, FieldWord, FieldsWord}
use Rattle.core_model.proofs.Lists.{length-filter}
use Rattle.core_model.proofs.Within.{bytes-within}
use Rattle.core_model.proofs.Counts.{types-counted, params-counted, locals-weigh, types-share}

-- constants

module _ (digit : ℕ → ℕ) where
  grows : (n l : ℕ) → length (leb digit 64 (n / 128)) ≤ l → length (leb digit 64 n) ≤ suc l
  grows n l h = elim (cases_lt n 64) [
    | inl p ↦ let e = ap length (leb-small digit 64 (lit< tt) (lit≤ tt) n p) in omega (arith, e)
    | inr p ↦ let e = ap length (leb-large digit 64 (lit< tt) (lit≤ tt) n p) in omega (arith, e, h)
  ]

  one : (n : ℕ) → n < 2 ^ 6 → length (leb digit 64 n) ≤ 1
  one n h = let e = ap length (leb-small digit 64 (lit< tt) (lit≤ tt) n h) in omega (arith, e)

  -- 7 bits more for each further byte
  abbrev bound : ℕ → ℕ
  bound zero = 64
  bound (suc k) = 128 * bound k

  within : (k n : ℕ) → n < bound k → length (leb digit 64 n) ≤ suc k
  within zero n h = one n h
  within (suc k) n h = grows n (suc k) (within k (n / 128) (omega (arith, h)))

  ten : (n : ℕ) → n < 2 ^ 63 → length (leb digit 64 n) ≤ 10
  ten n h = within 9 n (omega (arith, h))

int-short : (limit : ℕ) (n : ℤ) → limit ≤ 2 ^ 63 → IntWord limit n → length (signed_leb n) ≤ 10
int-short limit (pos n) l h = ten plain n (omega (arith, l, h))
int-short limit (negsuc n) l h = ten turned n (omega (arith, l, h))

-- places are less than lengths

suc-within : (o : Option ℕ) (l : ℕ) → unwrap_or o 0 ≤ l → unwrap_or (option_map suc o) 0 ≤ suc l
suc-within None l h = omega arith
suc-within (Some n) l h = omega (arith, h)

found-within : (b : Bool) (o : Option ℕ) (l : ℕ) → unwrap_or o 0 ≤ l → unwrap_or (cond b (Some 0) (option_map suc o)) 0 ≤ suc l
found-within true o l h = omega arith
found-within false o l h = suc-within o l h

place-within : (x : Id) (ids : List (Option Id)) → unwrap_or (place_of x ids) 0 ≤ length ids
place-within x [] = omega arith
place-within x (y ∷ ys) = found-within (bears x y) (place_of x ys) (length ys) (place-within x ys)

type-within : (s : Signature) (ts : List (Option Signature)) → unwrap_or (type_place s ts) 0 ≤ length ts
type-within s [] = omega arith
type-within s (t ∷ ts) = found-within (is_type s t) (type_place s ts) (length ts) (type-within s ts)

index-word : (ids : List (Option Id)) (i : Index) → length ids < 2 ^ 32 → IndexWord i → index_of ids i < 2 ^ 32
index-word ids (c.number o n) l h = h
index-word ids (c.named x) l h = let e = place-within x ids in omega (arith, l, e)

reference-short : (b : Bool) (o : Option ℕ) → unwrap_or o 0 < 2 ^ 32 → length (core_bytes (reference_to b o)) ≤ 6
reference-short b None h = omega arith
reference-short true (Some n) h = let e = sleb_short n h in omega (arith, e)
reference-short false (Some n) h = let e = sleb_short n h in omega (arith, e)

value-short : (ids : List (Option Id)) (v : CoreValue) → length ids < 2 ^ 32 → ValueWord v → length (core_bytes (resolved_value ids v)) ≤ 6
value-short ids (core.ref_func true) l h = omega arith
value-short ids (core.ref_func false) l h = omega arith
value-short ids (core.ref_extern true) l h = omega arith
value-short ids (core.ref_extern false) l h = omega arith
value-short ids (core.ref_index b n) l h = reference-short b (Some n) h
value-short ids (core.ref_numeral b o n) l h = reference-short b (Some n) h
value-short ids (core.ref_name b r x) l h = let e = place-within x ids in reference-short b (place_of x ids) (omega (arith, l, e))
value-short ids core.i32 l h = omega arith
value-short ids _ l h = omega arith

most-short : (n : ℕ) (m : Option ℕ) → Word n → MostWord m → length (limits_by n m) ≤ 11
most-short n None h k = let a = uleb_short n h in omega (arith, a)
most-short n (Some m) h k = let a = uleb_short n h in let d = uleb_short m k in let e = length-append (uleb n) (uleb m) in omega (arith, a, d, e)

ids-within : (s : Space) (gs : List Field) → length (ids_in s gs) ≤ length gs
ids-within s gs = let a = length-map (items_in s gs) (λ f. (naming_of f).id) in let d = length-filter (λ f. is_space s (declares f)) gs in omega (arith, a, d)

module _ (fs : List Field) where
  abbrev type_ids : List (Option Id)
  type_ids = ids_in CoreType fs

  fields-count : (gs : List Field) → length gs ≤ weight_of_all weight_of_field gs
  fields-count [] = omega arith
  fields-count (g ∷ gs) = go g (fields-count gs)
    where
      go : (h : Field) → length gs ≤ weight_of_all weight_of_field gs → suc (length gs) ≤ weight_of_field h + weight_of_all weight_of_field gs
      go (c.type_field o n d) e = omega (arith, e)
      go _ e = omega (arith, e)

  module _ (light : 8 * weight_of_all weight_of_field fs < 2 ^ 32) where
    ids-word : (s : Space) → length (ids_in s fs) < 2 ^ 32
    ids-word s = let a = ids-within s fs in let d = fields-count fs in omega (arith, a, d, light)

    short-value : (v : CoreValue) → ValueWord v → ShortValue fs v
    short-value v h = value-short type_ids v (ids-word CoreType) h

    short-values : (vs : List CoreValue) → ValuesWord vs → ShortValues fs vs
    short-values [] h = tt
    short-values (v ∷ vs) h = (short-value v h.0, short-values vs h.1)

    short-locals : (ls : List Local) → LocalsWord ls → ShortLocals fs ls
    short-locals [] h = tt
    short-locals (l ∷ ls) h = (short-value l.value h.0, short-locals ls h.1)

    short-type : (t : FunctionType) → TypeWord t → ShortType fs t
    short-type t h = (short-locals t.params h.0, short-values t.results h.1)

    short-signature : (t : Option FunctionType) → SignatureWord t → ShortSignature fs t
    short-signature None h = tt
    short-signature (Some t) h = short-type t h

    type-word : (i : Option Index) (t : Option FunctionType) → OptionWord i → type_by fs i t < 2 ^ 32
    type-word None t h =
        let a = type-within (written_signature type_ids t) (all_types fs) in
        let d = types-counted (all_types fs) in
        let e = types-share fs in
        omega (arith, a, d, e, light)
    type-word (Some i) t h = index-word type_ids i (ids-word CoreType) h

    short-use : (u : TypeUse) → UseWord u → ShortUse fs u
    short-use u h = (uleb_short (type_of_use fs u) (type-word u.index u.signature h.0), short-signature u.signature h.1)

    short-limits : (l : Limits) → LimitsWord l → ShortLimits fs l
    short-limits l h = most-short l.least l.most h.0 h.1

    short-entity : (e : Entity) → EntityWord e → ShortEntity fs e
    short-entity (c.func u) h = short-use u h
    short-entity (c.table l v) h = (short-limits l h.0, short-value v h.1)
    short-entity (c.memory l) h = short-limits l h
    short-entity (c.global v m) h = short-value v h
    short-entity (c.other_entity o) h = tt

    short-index : (ids : List (Option Id)) (i : Index) → length ids < 2 ^ 32 → IndexWord i → length (uleb (index_of ids i)) ≤ 5
    short-index ids i l h = uleb_short (index_of ids i) (index-word ids i l h)

    short-instruction : (ids : List (Option Id)) (i : Instruction) → length ids < 2 ^ 32 → InstructionWord i → length (instruction_bytes fs ids i) ≤ 11
    short-instruction ids (c.call i) l h = let e = short-index (ids_in CoreFunc fs) i (ids-word CoreFunc) h in omega (arith, e)
    short-instruction ids (c.local_get i) l h = let e = short-index ids i l h in omega (arith, e)
    short-instruction ids (c.local_set i) l h = let e = short-index ids i l h in omega (arith, e)
    short-instruction ids (c.local_tee i) l h = let e = short-index ids i l h in omega (arith, e)
    short-instruction ids (c.global_get i) l h = let e = short-index (ids_in CoreGlobal fs) i (ids-word CoreGlobal) h in omega (arith, e)
    short-instruction ids (c.global_set i) l h = let e = short-index (ids_in CoreGlobal fs) i (ids-word CoreGlobal) h in omega (arith, e)
    short-instruction ids (c.i32_const n) l h = let e = int-short (2 ^ 31) n (omega arith) h in omega (arith, e)
    short-instruction ids (c.i64_const n) l h = let e = int-short (2 ^ 63) n (omega arith) h in omega (arith, e)
    short-instruction ids c.nop l h = omega arith
    short-instruction ids _ l h = omega arith

    short-body : (ids : List (Option Id)) (is : List Instruction) → length ids < 2 ^ 32 → BodyWord is → ShortBody fs ids is
    short-body ids [] l h = tt
    short-body ids (i ∷ is) l h = (short-instruction ids i l h.0, short-body ids is l h.1)

    params-word : (i : ℕ) (t : Option FunctionType) → length (params_by fs i t) ≤ weight_of_signature t + 2 * weight_of_all weight_of_field fs
    params-word i (Some t) = let e = locals-weigh t.params in omega (arith, e)
    params-word i None = let a = params-counted (all_types fs) i in let d = types-share fs in omega (arith, a, d)

    locals-word : (u : TypeUse) (ls : List Local) → weight_of_signature u.signature + weight_of_all weight_of_local ls ≤ weight_of_all weight_of_field fs → length (locals_of fs u ls) < 2 ^ 32
    locals-word u ls w =
        let a = params-word (type_of_use fs u) u.signature in
        let d = locals-weigh ls in
        let e = length-append (params_by fs (type_of_use fs u) u.signature) ls in
        omega (arith, a, d, e, w, light)

    ids-of-locals : (ls : List Local) → length (ids_of ls) ≡ length ls
    ids-of-locals ls = length-map ls (λ l. l.naming.id)

    short-field : (f : Field) → weight_of_field f ≤ weight_of_all weight_of_field fs → FieldWord f → ShortField fs f
    short-field (c.type_field o n (c.function t)) w h = short-type t h
    short-field (c.type_field o n (c.other_type k)) w h = tt
    short-field (c.import_field o m x n e) w h = short-entity e h
    short-field (c.func_field o n i u ls is) w h =
        let l = locals-word u ls (omega (arith, w)) in
        let q = ids-of-locals (locals_of fs u ls) in
        (short-use u h.0, short-locals ls h.1, short-body (ids_of (locals_of fs u ls)) is (omega (arith, l, q)) h.2, l)
    short-field (c.table_field o n i l v) w h = (short-limits l h.0, short-value v h.1)
    short-field (c.memory_field o n i l) w h = short-limits l h
    short-field (c.global_field o n i v m is) w h = (short-value v h.0, short-body [] is (omega arith) h.1)
    short-field (c.export_field o x s i) w h = short-index (ids_in s fs) i (ids-word s) h
    short-field (c.other_field o) w h = tt

    short-fields : (gs : List Field) → weight_of_all weight_of_field gs ≤ weight_of_all weight_of_field fs → FieldsWord gs → EachShort fs gs
    short-fields [] w h = tt
    short-fields (g ∷ gs) w h = (short-field g (omega (arith, w)) h.0, short-fields gs (omega (arith, w)) h.1)

pub words-short : (fs : List Field) → 8 * weight_of_all weight_of_field fs < 2 ^ 32 → FieldsWord fs → ShortParts fs
words-short fs w h = short-fields fs w fs (omega arith) h

pub bytes-within-words : (m : CoreModule) → FieldsWord m.fields → 8 * (32 + module_weight m) + weight_of_naming m.naming < 2 ^ 32
    → length (core_bytes_of m) ≤ 8 * (32 + module_weight m) + weight_of_naming m.naming
bytes-within-words m h w = bytes-within m (words-short m.fields (omega (arith, w)) h) w

pub bytes-within-alone : (m : CoreModule) → FieldsWord m.fields → 8 * weight_alone m < 2 ^ 32 → length (core_bytes_of m) ≤ 8 * weight_alone m
bytes-within-alone m h w = let b = bytes-within-words m h (omega (arith, w)) in omega (arith, b)
