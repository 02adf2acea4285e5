-- What the resolver leaves of a module that weighs little holds little, and fits.
use Rattle.std.proofs.Common.{ℕ, suc, ◌+◌, ◌*◌, ◌≤◌, Bool, true, false, cond, List, [], ◌∷◌, ◌++◌, map, flat_map, length, Option, Some, None, option_map, is_some, sym, subst, ◌∙◌, ap, arith, length-append}
use Rattle.comp_model.specs.declared.Space.TheVariants.{CoreType}
use Rattle.comp_model.specs.Core.{Id}
use Rattle.comp_model.specs.Weight.{weight_of_all}
use Rattle.comp_model.specs.CoreModules as c
use Rattle.comp_model.specs.CoreModules.{Index, Naming, Local, FunctionType, TypeDef, TypeUse, Entity, Field}
use Rattle.core_model.specs.Items.{ids_in}
use Rattle.core_model.specs.Types.{Signature, resolved_value, written_signature, type_place, written_types, uses_of, needed_by, needed, new_type, added, added_types, nameless}
use Rattle.core_model.specs.Bytes.{section, preamble}
use Rattle.core_model.specs.NameSection.{custom}
use Rattle.core_model.specs.Module.{module_with}
use Rattle.core_model.specs.Resolved.{numbered_value, numbered_local, numbered_signature, numbered_def, numbered_field, written_value, type_added, resolved_fields}
use Rattle.core_model.specs.Weight.{weight_of_local, weight_of_type, weight_of_signature, weight_of_field, weight_alone}
use Rattle.core_model.specs.Words.{FieldsWord}
use Rattle.core_model.proofs.Lists.{Each, each-append, flat_map-append}
use Rattle.core_model.proofs.Shortness.{bytes-within-alone}
use Rattle.core_model.proofs.ResolvedFields.{resolved-are-resolved}
use Rattle.core_model.proofs.ResolvedBytes.{core_bytes-resolved}
use Rattle.core_write.specs.declared.part.Part.TheVariants as part
use Rattle.core_write.specs.Module.{items_in_part, resolved_sections, resolved_bytes, FitsModule}
use Rattle.core_write.specs.Exports.{exports_from, no_counts}
use Rattle.core_write.specs.NamesWritten.{subsections_of}
use Rattle.core_write.proofs.ModuleBytes.{bytes-same}
use Rattle.core_fits.proofs.Counted.{WordLong, long-left, long-right, length-map}
use Rattle.core_fits.proofs.Few.{Small, SmallDef, SmallSignature, Few}
use Rattle.core_fits.proofs.PartsFit.{part-fits}
use Rattle.core_fits.proofs.ExportsFit.{exports-fit}
use Rattle.core_fits.proofs.NamesFit.{name-section-fits}

-- fields that hold little, and whose bytes are a word, fit
pub few-fit : (n : Naming) (fs : List Field) → Small (length fs) → Each Few fs → WordLong (resolved_bytes n fs) → FitsModule n fs
few-fit n fs few p h =
    let s1 : List ℕ = section 0x01 (items_in_part part.Types fs) in
    let s2 : List ℕ = section 0x02 (items_in_part part.Imports fs) in
    let s3 : List ℕ = section 0x03 (items_in_part part.Functions fs) in
    let s4 : List ℕ = section 0x04 (items_in_part part.Tables fs) in
    let s5 : List ℕ = section 0x05 (items_in_part part.Memories fs) in
    let s6 : List ℕ = section 0x06 (items_in_part part.Globals fs) in
    let s7 : List ℕ = section 0x07 (exports_from no_counts fs) in
    let s8 : List ℕ = section 0x0a (items_in_part part.Code fs) in
    let w8 : WordLong (s1 ++ s2 ++ s3 ++ s4 ++ s5 ++ s6 ++ s7 ++ s8) = long-right preamble (resolved_sections fs) (long-left (preamble ++ resolved_sections fs) (custom (subsections_of n fs)) h) in
    let w7 : WordLong (s1 ++ s2 ++ s3 ++ s4 ++ s5 ++ s6 ++ s7) = long-left (s1 ++ s2 ++ s3 ++ s4 ++ s5 ++ s6 ++ s7) s8 w8 in
    let w6 : WordLong (s1 ++ s2 ++ s3 ++ s4 ++ s5 ++ s6) = long-left (s1 ++ s2 ++ s3 ++ s4 ++ s5 ++ s6) s7 w7 in
    let w5 : WordLong (s1 ++ s2 ++ s3 ++ s4 ++ s5) = long-left (s1 ++ s2 ++ s3 ++ s4 ++ s5) s6 w6 in
    let w4 : WordLong (s1 ++ s2 ++ s3 ++ s4) = long-left (s1 ++ s2 ++ s3 ++ s4) s5 w5 in
    let w3 : WordLong (s1 ++ s2 ++ s3) = long-left (s1 ++ s2 ++ s3) s4 w4 in
    let w2 : WordLong (s1 ++ s2) = long-left (s1 ++ s2) s3 w3 in
    record {
      types = part-fits part.Types 0x01 fs few p (long-left s1 s2 w2);
      imports = part-fits part.Imports 0x02 fs few p (long-right s1 s2 w2);
      functions = part-fits part.Functions 0x03 fs few p (long-right (s1 ++ s2) s3 w3);
      tables = part-fits part.Tables 0x04 fs few p (long-right (s1 ++ s2 ++ s3) s4 w4);
      memories = part-fits part.Memories 0x05 fs few p (long-right (s1 ++ s2 ++ s3 ++ s4) s5 w5);
      globals = part-fits part.Globals 0x06 fs few p (long-right (s1 ++ s2 ++ s3 ++ s4 ++ s5) s6 w6);
      exports = exports-fit 0x07 fs few (long-right (s1 ++ s2 ++ s3 ++ s4 ++ s5 ++ s6) s7 w7);
      code = part-fits part.Code 0x0a fs few p (long-right (s1 ++ s2 ++ s3 ++ s4 ++ s5 ++ s6 ++ s7) s8 w8);
      names = name-section-fits n fs few p (long-right (preamble ++ resolved_sections fs) (custom (subsections_of n fs)) h);
    }

-- what a light field holds

abbrev Light : ℕ → Type 0
Light n = n ≤ 67108864

locals-weigh : (ls : List Local) → 32 * length ls ≤ weight_of_all weight_of_local ls
locals-weigh [] = omega arith
locals-weigh (l ∷ ls) = let e = locals-weigh ls in omega (arith, e)

fields-weigh : (fs : List Field) → 32 * length fs ≤ weight_of_all weight_of_field fs
fields-weigh [] = omega arith
fields-weigh (f ∷ fs) = go f (fields-weigh fs)
  where
    go : (g : Field) → 32 * length fs ≤ weight_of_all weight_of_field fs → 32 * suc (length fs) ≤ weight_of_field g + weight_of_all weight_of_field fs
    go (c.type_field o n d) e = omega (arith, e)
    go _ e = omega (arith, e)

each-light : (fs : List Field) → Light (weight_of_all weight_of_field fs) → Each (λ f. Light (weight_of_field f)) fs
each-light [] h = tt
each-light (f ∷ fs) h = (omega (arith, h), each-light fs (omega (arith, h)))

abbrev SmallType : Signature → Type 0
SmallType s = Small (length s.params) × Small (length s.results)

signature-small : (ids : List (Option Id)) (t : Option FunctionType) → Light (weight_of_signature t) → SmallType (written_signature ids t)
signature-small ids None h = (omega arith, omega arith)
signature-small ids (Some t) h =
    let a = length-map (λ p. resolved_value ids p.value) t.params in
    let d = length-map (resolved_value ids) t.results in
    let e = locals-weigh t.params in
    (omega (arith, a, e, h), omega (arith, d, h))

needed-small : (ids : List (Option Id)) (i : Option Index) (t : Option FunctionType) → Light (weight_of_signature t) → Each SmallType (needed_by ids i t)
needed-small ids None t h = (signature-small ids t h, tt)
needed-small ids (Some i) t h = tt

use-small : (ids : List (Option Id)) (u : TypeUse) → Light (weight_of_signature u.signature) → Each SmallType (flat_map (needed ids) (u ∷ []))
use-small ids u h = each-append SmallType (needed ids u) [] (needed-small ids u.index u.signature h) tt

uses-small : (ids : List (Option Id)) (f : Field) → Light (weight_of_field f) → Each SmallType (flat_map (needed ids) (uses_of f))
uses-small ids (c.import_field o m x n (c.func u)) h = use-small ids u (omega (arith, h))
uses-small ids (c.import_field o m x n (c.table l v)) h = tt
uses-small ids (c.import_field o m x n (c.memory l)) h = tt
uses-small ids (c.import_field o m x n (c.global v b)) h = tt
uses-small ids (c.import_field o m x n (c.other_entity k)) h = tt
uses-small ids (c.func_field o n i u ls is) h = use-small ids u (omega (arith, h))
uses-small ids _ h = tt

all-uses-small : (ids : List (Option Id)) (fs : List Field) → Each (λ f. Light (weight_of_field f)) fs → Each SmallType (flat_map (needed ids) (flat_map uses_of fs))
all-uses-small ids [] h = tt
all-uses-small ids (f ∷ fs) h =
    subst (Each SmallType) (sym (flat_map-append (needed ids) (uses_of f) (flat_map uses_of fs)))
    (each-append SmallType (flat_map (needed ids) (uses_of f)) (flat_map (needed ids) (flat_map uses_of fs)) (uses-small ids f h.0) (all-uses-small ids fs h.1))

added-small : (ts : List (Option Signature)) (ss : List Signature) → Each SmallType ss → Each SmallType (added ts ss)
added-small ts [] p = tt
added-small ts (s ∷ ss) p = each-append SmallType (new_type ts s) (added (ts ++ map Some (new_type ts s)) ss) (go (is_some (type_place s ts))) (added-small (ts ++ map Some (new_type ts s)) ss p.1)
  where
    go : (b : Bool) → Each SmallType (cond b [] (s ∷ []))
    go true = tt
    go false = (p.0, tt)

-- at most one type is added for a field

count-added : (ts : List (Option Signature)) (ss : List Signature) → length (added ts ss) ≤ length ss
count-added ts [] = omega arith
count-added ts (s ∷ ss) =
    let e = count-added (ts ++ map Some (new_type ts s)) ss in
    let d = length-append (new_type ts s) (added (ts ++ map Some (new_type ts s)) ss) in
    let h = go (is_some (type_place s ts)) in
    omega (arith, e, d, h)
  where
    go : (b : Bool) → length (cond b [] (s ∷ [])) ≤ 1
    go true = omega arith
    go false = omega arith

count-needed : (ids : List (Option Id)) (i : Option Index) (t : Option FunctionType) → length (needed_by ids i t) ≤ 1
count-needed ids None t = omega arith
count-needed ids (Some i) t = omega arith

count-use : (ids : List (Option Id)) (u : TypeUse) → length (flat_map (needed ids) (u ∷ [])) ≤ 1
count-use ids u = let e = count-needed ids u.index u.signature in let d = length-append (needed ids u) [] in omega (arith, e, d)

count-uses : (ids : List (Option Id)) (f : Field) → length (flat_map (needed ids) (uses_of f)) ≤ 1
count-uses ids (c.import_field o m x n (c.func u)) = count-use ids u
count-uses ids (c.import_field o m x n (c.table l v)) = omega arith
count-uses ids (c.import_field o m x n (c.memory l)) = omega arith
count-uses ids (c.import_field o m x n (c.global v b)) = omega arith
count-uses ids (c.import_field o m x n (c.other_entity k)) = omega arith
count-uses ids (c.func_field o n i u ls is) = count-use ids u
count-uses ids _ = omega arith

count-all-uses : (ids : List (Option Id)) (fs : List Field) → length (flat_map (needed ids) (flat_map uses_of fs)) ≤ length fs
count-all-uses ids [] = omega arith
count-all-uses ids (f ∷ fs) =
    let e = count-all-uses ids fs in
    let h = count-uses ids f in
    let d = length-append (flat_map (needed ids) (uses_of f)) (flat_map (needed ids) (flat_map uses_of fs)) in
    let k = ap length (flat_map-append (needed ids) (uses_of f) (flat_map uses_of fs)) in
    omega (arith, e, h, d, k)

-- what is left of a field holds as little

module _ (fs : List Field) where
  type-small : (t : FunctionType) → Light (weight_of_type t) → SmallDef (numbered_def fs (c.function t))
  type-small t h =
      let a = length-map (numbered_local (ids_in CoreType fs)) t.params in
      let d = length-map (numbered_value (ids_in CoreType fs)) t.results in
      let e = locals-weigh t.params in
      (omega (arith, a, e, h), omega (arith, d, h))

  written-small : (t : Option FunctionType) → Light (weight_of_signature t) → SmallSignature (option_map (numbered_signature (ids_in CoreType fs)) t)
  written-small None h = tt
  written-small (Some t) h = let a = length-map (numbered_local (ids_in CoreType fs)) t.params in let e = locals-weigh t.params in omega (arith, a, e, h)

  field-few : (f : Field) → Light (weight_of_field f) → Few (numbered_field fs f)
  field-few (c.type_field o n (c.function t)) h = type-small t (omega (arith, h))
  field-few (c.type_field o n (c.other_type k)) h = tt
  field-few (c.func_field o n i u ls is) h =
      let a = length-map (numbered_local (ids_in CoreType fs)) ls in
      let e = locals-weigh ls in
      (written-small u.signature (omega (arith, h)), omega (arith, a, e, h))
  field-few _ h = tt

  fields-few : (gs : List Field) → Each (λ f. Light (weight_of_field f)) gs → Each Few (map (numbered_field fs) gs)
  fields-few [] p = tt
  fields-few (g ∷ gs) p = (field-few g p.0, fields-few gs p.1)

types-few : (ss : List Signature) → Each SmallType ss → Each Few (map type_added ss)
types-few [] p = tt
types-few (s ∷ ss) p =
    let a = length-map (λ v. nameless (written_value v)) s.params in
    let d = length-map written_value s.results in
    let h = p.0.0 in
    let k = p.0.1 in
    ((omega (arith, a, h), omega (arith, d, k)), types-few ss p.1)

resolved-few : (fs : List Field) → Light (weight_of_all weight_of_field fs) → Each Few (resolved_fields fs)
resolved-few fs h =
    let light = each-light fs h in
    each-append Few (map (numbered_field fs) fs) (map type_added (added_types fs)) (fields-few fs fs light)
    (types-few (added_types fs) (added-small (written_types fs) (flat_map (needed (ids_in CoreType fs)) (flat_map uses_of fs)) (all-uses-small (ids_in CoreType fs) fs light)))

resolved-count : (fs : List Field) → Light (weight_of_all weight_of_field fs) → Small (length (resolved_fields fs))
resolved-count fs h =
    let w = fields-weigh fs in
    let a = length-map (numbered_field fs) fs in
    let d = length-map type_added (added_types fs) in
    let e = count-added (written_types fs) (flat_map (needed (ids_in CoreType fs)) (flat_map uses_of fs)) in
    let u = count-all-uses (ids_in CoreType fs) fs in
    let k = length-append (map (numbered_field fs) fs) (map type_added (added_types fs)) in
    omega (arith, w, a, d, e, u, k, h)

resolved-long : (n : Naming) (fs : List Field) → FieldsWord fs → Light (weight_alone (module_with n fs)) → WordLong (resolved_bytes n (resolved_fields fs))
resolved-long n fs p h =
    let e = ap length (bytes-same n (resolved_fields fs) (resolved-are-resolved fs) ∙ core_bytes-resolved n fs) in
    let b = bytes-within-alone (module_with n fs) p (omega (arith, h)) in
    omega (arith, e, b, h)

pub light-fits : (n : Naming) (fs : List Field) → FieldsWord fs → weight_alone (module_with n fs) ≤ 67108864 → FitsModule n (resolved_fields fs)
light-fits n fs p h =
    let w : Light (weight_of_all weight_of_field fs) = omega (arith, h) in
    few-fit n (resolved_fields fs) (resolved-count fs w) (resolved-few fs w) (resolved-long n fs p h)
