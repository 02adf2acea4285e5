-- How many types there are, and how many parameters they have: a small part of the weight of the fields.
use Rattle.std.proofs.Common.{◌≡◌, ℕ, zero, suc, ◌+◌, ◌*◌, ◌≤◌, Bool, true, false, cond, List, [], ◌∷◌, ◌++◌, length, map, flat_map, slice_get, Option, Some, None, is_some, refl, ap, arith}
use Rattle.std.proofs.lemmas.List.{length-map}
use Rattle.comp_model.specs.declared.Space.TheVariants.{CoreType}
use Rattle.comp_model.specs.Core.{Id}
use Rattle.comp_model.specs.CoreModules as c
use Rattle.comp_model.specs.CoreModules.{Index, Local, FunctionType, TypeUse, Field}
use Rattle.comp_model.specs.Weight.{weight_of_all}
use Rattle.core_model.specs.Items.{is_space, declares, items_in, ids_in}
use Rattle.core_model.specs.Types.{Signature, resolved_value, written_signature, written_type, written_types, uses_of, needed_by, needed, new_type, type_place, added, added_types, all_types, nameless, params_of_type}
use Rattle.core_model.specs.Weight.{weight_of_local, weight_of_signature, weight_of_field, core_weight}
use Rattle.core_model.proofs.Lists.{Each, each-append, flat_map-append}
use Rattle.core_model.proofs.Sums.{sum-append, sum-filter}

-- what a type and its parameters weigh at least
abbrev pub share_of : Signature → ℕ
share_of s = 32 + 32 * length s.params

abbrev pub share : Option Signature → ℕ
share None = 32
share (Some s) = share_of s

pub types-counted : (ts : List (Option Signature)) → 32 * length ts ≤ weight_of_all share ts
types-counted [] = omega arith
types-counted (None ∷ ts) = let e = types-counted ts in omega (arith, e)
types-counted (Some s ∷ ts) = let e = types-counted ts in omega (arith, e)

pub params-counted : (ts : List (Option Signature)) (i : ℕ) → 32 * length (params_of_type (slice_get ts i)) ≤ weight_of_all share ts
params-counted [] i = omega arith
params-counted (None ∷ ts) zero = omega arith
params-counted (Some s ∷ ts) zero = let a = length-map s.params nameless in omega (arith, a)
params-counted (t ∷ ts) (suc i) = let e = params-counted ts i in omega (arith, e)

pub locals-weigh : (ls : List Local) → 32 * length ls ≤ weight_of_all weight_of_local ls
locals-weigh [] = omega arith
locals-weigh (l ∷ ls) = let e = locals-weigh ls in omega (arith, e)

signature-share : (ids : List (Option Id)) (t : Option FunctionType) → share_of (written_signature ids t) ≤ 32 + weight_of_signature t
signature-share ids None = omega arith
signature-share ids (Some t) = let a = length-map t.params (λ p. resolved_value ids p.value) in let e = locals-weigh t.params in omega (arith, a, e)

written-share : (ids : List (Option Id)) (g : Field) → share (written_type ids g) ≤ weight_of_field g
written-share ids (c.type_field o n (c.function t)) = let e = signature-share ids (Some t) in omega (arith, e)
written-share ids _ = omega arith

-- what holds of each signature holds of each added type
pub each-added : (P : Signature → Type 0) (ts : List (Option Signature)) (ss : List Signature) → Each P ss → Each P (added ts ss)
each-added P ts [] p = tt
each-added P ts (s ∷ ss) p =
    each-append P (new_type ts s) (added (ts ++ map Some (new_type ts s)) ss) (go (is_some (type_place s ts))) (each-added P (ts ++ map Some (new_type ts s)) ss p.1)
  where
    go : (t : Bool) → Each P (cond t [] (s ∷ []))
    go true = tt
    go false = (p.0, tt)

-- what added types weigh, by whatever weight of one
pub added-sum : (weight : Signature → ℕ) (ts : List (Option Signature)) (ss : List Signature) → weight_of_all weight (added ts ss) ≤ weight_of_all weight ss
added-sum weight ts [] = omega arith
added-sum weight ts (s ∷ ss) =
    let e = added-sum weight (ts ++ map Some (new_type ts s)) ss in
    let d = sum-append weight (new_type ts s) (added (ts ++ map Some (new_type ts s)) ss) in
    let h = go (is_some (type_place s ts)) in
    omega (arith, e, d, h)
  where
    go : (t : Bool) → weight_of_all weight (cond t [] (s ∷ [])) ≤ weight s
    go true = omega arith
    go false = omega arith

module _ (ids : List (Option Id)) where
  written-sum : (gs : List Field) → weight_of_all share (map (written_type ids) gs) ≤ weight_of_all weight_of_field gs
  written-sum [] = omega arith
  written-sum (g ∷ gs) = let e = written-sum gs in let d = written-share ids g in omega (arith, e, d)

  some-sum : (ss : List Signature) → weight_of_all share (map Some ss) ≡ weight_of_all share_of ss
  some-sum [] = refl
  some-sum (s ∷ ss) = let e = some-sum ss in omega (arith, e)

  needed-share : (i : Option Index) (t : Option FunctionType) → weight_of_all share_of (needed_by ids i t) ≤ 32 + weight_of_signature t
  needed-share None t = let e = signature-share ids t in omega (arith, e)
  needed-share (Some i) t = omega arith

  use-share : (u : TypeUse) → weight_of_all share_of (flat_map (needed ids) (u ∷ [])) ≤ 32 + weight_of_signature u.signature
  use-share u = let e = needed-share u.index u.signature in let d = sum-append share_of (needed ids u) [] in omega (arith, e, d)

  field-share : (g : Field) → weight_of_all share_of (flat_map (needed ids) (uses_of g)) ≤ weight_of_field g
  field-share (c.import_field o m x n (c.func u)) = let e = use-share u in omega (arith, e)
  field-share (c.import_field o m x n (c.table l v)) = omega arith
  field-share (c.import_field o m x n _) = omega arith
  field-share (c.func_field o n i u ls is) = let e = use-share u in omega (arith, e)
  field-share _ = omega arith

  needs-share : (gs : List Field) → weight_of_all share_of (flat_map (needed ids) (flat_map uses_of gs)) ≤ weight_of_all weight_of_field gs
  needs-share [] = omega arith
  needs-share (g ∷ gs) =
      let e = needs-share gs in
      let d = field-share g in
      let a = ap (weight_of_all share_of) (flat_map-append (needed ids) (uses_of g) (flat_map uses_of gs)) in
      let k = sum-append share_of (flat_map (needed ids) (uses_of g)) (flat_map (needed ids) (flat_map uses_of gs)) in
      omega (arith, e, d, a, k)

pub types-share : (fs : List Field) → weight_of_all share (all_types fs) ≤ 2 * core_weight fs
types-share fs =
    let ss : List Signature = flat_map (needed (ids_in CoreType fs)) (flat_map uses_of fs) in
    let a = sum-append share (written_types fs) (map Some (added_types fs)) in
    let d = written-sum (ids_in CoreType fs) (items_in CoreType fs) in
    let e = sum-filter weight_of_field (λ f. is_space CoreType (declares f)) fs in
    let g = some-sum (ids_in CoreType fs) (added_types fs) in
    let h = added-sum share_of (written_types fs) ss in
    let k = needs-share (ids_in CoreType fs) fs in
    omega (arith, a, d, e, g, h, k)
