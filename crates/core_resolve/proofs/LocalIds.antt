-- Ids behind parameters that have none.
use Rattle.std.proofs.Common.{◌≡◌, ℕ, zero, suc, ◌+◌, ◌^◌, length-append, ◌<◌, Bool, true, false, cond, List, [], ◌∷◌, ◌++◌, map, length, slice_get, Option, Some, None, option_map, unwrap_or, refl, sym, ◌∙◌, ap, arith}
use Rattle.std.proofs.lemmas.List.{length-map}
use Rattle.comp_model.specs.Core.{Id, CoreValue}
use Rattle.comp_model.specs.Spaces.{bears}
use Rattle.comp_model.specs.CoreModules.{Local, FunctionType, TypeUse, Field}
use Rattle.core_model.specs.Items.{place_of}
use Rattle.core_model.specs.Types.{Signature, all_types, nameless, params_of_type, params_by, type_of_use, written_params, locals_of, ids_of}
use Rattle.core_model.proofs.Lists.{map-append}
use Rattle.core_resolve.specs.LocalIds.{behind_nameless, nameless_by, nameless_count, FitsBehind}

-- the place behind so many
pub place-behind : (x : Id) (n : ℕ) (ids : List (Option Id)) → place_of x (behind_nameless n ids) ≡ option_map (λ i. n + i) (place_of x ids)
place-behind x zero ids = go (place_of x ids)
  where
    go : (o : Option ℕ) → o ≡ option_map (λ i. 0 + i) o
    go None = refl
    go (Some i) = ap Some (omega arith)
place-behind x (suc n) ids = ap (option_map suc) (place-behind x n ids) ∙ go (place_of x ids)
  where
    go : (o : Option ℕ) → option_map suc (option_map (λ i. n + i) o) ≡ option_map (λ i. suc n + i) o
    go None = refl
    go (Some i) = ap Some (omega arith)

-- a place is one of the list
pub place-below : (x : Id) (ids : List (Option Id)) (i : ℕ) → Some i ≡ place_of x ids → i < length ids
place-below x [] i e = cc
place-below x (y ∷ ids) i e = here (bears x y) (place_of x ids) (place-below x ids) e
  where
    later : (o : Option ℕ) → ((j : ℕ) → Some j ≡ o → j < length ids) → Some i ≡ option_map suc o → i < suc (length ids)
    later None below d = cc
    later (Some j) below d = let a : j < length ids = below j refl in let b : i ≡ suc j = cc in omega (arith, a, b)

    here : (b : Bool) (o : Option ℕ) → ((j : ℕ) → Some j ≡ o → j < length ids) → Some i ≡ cond b (Some 0) (option_map suc o) → i < suc (length ids)
    here true o below d = let b : i ≡ 0 = cc in omega (arith, b)
    here false o below d = later o below d

-- the number of a name behind so many
pub some-behind : (x : Id) (n : ℕ) (ids : List (Option Id)) (i : ℕ) → Some i ≡ place_of x ids → n + i ≡ unwrap_or (place_of x (behind_nameless n ids)) 0
some-behind x n ids i e = sym (ap (λ o. unwrap_or o 0) (place-behind x n ids ∙ ap (option_map (λ j. n + j)) (sym e)))

-- the places among few ids fit behind few others, and all fit behind none
pub few-behind : (n : ℕ) (ids : List (Option Id)) → n + length ids < 2 ^ 32 → FitsBehind n ids
few-behind n ids h x i r e = omega (arith, place-below x ids i e, h)

pub none_in_front : (ids : List (Option Id)) → FitsBehind 0 ids
none_in_front ids x i r e = omega (arith, r)

nameless-ids : (vs : List CoreValue) (ls : List Local) → ids_of (map nameless vs ++ ls) ≡ behind_nameless (length (map nameless vs)) (ids_of ls)
nameless-ids [] ls = refl
nameless-ids (v ∷ vs) ls = ap (λ ids. None ∷ ids) (nameless-ids vs ls)

type-ids : (t : Option (Option Signature)) (ls : List Local) → ids_of (params_of_type t ++ ls) ≡ behind_nameless (length (params_of_type t)) (ids_of ls)
type-ids None ls = refl
type-ids (Some None) ls = refl
type-ids (Some (Some s)) ls = nameless-ids s.params ls

locals-by : (fs : List Field) (i : ℕ) (t : Option FunctionType) (ls : List Local) → ids_of (params_by fs i t ++ ls) ≡ behind_nameless (nameless_by fs i t) (ids_of (written_params t) ++ ids_of ls)
locals-by fs i (Some t) ls = map-append (λ l. l.naming.id) t.params ls
locals-by fs i None ls = type-ids (slice_get (all_types fs) i) ls

-- the ids of parameters and locals
pub locals-behind : (fs : List Field) (u : TypeUse) (ls : List Local) → ids_of (locals_of fs u ls) ≡ behind_nameless (nameless_count fs u) (ids_of (written_params u.signature) ++ ids_of ls)
locals-behind fs u ls = locals-by fs (type_of_use fs u) u.signature ls

-- these among the parameters and locals that are written, behind those without ids
pub locals-as : (fs : List Field) (u : TypeUse) (ls : List Local) (n : ℕ) → n ≡ nameless_count fs u → behind_nameless n (ids_of (written_params u.signature ++ ls)) ≡ ids_of (locals_of fs u ls)
locals-as fs u ls n e =
    ap (λ m. behind_nameless m (ids_of (written_params u.signature ++ ls))) e ∙ ap (behind_nameless (nameless_count fs u)) (map-append (λ l. l.naming.id) (written_params u.signature) ls) ∙ sym (locals-behind fs u ls)

pub few-within : (n : ℕ) (ps ls : List Local) → n < 2 ^ 31 → length ps + length ls < 2 ^ 31 → FitsBehind n (ids_of (ps ++ ls))
few-within n ps ls h few =
    let a : length (ids_of (ps ++ ls)) ≡ length (ps ++ ls) = length-map (ps ++ ls) (λ l. l.naming.id) in
    let b = length-append ps ls in
    few-behind n (ids_of (ps ++ ls)) (omega (arith, a, b, h, few))
