-- Chains of parts: where the item of an index stands in one.
use Rattle.std.proofs.Common.{◌≡◌, ℕ, zero, suc, ◌+◌, ◌-◌, ◌<◌, ◌≤◌, ◌^◌, refl, sym, ap, ◌∙◌, List, [], ◌∷◌, ◌++◌, length, slice_get, get_or, set, replicate, Option, Some, None, arith, subst}
use Rattle.comp_model.specs.declared.Space.{Space}
use Rattle.comp_model.specs.Spaces.{code_of_space}
use Rattle.std.proofs.lemmas.List.{length-append, length-replicate}
use Rattle.comp_list.specs.declared.line.Spot.{Spot}
use Rattle.comp_list.specs.declared.spots.Parts.{Parts}
use Rattle.comp_list.specs.Spots.{part_spots, spots_in, IsChain, no_parts, end_of, ends_before, EachChain, AreChains, chain_spots, spots_of}

parts_counted : (k p n : ℕ) → length (part_spots k p n) ≡ n
parts_counted k p zero = refl
parts_counted k p (suc n) = ap suc (parts_counted k (p + 1) n)

spot : ℕ → ℕ → Spot
spot k p = record { def = k; part = p }

part_at : (k p n j : ℕ) → j < n → slice_get (part_spots k p n) j ≡ Some (spot k (p + j))
unfolding spot
part_at k p zero j h = absurd (omega (arith, h))
part_at k p (suc n) zero h = let z : p ≡ p + 0 = omega arith in ap (λ q. Some (spot k q)) z
part_at k p (suc n) (suc j) h =
    let less : j < n = omega (arith, h) in
    let z : p + 1 + j ≡ p + suc j = omega arith in
    part_at k (p + 1) n j less ∙ ap (λ q. Some (spot k q)) z

get_front : (xs ys : List Spot) (i : ℕ) → i < length xs → slice_get (xs ++ ys) i ≡ slice_get xs i
get_front [] ys i h = absurd (omega (arith, h))
get_front (x ∷ xs) ys zero h = refl
get_front (x ∷ xs) ys (suc i) h = let less : i < length xs = omega (arith, h) in get_front xs ys i less

get_behind : (xs ys : List Spot) (i j : ℕ) → i ≡ length xs + j → slice_get (xs ++ ys) i ≡ slice_get ys j
get_behind [] ys i j e = let z : i ≡ j = omega (arith, e) in ap (slice_get ys) z
get_behind (x ∷ xs) ys zero j e = absurd (omega (arith, e))
get_behind (x ∷ xs) ys (suc i) j e = let z : i ≡ length xs + j = omega (arith, e) in get_behind xs ys i j z

-- the end of each lies above where the chain begins
ends_above : (b : ℕ) (rs : List Parts) (k : ℕ) → IsChain b rs → k < length rs → b < end_of rs k
ends_above b [] k c h = absurd (omega (arith, h))
ends_above b (r ∷ rs) zero c h = c.1
ends_above b (r ∷ rs) (suc k) c h =
    let less : k < length rs = omega (arith, h) in
    omega (arith, c.1, ends_above r.end rs k c.4 less)

pub ends_rise : (b : ℕ) (rs : List Parts) (j k : ℕ) → IsChain b rs → j ≤ k → k < length rs → end_of rs j ≤ end_of rs k
ends_rise b [] j k c l h = absurd (omega (arith, h))
ends_rise b (r ∷ rs) zero zero c l h = omega arith
ends_rise b (r ∷ rs) zero (suc k) c l h =
    let less : k < length rs = omega (arith, h) in
    omega (arith, ends_above r.end rs k c.4 less)
ends_rise b (r ∷ rs) (suc j) zero c l h = absurd (omega (arith, l))
ends_rise b (r ∷ rs) (suc j) (suc k) c l h =
    let less : k < length rs = omega (arith, h) in
    let below : j ≤ k = omega (arith, l) in
    ends_rise r.end rs j k c.4 below less

pub before_all : (rs : List Parts) (i at : ℕ) → IsChain 0 rs → at < length rs → end_of rs at ≤ i → (k : ℕ) → k ≤ at → ends_before rs i k
before_all rs i at c h e k l = omega (arith, ends_rise 0 rs k at c l h, e)

pub behind_all : (rs : List Parts) (i at : ℕ) → IsChain 0 rs → at < length rs → i < end_of rs at → (k : ℕ) → at ≤ k → k < length rs → i < end_of rs k
behind_all rs i at c h e k l m = omega (arith, ends_rise 0 rs at k c l m, e)

-- an index that no part has
missing_from : (b : ℕ) (rs : List Parts) (i : ℕ) → IsChain b rs → b ≤ i → ((k : ℕ) → k < length rs → end_of rs k ≤ i) → slice_get (spots_in rs) (i - b) ≡ None
missing_from b [] i c lo h = refl
missing_from b (r ∷ rs) i c lo h =
    let reached : r.end ≤ i = h 0 (omega arith) in
    let z : i - b ≡ length (part_spots r.def r.part (r.end - r.first)) + (i - r.end) = omega (arith, parts_counted r.def r.part (r.end - r.first), c.0, c.1, reached) in
    get_behind (part_spots r.def r.part (r.end - r.first)) (spots_in rs) (i - b) (i - r.end) z
    ∙ missing_from r.end rs i c.4 reached (λ k l. h (suc k) (omega (arith, l)))

part_of : List Parts → ℕ → Parts
part_of rs k = get_or rs k no_parts

-- one that the part at place k has
record Found (rs : List Parts) (i k : ℕ) (there : Option Spot) : Type 0 where
  behind : (part_of rs k).first ≤ i
  small : (part_of rs k).part + (i - (part_of rs k).first) < 2 ^ 32
  is : there ≡ Some (spot (part_of rs k).def ((part_of rs k).part + (i - (part_of rs k).first)))

found_from : (b : ℕ) (rs : List Parts) (i k : ℕ) → IsChain b rs → b ≤ i → k < length rs → ((j : ℕ) → j < k → end_of rs j ≤ i) → i < end_of rs k
    → Found rs i k (slice_get (spots_in rs) (i - b))
unfolding part_of
found_from b [] i k c lo h before hi = absurd (omega (arith, h))
found_from b (r ∷ rs) i zero c lo h before hi =
    let less : i - b < r.end - r.first = omega (arith, c.0, hi, lo) in
    let in_front : i - b < length (part_spots r.def r.part (r.end - r.first)) = omega (arith, parts_counted r.def r.part (r.end - r.first), less) in
    record {
      behind = omega (arith, c.0, lo);
      small = omega (arith, c.0, c.3, hi, lo);
      is = get_front (part_spots r.def r.part (r.end - r.first)) (spots_in rs) (i - b) in_front ∙ part_at r.def r.part (r.end - r.first) (i - b) less ∙ ap (λ q. Some (spot r.def (r.part + (i - q)))) (sym c.0);
    }
found_from b (r ∷ rs) i (suc k) c lo h before hi =
    let reached : r.end ≤ i = before 0 (omega arith) in
    let z : i - b ≡ length (part_spots r.def r.part (r.end - r.first)) + (i - r.end) = omega (arith, parts_counted r.def r.part (r.end - r.first), c.0, c.1, reached) in
    let f : Found rs i k (slice_get (spots_in rs) (i - r.end)) = found_from r.end rs i k c.4 reached (omega (arith, h)) (λ j l. before (suc j) (omega (arith, l))) hi in
    record {
      behind = f.behind;
      small = f.small;
      is = get_behind (part_spots r.def r.part (r.end - r.first)) (spots_in rs) (i - b) (i - r.end) z ∙ f.is;
    }

pub found_behind : (rs : List Parts) (i k : ℕ) → IsChain 0 rs → k < length rs → ((j : ℕ) → j < k → ends_before rs i j) → i < end_of rs k → (get_or rs k no_parts).first ≤ i
unfolding part_of
found_behind rs i k c h before hi = (found_from 0 rs i k c (omega arith) h before hi).behind

pub found_small : (rs : List Parts) (i k : ℕ) → IsChain 0 rs → k < length rs → ((j : ℕ) → j < k → ends_before rs i j) → i < end_of rs k
    → (get_or rs k no_parts).part + (i - (get_or rs k no_parts).first) < 2 ^ 32
unfolding part_of
found_small rs i k c h before hi = (found_from 0 rs i k c (omega arith) h before hi).small

pub found_is : (rs : List Parts) (i k : ℕ) → IsChain 0 rs → k < length rs → ((j : ℕ) → j < k → ends_before rs i j) → i < end_of rs k
    → slice_get (spots_in rs) i ≡ Some (record { def = (get_or rs k no_parts).def; part = (get_or rs k no_parts).part + (i - (get_or rs k no_parts).first) })
unfolding part_of spot
found_is rs i k c h before hi = let z : i ≡ i - 0 = omega arith in ap (slice_get (spots_in rs)) z ∙ (found_from 0 rs i k c (omega arith) h before hi).is

pub missing_is : (rs : List Parts) (i k : ℕ) → IsChain 0 rs → length rs ≤ k → ((j : ℕ) → j < k → ends_before rs i j) → slice_get (spots_in rs) i ≡ None
missing_is rs i k c h before = let z : i ≡ i - 0 = omega arith in ap (slice_get (spots_in rs)) z ∙ missing_from 0 rs i c (omega arith) (λ j l. before j (omega (arith, l, h)))

-- where a chain ends
chain_length : (b : ℕ) (r : Parts) (rs : List Parts) → IsChain b (r ∷ rs) → b + length (spots_in (r ∷ rs)) ≡ end_of (r ∷ rs) (length rs)
chain_length b r [] c =
    let e : length (part_spots r.def r.part (r.end - r.first) ++ []) ≡ length (part_spots r.def r.part (r.end - r.first)) + 0 = length-append (part_spots r.def r.part (r.end - r.first)) [] in
    omega (arith, e, parts_counted r.def r.part (r.end - r.first), c.0, c.1)
chain_length b r (q ∷ rs) c =
    let e : length (part_spots r.def r.part (r.end - r.first) ++ spots_in (q ∷ rs)) ≡ length (part_spots r.def r.part (r.end - r.first)) + length (spots_in (q ∷ rs)) = length-append (part_spots r.def r.part (r.end - r.first)) (spots_in (q ∷ rs)) in
    omega (arith, e, parts_counted r.def r.part (r.end - r.first), c.0, c.1, chain_length r.end q rs c.4)

pub last_end : (rs : List Parts) → 0 < length rs → IsChain 0 rs → end_of rs (length rs - 1) ≡ length (spots_in rs)
last_end [] h c = absurd (omega (arith, h))
last_end (r ∷ rs) h c =
    let z : length (r ∷ rs) - 1 ≡ length rs = omega arith in
    ap (end_of (r ∷ rs)) z ∙ sym (chain_length 0 r rs c) ∙ omega arith

-- a part behind a chain
chain_grows : (b : ℕ) (rs : List Parts) (r : Parts) → IsChain b rs → r.first ≡ b + length (spots_in rs) → r.first < r.end → r.end < 2 ^ 64 → r.part + (r.end - r.first) < 2 ^ 32 → IsChain b (rs ++ r ∷ [])
chain_grows b [] r c f l s t = (omega (arith, f), omega (arith, f, l), s, t, tt)
chain_grows b (q ∷ rs) r c f l s t =
    let e : length (part_spots q.def q.part (q.end - q.first) ++ spots_in rs) ≡ length (part_spots q.def q.part (q.end - q.first)) + length (spots_in rs) = length-append (part_spots q.def q.part (q.end - q.first)) (spots_in rs) in
    (c.0, c.1, c.2, c.3, chain_grows q.end rs r c.4 (omega (arith, f, e, parts_counted q.def q.part (q.end - q.first), c.0, c.1)) l s t)

pub chain_pushed : (rs : List Parts) (r : Parts) → IsChain 0 rs → r.first ≡ length (spots_in rs) → r.first < r.end → r.end < 2 ^ 64 → r.part + (r.end - r.first) < 2 ^ 32 → IsChain 0 (rs ++ r ∷ [])
chain_pushed rs r c f l s t = chain_grows 0 rs r c (omega (arith, f)) l s t

app_nil : (xs : List Spot) → xs ++ [] ≡ xs
app_nil [] = refl
app_nil (x ∷ xs) = ap (λ q. x ∷ q) (app_nil xs)

app_app : (xs ys zs : List Spot) → (xs ++ ys) ++ zs ≡ xs ++ (ys ++ zs)
app_app [] ys zs = refl
app_app (x ∷ xs) ys zs = ap (λ q. x ∷ q) (app_app xs ys zs)

pub spots_pushed : (rs : List Parts) (r : Parts) (n : ℕ) → r.end ≡ r.first + n → spots_in (rs ++ r ∷ []) ≡ spots_in rs ++ part_spots r.def r.part n
spots_pushed [] r n e =
    let z : r.end - r.first ≡ n = omega (arith, e) in
    app_nil (part_spots r.def r.part (r.end - r.first)) ∙ ap (part_spots r.def r.part) z
spots_pushed (q ∷ rs) r n e =
    ap (λ s. part_spots q.def q.part (q.end - q.first) ++ s) (spots_pushed rs r n e)
    ∙ sym (app_app (part_spots q.def q.part (q.end - q.first)) (spots_in rs) (part_spots r.def r.part n))

-- the same of a chain that was pushed to
pub pushed_items : (old new : List Parts) (r : Parts) (n : ℕ) → new ≡ old ++ r ∷ [] → r.end ≡ r.first + n → spots_in new ≡ spots_in old ++ part_spots r.def r.part n
pushed_items old new r n e f = ap spots_in e ∙ spots_pushed old r n f

pub nothing_added : (xs : List Spot) (k p n : ℕ) → n ≡ 0 → xs ≡ xs ++ part_spots k p n
nothing_added xs k p zero e = sym (app_nil xs)
nothing_added xs k p (suc n) e = absurd (omega (arith, e))

pub each_at : (cs : List (List Parts)) (i : ℕ) → EachChain cs → i < length cs → IsChain 0 (get_or cs i [])
each_at [] i c h = absurd (omega (arith, h))
each_at (x ∷ cs) zero c h = c.0
each_at (x ∷ cs) (suc i) c h = each_at cs i c.1 (omega (arith, h))

pub each_set : (cs : List (List Parts)) (i : ℕ) (x : List Parts) → EachChain cs → IsChain 0 x → EachChain (set cs i x)
each_set [] i x c h = tt
each_set (y ∷ cs) zero x c h = (h, c.1)
each_set (y ∷ cs) (suc i) x c h = (c.0, each_set cs i x c.1 h)

pub each_push : (cs : List (List Parts)) → EachChain cs → EachChain (cs ++ [] ∷ [])
each_push [] c = (tt, tt)
each_push (y ∷ cs) c = (c.0, each_push cs c.1)

-- empty chains
get_none : (n k : ℕ) → get_or (chain_spots (replicate n [])) k [] ≡ []
get_none zero k = refl
get_none (suc n) zero = refl
get_none (suc n) (suc k) = get_none n k

pub none_of : (cs : List (List Parts)) (n : ℕ) → cs ≡ replicate n [] → (s : Space) → spots_of (chain_spots cs) s ≡ []
none_of cs n e s = ap (λ q. spots_of (chain_spots q) s) e ∙ get_none n (code_of_space s)

each_none : (n : ℕ) → EachChain (replicate n [])
each_none zero = tt
each_none (suc n) = (tt, each_none n)

pub thirteen_chains : (cs : List (List Parts)) (n : ℕ) → cs ≡ replicate n [] → n ≡ 13 → AreChains cs
thirteen_chains cs n e z = subst AreChains (sym e) (length-replicate n [] ∙ z, each_none n)
