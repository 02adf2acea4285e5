-- What is at most the length of some bytes: the bytes of a part, and how many items a section has.
use Rattle.std.proofs.Common.{ℕ, suc, ◌+◌, ◌≤◌, Bool, true, false, cond, List, [], ◌∷◌, ◌++◌, map, filter, flat_map, length, slice_get, unwrap_or, zero, arith, length-append}
use Rattle.comp_model.specs.Leb.{uleb}
use Rattle.comp_model.specs.Payloads.{framed, joined}
use Rattle.comp_wire.proofs.Numbers.{uleb_short}
use Rattle.comp_model.specs.Core.{CoreValue}
use Rattle.core_model.specs.Words.{Word}
use Rattle.core_model.specs.Types.{same_value}
use Rattle.core_model.specs.Bytes.{counted, section, in_front, runs}
use Rattle.core_model.proofs.Lists.{Each}
use Rattle.core_write.specs.Fits.{FitsSection, FitsRuns}

-- of two parts that are a word together, each is

abbrev pub WordLong : List ℕ → Type 0
WordLong bytes = Word (length bytes)

pub long-left : (xs ys : List ℕ) → WordLong (xs ++ ys) → WordLong xs
long-left xs ys h = let e = length-append xs ys in omega (arith, e, h)

pub long-right : (xs ys : List ℕ) → WordLong (xs ++ ys) → WordLong ys
long-right xs ys h = let e = length-append xs ys in omega (arith, e, h)

pub long-tail : (b : ℕ) (bytes : List ℕ) → WordLong (b ∷ bytes) → WordLong bytes
long-tail b bytes h = omega (arith, h)

pub long-framed : (bytes : List ℕ) → WordLong (framed bytes) → WordLong bytes
long-framed bytes h = long-right (uleb (length bytes)) bytes h

-- lists whose elements meet something

pub each-left : {A : Type 0} (P : A → Type 0) (xs ys : List A) → Each P (xs ++ ys) → Each P xs
each-left P [] ys p = tt
each-left P (x ∷ xs) ys p = (p.0, each-left P xs ys p.1)

pub each-right : {A : Type 0} (P : A → Type 0) (xs ys : List A) → Each P (xs ++ ys) → Each P ys
each-right P [] ys p = p
each-right P (x ∷ xs) ys p = each-right P xs ys p.1

pub each-filter : {A : Type 0} (P : A → Type 0) (p : A → Bool) (xs : List A) → Each P xs → Each P (filter p xs)
each-filter P p [] q = tt
each-filter P p (x ∷ xs) q = go (p x) (each-filter P p xs q.1)
  where
    go : (b : Bool) → Each P (filter p xs) → Each P (cond b (x ∷ filter p xs) (filter p xs))
    go true h = (q.0, h)
    go false h = h

pub length-map : {A C : Type 0} (h : A → C) (xs : List A) → length (map h xs) ≤ length xs
length-map h [] = omega arith
length-map h (x ∷ xs) = let e = length-map h xs in omega (arith, e)

pub length-filter : {A : Type 0} (p : A → Bool) (xs : List A) → length (filter p xs) ≤ length xs
length-filter p [] = omega arith
length-filter p (x ∷ xs) = go (p x) (length-filter p xs)
  where
    go : (b : Bool) → length (filter p xs) ≤ length xs → length (cond b (x ∷ filter p xs) (filter p xs)) ≤ suc (length xs)
    go true h = omega (arith, h)
    go false h = omega (arith, h)

-- at most one item of each
pub length-flat : {A B : Type 0} (k : A → List B) → ((x : A) → length (k x) ≤ 1) → (xs : List A) → length (flat_map k xs) ≤ length xs
length-flat k one [] = omega arith
length-flat k one (x ∷ xs) = let e = length-flat k one xs in let h = one x in let d = length-append (k x) (flat_map k xs) in omega (arith, e, h, d)

-- an element, or 0 where there is none
pub get-within : (limit : ℕ) (xs : List ℕ) (i : ℕ) → Each (λ x. x ≤ limit) xs → unwrap_or (slice_get xs i) 0 ≤ limit
get-within limit [] i p = omega arith
get-within limit (x ∷ xs) zero p = p.0
get-within limit (x ∷ xs) (suc i) p = get-within limit xs i p.1

-- items of a section

pub items-long : (items : List (List ℕ)) → WordLong (joined items) → Each WordLong items
items-long [] h = tt
items-long (i ∷ is) h = (long-left i (joined is) h, items-long is (long-right i (joined is) h))

pub counted-long : (items : List (List ℕ)) → WordLong (counted items) → Each WordLong items
counted-long items h = items-long items (long-right (uleb (length items)) (joined items) h)

none-fit : FitsSection []
none-fit = let e = uleb_short 0 (omega arith) in let d = length-append (uleb 0) [] in (omega arith, omega (arith, e, d))

-- a section and the items in it, where these are few
pub record Contents (items : List (List ℕ)) : Type 0 where
  pub whole : FitsSection items
  pub each : Each WordLong items

pub section-contents : (number : ℕ) (items : List (List ℕ)) → Word (length items) → WordLong (section number items) → Contents items
section-contents number [] n h = record { whole = none-fit; each = tt }
section-contents number (i ∷ is) n h =
    let c : WordLong (counted (i ∷ is)) = long-framed (counted (i ∷ is)) (long-tail number (framed (counted (i ∷ is))) h) in
    record { whole = (n, c); each = counted-long (i ∷ is) c }

-- no item is empty
abbrev pub Filled : List ℕ → Type 0
Filled item = 1 ≤ length item

pub filled-count : (items : List (List ℕ)) → Each Filled items → length items ≤ length (joined items)
filled-count [] p = omega arith
filled-count (i ∷ is) p = let e = filled-count is p.1 in let h = p.0 in let d = length-append i (joined is) in omega (arith, e, h, d)

pub filled-contents : (number : ℕ) (items : List (List ℕ)) → Each Filled items → WordLong (section number items) → Contents items
filled-contents number [] p h = record { whole = none-fit; each = tt }
filled-contents number (i ∷ is) p h =
    let c : WordLong (counted (i ∷ is)) = long-framed (counted (i ∷ is)) (long-tail number (framed (counted (i ∷ is))) h) in
    let n = filled-count (i ∷ is) p in
    let d = length-append (uleb (length (i ∷ is))) (joined (i ∷ is)) in
    record { whole = (omega (arith, c, n, d), c); each = counted-long (i ∷ is) c }

-- runs

abbrev RunsWithin : ℕ → List (ℕ × CoreValue) → Type 0
RunsWithin n rs = Each (λ r. r.0 ≤ n) rs × (length rs ≤ n)

runs-later : (n : ℕ) (rs : List (ℕ × CoreValue)) → Each (λ r. r.0 ≤ n) rs → Each (λ r. r.0 ≤ suc n) rs
runs-later n [] p = tt
runs-later n (r ∷ rs) p = let h = p.0 in (omega (arith, h), runs-later n rs p.1)

in-front-within : (n : ℕ) (v : CoreValue) (rs : List (ℕ × CoreValue)) → RunsWithin n rs → RunsWithin (suc n) (in_front v rs)
in-front-within n v [] p = ((omega arith, tt), omega arith)
in-front-within n v (r ∷ rs) p = go (same_value v r.1)
  where
    go : (b : Bool) → RunsWithin (suc n) (cond b ((r.0 + 1, v) ∷ rs) ((1, v) ∷ r ∷ rs))
    go true = let h = p.0.0 in let l = p.1 in ((omega (arith, h), runs-later n rs p.0.1), omega (arith, l))
    go false = let l = p.1 in ((omega arith, runs-later n (r ∷ rs) p.0), omega (arith, l))

runs-within : (vs : List CoreValue) → RunsWithin (length vs) (runs vs)
runs-within [] = (tt, omega arith)
runs-within (v ∷ vs) = in-front-within (length vs) v (runs vs) (runs-within vs)

each-run : (n : ℕ) (rs : List (ℕ × CoreValue)) → Word n → Each (λ r. r.0 ≤ n) rs → FitsRuns rs
each-run n [] w p = tt
each-run n (r ∷ rs) w p = let h = p.0 in (omega (arith, h, w), each-run n rs w p.1)

-- how many runs there are, and how many values each holds
pub runs-fit : (vs : List CoreValue) → Word (length vs) → Word (length (runs vs)) × FitsRuns (runs vs)
runs-fit vs w = let p = runs-within vs in let l = p.1 in (omega (arith, l, w), each-run (length vs) (runs vs) w p.0)
