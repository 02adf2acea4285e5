-- The sizes of runs of locals and of entries of code.
use Rattle.std.proofs.Common.{◌≡◌, ℕ, zero, suc, ◌+◌, ◌<◌, ◌≤◌, Bool, true, false, cond, ◌&&◌, List, [], ◌∷◌, ◌++◌, map, drop, get_or, length, length-append, refl, ap, sym, subst, ◌∙◌, arith}
use Rattle.std.proofs.Math.Bool.{and-true}
use Rattle.comp_model.specs.Core.{CoreValue}
use Rattle.comp_model.specs.Leb.{uleb}
use Rattle.comp_model.specs.Payloads.{framed}
use Rattle.comp_wire.specs.Spelled.{core_bytes}
use Rattle.comp_wire.specs.Fits.{is_word}
use Rattle.comp_wire.proofs.Numbers.{some_bytes}
use Rattle.comp_model.specs.CoreModules.{Local, Instruction}
use Rattle.core_model.specs.Bytes.{counted, has_bytes, value, values, run_bytes, runs, expression}
use Rattle.core_model.proofs.Lists.{Each, map-append}
use Rattle.core_syntax.specs.declared.fields.Local.{Local as TreeLocal}
use Rattle.core_syntax.specs.Fields.{value_of, local_of}
use Rattle.core_syntax.specs.Measures.{capped}
use Rattle.core_write.specs.Written.{values_of, code_entry}
use Rattle.core_write.specs.Runs.{open_run, extends, runs_behind}
use Rattle.core_fits.specs.declared.size.Size.{Size}
use Rattle.core_fits.specs.Sizes.{IsSize}
use Rattle.core_fits.specs.Tests.{fits_runs}
use Rattle.core_fits.proofs.Counted.{Filled, filled-count}
use Rattle.leb_lengths.proofs.Lengths.{framed-capped}
use Rattle.core_fits.proofs.Sizes.{SoFar, so_far_more, counted_size}
use Rattle.core_bounds.proofs.Turns.{left-at}

pub run_none : (size : Size) (n : ℕ) (v : CoreValue) → n ≡ 0 → size.count ≡ 0 → size.bytes ≡ 0 → size.fits ≡ true → IsSize size (map run_bytes (open_run n v)) (fits_runs (open_run n v))
run_none size zero v e n b f = record { count = n; bytes = b; fits = f }
run_none size (suc k) v e n b f = absurd (omega (arith, e))

pub run_some : (size : Size) (n : ℕ) (v : CoreValue) → 1 ≤ n → size.count ≡ 1 → size.bytes ≡ capped (length (uleb n) + length (core_bytes v)) → size.fits ≡ is_word n
    → IsSize size (map run_bytes (open_run n v)) (fits_runs (open_run n v))
run_some size zero v e n b f = absurd (omega (arith, e))
run_some size (suc k) v e n b f = record {
  count = n;
  bytes = let d = length-append (uleb (suc k)) (core_bytes v) in let g = length-append (uleb (suc k) ++ core_bytes v) [] in omega (arith, b, d, g);
  fits = f ∙ sym (and-true (is_word (suc k)));
}

fits_append : (rs ss : List (ℕ × CoreValue)) → fits_runs (rs ++ ss) ≡ (fits_runs rs && fits_runs ss)
fits_append [] ss = refl
fits_append (r ∷ rs) ss = go (is_word r.0) (fits_append rs ss)
  where
    go : (b : Bool) → fits_runs (rs ++ ss) ≡ (fits_runs rs && fits_runs ss) → (b && fits_runs (rs ++ ss)) ≡ ((b && fits_runs rs) && fits_runs ss)
    go true e = e
    go false e = refl

abbrev pub items_of : List (ℕ × CoreValue) → List (List ℕ)
items_of rs = map run_bytes rs

-- the runs of what is left, where a local is none, joins the open run, or ends it
module _ (n : ℕ) (v : CoreValue) (xs : List TreeLocal) (i : ℕ) (d : TreeLocal) (below : i < length xs) where
  abbrev next : CoreValue
  next = value [] (value_of (get_or xs i d).ty)

  abbrev behind : ℕ → List CoreValue
  behind j = values_of (map local_of (drop j xs))

  first : behind i ≡ values (next ∷ map (λ l. value [] l.value) (map local_of (drop (i + 1) xs)))
  first = ap (λ ys. values_of (map local_of ys)) (left-at xs i d below)

  pub without : has_bytes next ≡ false → behind i ≡ behind (i + 1)
  without e = first ∙ ap (λ b. cond b (next ∷ behind (i + 1)) (behind (i + 1))) e

  with : has_bytes next ≡ true → behind i ≡ next ∷ behind (i + 1)
  with e = first ∙ ap (λ b. cond b (next ∷ behind (i + 1)) (behind (i + 1))) e

  pub joins : has_bytes next ≡ true → extends n v next ≡ true → runs_behind n v (behind i) ≡ runs_behind (n + 1) v (behind (i + 1))
  joins e h = ap (runs_behind n v) (with e) ∙ ap (λ b. cond b (runs_behind (n + 1) v (behind (i + 1))) (open_run n v ++ runs_behind 1 next (behind (i + 1)))) h

  pub ends : has_bytes next ≡ true → extends n v next ≡ false → runs_behind n v (behind i) ≡ open_run n v ++ runs_behind 1 next (behind (i + 1))
  ends e h = ap (runs_behind n v) (with e) ∙ ap (λ b. cond b (runs_behind (n + 1) v (behind (i + 1))) (open_run n v ++ runs_behind 1 next (behind (i + 1)))) h

-- the size so far of runs
abbrev pub RunsSoFar : Size → List (ℕ × CoreValue) → List (ℕ × CoreValue) → Type 0
RunsSoFar size rest all = SoFar size (items_of rest) (fits_runs rest) (items_of all) (fits_runs all)

pub runs_same : (size : Size) (now rest all : List (ℕ × CoreValue)) → now ≡ rest → RunsSoFar size now all → RunsSoFar size rest all
runs_same size now rest all e h = subst (λ rs. RunsSoFar size rs all) e h

pub runs_more : (one two both : Size) (rs rest now all : List (ℕ × CoreValue)) → now ≡ rs ++ rest → IsSize two (items_of rs) (fits_runs rs)
    → both.count ≡ capped (one.count + two.count) → both.bytes ≡ capped (one.bytes + two.bytes) → both.fits ≡ (one.fits && two.fits)
    → RunsSoFar one now all → RunsSoFar both rest all
runs_more one two both rs rest now all e d n b f h =
    so_far_more one two both (items_of rs) (items_of rest) (items_of now) (items_of all) (fits_runs rs) (fits_runs rest) (fits_runs now) (fits_runs all)
    (ap items_of e ∙ map-append run_bytes rs rest) (ap fits_runs e ∙ fits_append rs rest) d n b f h

-- no run is empty

pub filled_runs : (rs : List (ℕ × CoreValue)) → Each Filled (items_of rs)
filled_runs [] = tt
filled_runs (r ∷ rs) = (let e = some_bytes r.0 in let d = length-append (uleb r.0) (core_bytes r.1) in omega (arith, e, d), filled_runs rs)

pub code_sized : (runs_size size : Size) (ls : List Local) (is : List Instruction) (entry counted_runs body : ℕ)
    → IsSize runs_size (items_of (runs (values_of ls))) (fits_runs (runs (values_of ls)))
    → counted_runs ≡ capped (length (uleb runs_size.count) + runs_size.bytes) → body ≡ capped (length (expression [] [] is)) → entry ≡ capped (counted_runs + body)
    → size.count ≡ 1 → size.bytes ≡ capped (length (uleb entry) + entry) → size.fits ≡ runs_size.fits
    → IsSize size (framed (code_entry ls is) ∷ []) (fits_runs (runs (values_of ls)))
code_sized runs_size size ls is entry counted_runs body r k b e n g f =
    let rs : List (List ℕ) = items_of (runs (values_of ls)) in
    let c = counted_size runs_size rs _ r (filled-count rs (filled_runs (runs (values_of ls)))) in
    let a = length-append (counted rs) (expression [] [] is) in
    let whole : entry ≡ capped (length (code_entry ls is)) = omega (arith, k, b, e, c, a) in
    let d = framed-capped (length (code_entry ls is)) in
    let p = ap (λ m. capped (length (uleb m) + m)) whole in
    let q = length-append (uleb (length (code_entry ls is))) (code_entry ls is) in
    let z = length-append (framed (code_entry ls is)) [] in
    record { count = n; bytes = omega (arith, g, p, d, q, z); fits = f ∙ r.fits }
