-- Runs that are found from the front are those of the format.
use Rattle.std.proofs.Common.{◌≡◌, ℕ, suc, ◌+◌, ◌<◌, ◌^◌, Bool, true, false, cond, List, [], ◌∷◌, ◌++◌, length, map, drop, get_or, refl, sym, ◌∙◌, ap, subst, arith}
use Rattle.comp_model.specs.Core.{CoreValue}
use Rattle.core_model.specs.Types.{same_value}
use Rattle.std.proofs.Math.Seq.{drop-cons}
use Rattle.core_model.specs.Bytes.{in_front, runs, has_bytes, value}
use Rattle.core_syntax.specs.declared.fields.Local.{Local}
use Rattle.core_syntax.specs.Fields.{value_of, local_of}
use Rattle.core_write.specs.Written.{values_of}
use Rattle.core_names.proofs.SameTypes.{values-equal}
use Rattle.core_write.specs.Runs.{open_run, extends, runs_behind}
use Rattle.core_write.specs.Fits.{FitsRuns}

-- the first of some runs with so many values more
abbrev grown : ℕ → List (ℕ × CoreValue) → List (ℕ × CoreValue)
grown k [] = []
grown k (r ∷ rs) = (r.0 + k, r.1) ∷ rs

grown-none : (rs : List (ℕ × CoreValue)) → grown 0 rs ≡ rs
grown-none [] = refl
grown-none (r ∷ rs) = let e : r.0 + 0 ≡ r.0 = omega arith in ap (λ n. (n, r.1) ∷ rs) e

grown-twice : (k : ℕ) (rs : List (ℕ × CoreValue)) → grown k (grown 1 rs) ≡ grown (suc k) rs
grown-twice k [] = refl
grown-twice k (r ∷ rs) = let e : r.0 + 1 + k ≡ r.0 + suc k = omega arith in ap (λ n. (n, r.1) ∷ rs) e

in-front-twice : (v : CoreValue) (rs : List (ℕ × CoreValue)) → same_value v v ≡ true → in_front v (in_front v rs) ≡ grown 1 (in_front v rs)
in-front-twice v [] e = ap (λ b. cond b ((1 + 1, v) ∷ []) ((1, v) ∷ (1, v) ∷ [])) e
in-front-twice v (r ∷ rs) e = go (same_value v r.1)
  where
    go : (b : Bool) → in_front v (cond b ((r.0 + 1, v) ∷ rs) ((1, v) ∷ r ∷ rs)) ≡ grown 1 (cond b ((r.0 + 1, v) ∷ rs) ((1, v) ∷ r ∷ rs))
    go true = ap (λ b. cond b ((r.0 + 1 + 1, v) ∷ rs) ((1, v) ∷ (r.0 + 1, v) ∷ rs)) e
    go false = ap (λ b. cond b ((1 + 1, v) ∷ r ∷ rs) ((1, v) ∷ (1, v) ∷ r ∷ rs)) e

in-front-other : (v w : CoreValue) (rs : List (ℕ × CoreValue)) → same_value v w ≡ false → in_front v (in_front w rs) ≡ (1, v) ∷ in_front w rs
in-front-other v w [] e = ap (λ b. cond b ((1 + 1, v) ∷ []) ((1, v) ∷ (1, w) ∷ [])) e
in-front-other v w (r ∷ rs) e = go (same_value w r.1)
  where
    go : (b : Bool) → in_front v (cond b ((r.0 + 1, w) ∷ rs) ((1, w) ∷ r ∷ rs)) ≡ (1, v) ∷ cond b ((r.0 + 1, w) ∷ rs) ((1, w) ∷ r ∷ rs)
    go true = ap (λ b. cond b ((r.0 + 1 + 1, v) ∷ rs) ((1, v) ∷ (r.0 + 1, w) ∷ rs)) e
    go false = ap (λ b. cond b ((1 + 1, v) ∷ r ∷ rs) ((1, v) ∷ (1, w) ∷ r ∷ rs)) e

behind-run : (k : ℕ) (v : CoreValue) (ws : List CoreValue) → runs_behind (suc k) v ws ≡ grown k (in_front v (runs ws))
behind-run k v [] = let e : suc k ≡ 1 + k = omega arith in ap (λ n. (n, v) ∷ []) e
behind-run k v (w ∷ ws) = go (λ j x. behind-run j x ws) (same_value v w) refl
  where
    next : suc k + 1 ≡ suc (suc k)
    next = omega arith

    first : suc k ≡ 1 + k
    first = omega arith

    go : ((j : ℕ) (x : CoreValue) → runs_behind (suc j) x ws ≡ grown j (in_front x (runs ws)))
        → (b : Bool) → same_value v w ≡ b → cond b (runs_behind (suc k + 1) v ws) ((suc k, v) ∷ runs_behind 1 w ws) ≡ grown k (in_front v (in_front w (runs ws)))
    go behind true e =
        let s : v ≡ w = values-equal v w e in
        ap (λ n. runs_behind n v ws) next ∙ behind (suc k) v ∙ sym (grown-twice k (in_front v (runs ws)))
        ∙ ap (grown k) (sym (in-front-twice v (runs ws) (ap (same_value v) s ∙ e))) ∙ ap (λ x. grown k (in_front v (in_front x (runs ws)))) s
    go behind false e =
        ap (λ rs. (suc k, v) ∷ rs) (behind 0 w ∙ grown-none (in_front w (runs ws))) ∙ ap (λ n. (n, v) ∷ in_front w (runs ws)) first
        ∙ ap (grown k) (sym (in-front-other v w (runs ws) e))

-- without an open run they are the runs
pub runs-from-front : (v : CoreValue) (ws : List CoreValue) → runs_behind 0 v ws ≡ runs ws
runs-from-front v [] = refl
runs-from-front v (w ∷ ws) = behind-run 0 w ws ∙ grown-none (in_front w (runs ws))

-- the open run is at most as long as the run that it becomes
pub open-run-fits : (n : ℕ) (v : CoreValue) (ws : List CoreValue) → FitsRuns (runs_behind (suc n) v ws) → suc n < 2 ^ 32
open-run-fits n v [] f = f.0
open-run-fits n v (w ∷ ws) f = go (open-run-fits (suc n) v ws) (same_value v w) f
  where
    next : suc n + 1 ≡ suc (suc n)
    next = omega arith

    go : (FitsRuns (runs_behind (suc (suc n)) v ws) → suc (suc n) < 2 ^ 32) → (b : Bool) → FitsRuns (cond b (runs_behind (suc n + 1) v ws) ((suc n, v) ∷ runs_behind 1 w ws)) → suc n < 2 ^ 32
    go more true g = let h : suc (suc n) < 2 ^ 32 = more (subst (λ m. FitsRuns (runs_behind m v ws)) next g) in omega arith
    go more false g = g.0

-- a local that belongs to the open run
pub count-fits : (n : ℕ) (v : CoreValue) (xs : List Local) (i : ℕ) (d : Local) → i < length xs
    → has_bytes (value [] (value_of (get_or xs i d).ty)) ≡ true → extends n v (value [] (value_of (get_or xs i d).ty)) ≡ true
    → FitsRuns (runs_behind n v (values_of (map local_of (drop i xs)))) → n + 1 < 2 ^ 32
count-fits n v xs i d below written joins f =
    let R : List CoreValue = values_of (map local_of (drop (suc i) xs)) in
    let w : CoreValue = value [] (value_of (get_or xs i d).ty) in
    let e : values_of (map local_of (drop i xs)) ≡ w ∷ R = ap (λ ys. values_of (map local_of ys)) (drop-cons xs i d below) ∙ ap (λ b. cond b (w ∷ R) R) written in
    let g : FitsRuns (runs_behind n v (w ∷ R)) = subst (λ ws. FitsRuns (runs_behind n v ws)) e f in
    let h : FitsRuns (runs_behind (n + 1) v R) = subst (λ b. FitsRuns (cond b (runs_behind (n + 1) v R) (open_run n v ++ runs_behind 1 w R))) joins g in
    let k : n + 1 ≡ suc n = omega arith in
    let r : suc n < 2 ^ 32 = open-run-fits n v R (subst (λ m. FitsRuns (runs_behind m v R)) k h) in
    omega arith
