-- Tokens that are put one behind the other.
use Rattle.std.proofs.Common.{◌≡◌, ℕ, zero, suc, ◌+◌, ◌-◌, ◌≤◌, ◌<◌, ◌^◌, min, Bool, false, List, [], ◌∷◌, ◌++◌, length, length-append, append_assoc, append-nil, refl, sym, ap, ◌∙◌, arith}
use Rattle.print_table.specs.Tokens.{PrintedToken}
use Rattle.print_table.specs.TextOf.{results_tokens}
use Rattle.tree_print.specs.Taken.{Taken, counted, kept, capped, step, put, spaced, all_spaced, tight_behind, is_opening}

pub put_more : (xs ys : List PrintedToken) (k : Taken) → put (xs ++ ys) k ≡ put ys (put xs k)
put_more [] ys k = refl
put_more (x ∷ xs) ys k = put_more xs ys (step x k)

step_counted : (x : PrintedToken) (n : ℕ) (t : Bool) → step x (record { written = counted n; tight = t }) ≡ record { written = counted (capped (n + length (spaced t x))); tight = is_opening x }
unfolding step
step_counted x n t = refl

step_kept : (x : PrintedToken) (bs : List ℕ) (t : Bool) → step x (record { written = kept bs; tight = t }) ≡ record { written = kept (bs ++ spaced t x); tight = is_opening x }
unfolding step
step_kept x bs t = refl

taken_is : (n k : ℕ) (t : Bool) → n ≡ k → ◌≡◌ {A = Taken} (record { written = counted n; tight = t }) (record { written = counted k; tight = t })
taken_is n k t e = ap (λ (j : ℕ). record { written = counted j; tight = t }) e

pub put_counted : (xs : List PrintedToken) (n : ℕ) (t : Bool) → n ≤ 2 ^ 64 - 1
    → put xs (record { written = counted n; tight = t }) ≡ record { written = counted (capped (n + length (all_spaced t xs))); tight = tight_behind t xs }
put_counted [] n t h = taken_is n _ t (omega (arith, h))
put_counted (x ∷ xs) n t h =
    ap (put xs) (step_counted x n t) ∙ put_counted xs (capped (n + length (spaced t x))) (is_opening x) (omega arith)
    ∙ taken_is _ _ _ (let e = length-append (spaced t x) (all_spaced (is_opening x) xs) in omega (arith, e))

pub put_kept : (xs : List PrintedToken) (bs : List ℕ) (t : Bool) → put xs (record { written = kept bs; tight = t }) ≡ record { written = kept (bs ++ all_spaced t xs); tight = tight_behind t xs }
put_kept [] bs t = ap (λ (b : List ℕ). record { written = kept b; tight = t }) (sym (append-nil bs))
put_kept (x ∷ xs) bs t =
    ap (put xs) (step_kept x bs t) ∙ put_kept xs (bs ++ spaced t x) (is_opening x)
    ∙ ap (λ (b : List ℕ). record { written = kept b; tight = tight_behind (is_opening x) xs }) (append_assoc bs (spaced t x) (all_spaced (is_opening x) xs))

-- a turn of the loop over results
pub one_result : (start old new : Taken) (n k : ℕ) → k < n → new ≡ put (results_tokens 1) old → put (results_tokens (n - k)) old ≡ start → put (results_tokens (n - (k + 1))) new ≡ start
one_result start old new n k h e i =
    let less : n - k ≡ suc (n - (k + 1)) = omega (arith, h) in
    ap (put (results_tokens (n - (k + 1)))) e ∙ ap (λ j. put (results_tokens j) old) (sym less) ∙ i

pub results_loose : (n : ℕ) (t : Bool) → 0 < n → tight_behind t (results_tokens n) ≡ false
results_loose zero t h = absurd (omega arith)
results_loose (suc n) t h = loose n
  where
    loose : (n : ℕ) → tight_behind false (results_tokens n) ≡ false
    loose zero = refl
    loose (suc n) = loose n

-- so many results, counted
pub results_counted : (count bytes size new : ℕ) (tight after : Bool) → bytes < 2 ^ 64 → size ≡ length (all_spaced tight (results_tokens count)) → new ≡ min (bytes + size) (2 ^ 64 - 1) → after ≡ tight_behind tight (results_tokens count)
    → ◌≡◌ {A = Taken} (record { written = counted new; tight = after }) (put (results_tokens count) (record { written = counted bytes; tight = tight }))
results_counted count bytes size new tight after small e n a =
    taken_is new _ after (omega (arith, e, n)) ∙ ap (λ (t : Bool). record { written = counted (capped (bytes + length (all_spaced tight (results_tokens count)))); tight = t }) a
    ∙ sym (put_counted (results_tokens count) bytes tight (omega (arith, small)))
