-- Counters kept in a list, by the numbers of the spaces.
use Rattle.std.proofs.Common.{◌≡◌, ◌≢◌, ℕ, zero, suc, ◌+◌, ◌<◌, Bool, true, false, List, [], ◌∷◌, length, set, refl, sym, ◌∙◌, ap, subst, arith}
use Rattle.std.specs.Prelude.{slice_index, replicate}
use mathlib.Core.Path.{fun_ext}
use Rattle.std.proofs.lemmas.List.{length-set}
use Rattle.std.proofs.lemmas.Bool.{eq-eqb}
use Rattle.comp_model.specs.declared.Space.{Space}
use Rattle.comp_model.specs.declared.Space.TheVariants.{CoreFunc}
use Rattle.comp_model.specs.Spaces.{code_of_space, same_space, count_in}
use Rattle.comp_model.proofs.Tests.{same_space-true}
use Rattle.comp_tables.specs.Tables.{Counters, no_counts, advanced}
use Rattle.comp_tables.specs.Walks.{counters_in, one_more, all_more}

space-below : (s : Space) → code_of_space s < 13
space-below CoreFunc = omega arith
space-below _ = omega arith

set-same : (xs : List ℕ) (i a : ℕ) → i < length xs → slice_index (set xs i a) i ≡ a
set-same [] i a h = absurd (omega (arith, h))
set-same (x ∷ xs) zero a h = refl
set-same (x ∷ xs) (suc i) a h = set-same xs i a (omega (arith, h))

set-other : (xs : List ℕ) (i j a : ℕ) → i ≢ j → slice_index (set xs i a) j ≡ slice_index xs j
set-other [] i j a h = refl
set-other (x ∷ xs) zero zero a h = absurd (h refl)
set-other (x ∷ xs) zero (suc j) a h = refl
set-other (x ∷ xs) (suc i) zero a h = refl
set-other (x ∷ xs) (suc i) (suc j) a h = set-other xs i j a (λ e. h (ap suc e))

plus-nil : (a : ℕ) → a ≡ a + 0
plus-nil a = omega arith

-- one more of a space
more-one : (xs : List ℕ) (s t : Space) → length xs ≡ 13 → counters_in (one_more xs s) t ≡ counters_in xs t + count_in t (s ∷ [])
more-one xs s t n = go (same_space t s) refl
  where
    go : (b : Bool) → same_space t s ≡ b → counters_in (one_more xs s) t ≡ counters_in xs t + count_in t (s ∷ [])
    go true e =
        let i : t ≡ s = same_space-true t s e in
        let below : code_of_space s < length xs = subst (λ m. code_of_space s < m) (sym n) (space-below s) in
        rw e (subst (λ w. slice_index (one_more xs s) (code_of_space w) ≡ slice_index xs (code_of_space w) + 1) (sym i) (set-same xs (code_of_space s) (slice_index xs (code_of_space s) + 1) below))
    go false e =
        let apart : code_of_space s ≢ code_of_space t = λ q. let w : same_space t s ≡ true = eq-eqb (code_of_space t) (code_of_space s) (sym q) in absurd (cc) in
        rw e (set-other xs (code_of_space s) (code_of_space t) (slice_index xs (code_of_space s) + 1) apart ∙ plus-nil (slice_index xs (code_of_space t)))

more-length : (xs : List ℕ) (s : Space) → length (one_more xs s) ≡ length xs
more-length xs s = length-set xs (code_of_space s) (slice_index xs (code_of_space s) + 1)

count-step : (s t : Space) (ss : List Space) → count_in t (s ∷ ss) ≡ count_in t (s ∷ []) + count_in t ss
count-step s t ss = go (same_space t s) refl
  where
    go : (b : Bool) → same_space t s ≡ b → count_in t (s ∷ ss) ≡ count_in t (s ∷ []) + count_in t ss
    go true e = rw e (omega arith)
    go false e = rw e (omega arith)

plus-assoc : (a b c d : ℕ) → d ≡ b + c → a + b + c ≡ a + d
plus-assoc a b c d e = omega (arith, e)

-- one more of each space of a list
pub more-all : (xs : List ℕ) (ss : List Space) (t : Space) → length xs ≡ 13 → counters_in (all_more xs ss) t ≡ counters_in xs t + count_in t ss
more-all xs [] t n = plus-nil (slice_index xs (code_of_space t))
more-all xs (s ∷ ss) t n =
    more-all (one_more xs s) ss t (more-length xs s ∙ n) ∙ ap (λ m. m + count_in t ss) (more-one xs s t n)
    ∙ plus-assoc (counters_in xs t) (count_in t (s ∷ [])) (count_in t ss) (count_in t (s ∷ ss)) (count-step s t ss)

pub more-all_length : (xs : List ℕ) (ss : List Space) → length (all_more xs ss) ≡ length xs
more-all_length xs [] = refl
more-all_length xs (s ∷ ss) = more-all_length (one_more xs s) ss ∙ more-length xs s

-- at the head of a scope
pub none-all : (t : Space) → counters_in (replicate 13 0) t ≡ no_counts.counts t
none-all CoreFunc = refl
none-all _ = refl

pub list-advanced : (xs : List ℕ) (ss : List Space) (c : Counters) → length xs ≡ 13 → counters_in xs ≡ c.counts → (length (all_more xs ss) ≡ 13) × (counters_in (all_more xs ss) ≡ (advanced ss c).counts)
list-advanced xs ss c n e = (more-all_length xs ss ∙ n, fun_ext (λ t. more-all xs ss t n ∙ ap (λ (f : Space → ℕ). f t + count_in t ss) e))

pub list-none : counters_in (replicate 13 0) ≡ no_counts.counts
list-none = fun_ext none-all
