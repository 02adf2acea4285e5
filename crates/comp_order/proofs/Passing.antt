-- Verdicts one after the other.
use Rattle.std.proofs.Common.{◌≡◌, ℕ, ◌+◌, ◌<◌, ◌^◌, refl, sym, ap, ◌∙◌, List, [], ◌∷◌, ◌++◌, map, length, Result, Ok, Err, subst, arith}
use Rattle.std.proofs.lemmas.List.{map-append}
use Rattle.comp_list.specs.declared.reference.Reference.{Reference}
use Rattle.comp_order.specs.declared.verdict.Verdict.{Verdict}
use Rattle.comp_order.specs.declared.verdict.Verdict.TheVariants.{InOrder, Early, OutOfRange}
use Rattle.comp_order.specs.declared.verdict.Order.{Order}
use Rattle.comp_order.specs.declared.verdict.Order.TheVariants.{Ordered, Index, Outer}
use Rattle.comp_order.specs.Counts.{capped}
use Rattle.comp_order.specs.Order.{first_fault}
use Rattle.comp_order.specs.Pass.{pass, capped_order}

IsThrough : Result ℕ Order → Type 0
IsThrough (Ok n) = Unit {0}
IsThrough (Err o) = ⊥

through_or_not : (n : ℕ) (o : Order) → Ok n ≡ Err o → ⊥
unfolding IsThrough
through_or_not n o e = subst IsThrough e tt

number_in : Result ℕ Order → ℕ
number_in (Ok n) = n
number_in (Err o) = 0

order_in : Result ℕ Order → Order
order_in (Ok n) = Ordered
order_in (Err o) = o

-- where the first are passed, it goes on with the others
pub passed_on : (n m : ℕ) (xs ys : List Verdict) → Ok m ≡ pass n xs → pass m ys ≡ pass n (xs ++ ys)
unfolding number_in
passed_on n m [] ys e = ap (λ q. pass q ys) (ap number_in e)
passed_on n m (InOrder ∷ xs) ys e = passed_on (capped (n + 1)) m xs ys e
passed_on n m (Early ∷ xs) ys e = absurd (through_or_not m (Index n) e)
passed_on n m (OutOfRange ∷ xs) ys e = absurd (through_or_not m (Outer n) e)

-- where one of the first isn't in order, that is the answer
pub stopped : (n : ℕ) (o : Order) (xs ys : List Verdict) → Err o ≡ pass n xs → Err o ≡ pass n (xs ++ ys)
stopped n o [] ys e = absurd (through_or_not n o (sym e))
stopped n o (InOrder ∷ xs) ys e = stopped (capped (n + 1)) o xs ys e
stopped n o (Early ∷ xs) ys e = e
stopped n o (OutOfRange ∷ xs) ys e = e

module _ (v : Reference → Verdict) where
  pub passed_more : (n m : ℕ) (xs ys : List Reference) → Ok m ≡ pass n (map v xs) → pass m (map v ys) ≡ pass n (map v (xs ++ ys))
  passed_more n m xs ys e = passed_on n m (map v xs) (map v ys) e ∙ ap (pass n) (sym (map-append v xs ys))

  pub stopped_more : (n : ℕ) (o : Order) (xs ys : List Reference) → Err o ≡ pass n (map v xs) → Err o ≡ pass n (map v (xs ++ ys))
  stopped_more n o xs ys e = stopped n o (map v xs) (map v ys) e ∙ ap (pass n) (sym (map-append v xs ys))

one_further : (n k : ℕ) → k ≡ capped n → capped (k + 1) ≡ capped (n + 1)
one_further n k e = omega (arith, e)

-- what stands of all of them
all_passed : (n k m : ℕ) (vs : List Verdict) → k ≡ capped n → Ok m ≡ pass k vs → Ordered ≡ capped_order (first_fault n vs)
all_passed n k m [] c e = refl
all_passed n k m (InOrder ∷ vs) c e = all_passed (n + 1) (capped (k + 1)) m vs (one_further n k c) e
all_passed n k m (Early ∷ vs) c e = absurd (through_or_not m (Index k) e)
all_passed n k m (OutOfRange ∷ vs) c e = absurd (through_or_not m (Outer k) e)

one_stopped : (n k : ℕ) (o : Order) (vs : List Verdict) → k ≡ capped n → Err o ≡ pass k vs → o ≡ capped_order (first_fault n vs)
unfolding order_in
one_stopped n k o [] c e = absurd (through_or_not k o (sym e))
one_stopped n k o (InOrder ∷ vs) c e = one_stopped (n + 1) (capped (k + 1)) o vs (one_further n k c) e
one_stopped n k o (Early ∷ vs) c e = ap order_in e ∙ ap Index c
one_stopped n k o (OutOfRange ∷ vs) c e = ap order_in e ∙ ap Outer c

pub ordered_all : (m : ℕ) (vs : List Verdict) → Ok m ≡ pass 0 vs → Ordered ≡ capped_order (first_fault 0 vs)
ordered_all m vs e = all_passed 0 0 m vs (omega arith) e

pub ordered_until : (o : Order) (vs : List Verdict) → Err o ≡ pass 0 vs → o ≡ capped_order (first_fault 0 vs)
ordered_until o vs e = one_stopped 0 0 o vs (omega arith) e

-- the number of one of fewer than 2 ^ 64 lines has room
small : (n : ℕ) → n < 2 ^ 64 → capped n ≡ n
small n h = omega (arith, h)

pub fault_kept : (n : ℕ) (vs : List Verdict) → n + length vs < 2 ^ 64 → capped_order (first_fault n vs) ≡ first_fault n vs
fault_kept n [] h = refl
fault_kept n (InOrder ∷ vs) h = fault_kept (n + 1) vs (omega (arith, h))
fault_kept n (Early ∷ vs) h = ap Index (small n (omega (arith, h)))
fault_kept n (OutOfRange ∷ vs) h = ap Outer (small n (omega (arith, h)))
