-- Two keys of a map compare as equal where their parts do.
use Rattle.std.proofs.Common.{◌≡◌, ℕ, Bool, ◌&&◌, nat_eq, sym, arith}
use Rattle.std.proofs.lemmas.Bool.Decides.{nat_tests}
use Rattle.std.specs.declared.cmp.Ordering.{Ordering}
use Rattle.std.specs.Ordering.{is_eq, nat_cmp, ordering_then}
use Rattle.std.specs.Cmp.{both_tied}

pub numbers-equal : (m n : ℕ) → is_eq (nat_cmp m n) ≡ nat_eq m n
numbers-equal m n = grind (arith, nat_tests)

-- two parts, the second behind the first
pub then-equal : (o p : Ordering) (t u : Bool) → is_eq o ≡ t → is_eq p ≡ u → is_eq (ordering_then o p) ≡ (t && u)
then-equal o p t u e f = sym (both_tied t u o p (sym e) (sym f))
