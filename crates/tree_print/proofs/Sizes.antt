-- How long tokens are.
use Rattle.std.proofs.Common.{◌≡◌, ℕ, suc, zero, ◌+◌, ◌-◌, ◌*◌, ◌/◌, ◌<◌, ◌≤◌, ◌^◌, List, [], ◌∷◌, length, length-append, refl, ap, ◌∙◌, arith, true, false}
use Rattle.std.specs.Fmt.{decimal}
use Rattle.std.proofs.lemmas.Fmt.{decimal_step, decimal_digit, length-decimal-le}
use Rattle.print_table.specs.Tokens.{escaped, quoted}
use Rattle.print_table.specs.TextOf.{results_tokens}
use Rattle.tree_print.specs.Taken.{all_spaced}

pub one_digit : (n : ℕ) → n < 10 → length (decimal n) ≡ 1
one_digit n h = ap length (decimal_digit n h)

pub one_more_digit : (n : ℕ) → 10 ≤ n → n < 2 ^ 64 → length (decimal n) ≡ length (decimal (n / 10)) + 1
one_more_digit n h small = ap length (decimal_step n h small) ∙ length-append (decimal (n / 10)) _

pub few_digits : (n : ℕ) → n < 2 ^ 32 → length (decimal n) ≤ 10
few_digits n h = length-decimal-le 10 n (omega arith) (omega arith) (omega arith)

pub quoted_length : (bs : List ℕ) → length (quoted bs) ≡ 2 + length (escaped bs)
quoted_length bs = let e = length-append (escaped bs) (34 ∷ []) in omega (arith, e)

pub results_length : (n : ℕ) → length (all_spaced false (results_tokens n)) ≡ 17 * n
results_length zero = refl
results_length (suc n) = let e = results_length n in omega (arith, e)

pub tight_length : (n : ℕ) → 0 < n → length (all_spaced true (results_tokens n)) ≡ 17 * n - 1
tight_length zero h = absurd (omega arith)
tight_length (suc n) h = let e = results_length n in omega (arith, e)
