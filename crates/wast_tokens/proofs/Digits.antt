-- The number that digits write, digit by digit.
use Rattle.std.proofs.Common.{◌≡◌, ℕ, ◌+◌, ◌*◌, ◌<◌, ◌≤◌, true, false, not, ◌==◌, cond, List, [], ◌∷◌, length, drop, get_or, sym, ap, ◌∙◌, ⊎_elim, arith, Some, None, nat_lt}
use Rattle.std.proofs.lemmas.Bool.{cases_Bool, cases_lt, eqb-true, lt-ltb, le-ltb}
use Rattle.std.proofs.lemmas.List.{drop_more, drop_all}
use Rattle.std.specs.List.{filter}
use Rattle.std.specs.Char.{digit_value}
use Rattle.std.specs.Str.Parse.{digits_value_after}
use Rattle.std.proofs.Math.Nat.{mul-le-mul_left}

-- the number that the digits write behind those of n
abbrev pub number_behind : ℕ → ℕ → List ℕ → ℕ
number_behind radix n bs = digits_value_after radix n (filter (λ b. not (b == 95)) bs)

digits_grow : (radix n : ℕ) (ds : List ℕ) → 0 < radix → n ≤ digits_value_after radix n ds
digits_grow radix n [] h = omega arith
digits_grow radix n (d ∷ ds) h =
    let r : n * radix + digit_value d ≤ digits_value_after radix (n * radix + digit_value d) ds = digits_grow radix (n * radix + digit_value d) ds h in
    let m : n * 1 ≤ n * radix = mul-le-mul_left n (let s : 1 ≤ radix = omega arith in s) in
    omega (arith, r, m)

pub behind_underscore : (radix n : ℕ) (bs : List ℕ) (i : ℕ) → i < length bs → (get_or bs i 0 == 95) ≡ true → number_behind radix n (drop i bs) ≡ number_behind radix n (drop (i + 1) bs)
behind_underscore radix n bs i lt is =
    ap (number_behind radix n) (drop_more bs i 0 lt) ∙ ap (λ t. digits_value_after radix n (cond (not t) (get_or bs i 0 ∷ filter (λ b. not (b == 95)) (drop (i + 1) bs)) (filter (λ b. not (b == 95)) (drop (i + 1) bs)))) is

pub behind_digit : (radix n : ℕ) (bs : List ℕ) (i : ℕ) → i < length bs → (get_or bs i 0 == 95) ≡ false → number_behind radix n (drop i bs) ≡ number_behind radix (n * radix + digit_value (get_or bs i 0)) (drop (i + 1) bs)
behind_digit radix n bs i lt is =
    ap (number_behind radix n) (drop_more bs i 0 lt) ∙ ap (λ t. digits_value_after radix n (cond (not t) (get_or bs i 0 ∷ filter (λ b. not (b == 95)) (drop (i + 1) bs)) (filter (λ b. not (b == 95)) (drop (i + 1) bs)))) is

-- what stands behind n only makes it larger
pub behind_more : (radix n : ℕ) (bs : List ℕ) → 0 < radix → n ≤ number_behind radix n bs
behind_more radix n bs h = digits_grow radix n (filter (λ b. not (b == 95)) bs) h

not_eqb : (b n : ℕ) → (b ≡ n → ⊥) → (b == n) ≡ false
not_eqb b n ne = ⊎_elim (λ t. absurd (ne (eqb-true b n t))) (λ f. f) (cases_Bool (b == n))

-- a product or a sum that is too large makes the number too large

pub large_product : (radix n total : ℕ) (bs : List ℕ) (i : ℕ) → 0 < radix → i < length bs → (get_or bs i 0 ≡ 95 → ⊥) → total ≡ number_behind radix n (drop i bs) → (n * radix < 18446744073709551616 → ⊥) → 18446744073709551616 ≤ total
large_product radix n total bs i some lt ne e big =
    let b = behind_digit radix n bs i lt (not_eqb (get_or bs i 0) 95 ne) in
    let m = behind_more radix (n * radix + digit_value (get_or bs i 0)) (drop (i + 1) bs) some in
    ⊎_elim (λ small. absurd (big small)) (λ large. omega (arith, e, b, m, large)) (cases_lt (n * radix) 18446744073709551616)

pub large_sum : (radix n product d total : ℕ) (bs : List ℕ) (i : ℕ) → 0 < radix → i < length bs → (get_or bs i 0 ≡ 95 → ⊥) → product ≡ n * radix → d ≡ digit_value (get_or bs i 0) → total ≡ number_behind radix n (drop i bs) → (product + d < 18446744073709551616 → ⊥) → 18446744073709551616 ≤ total
large_sum radix n product d total bs i some lt ne p v e big =
    let b = behind_digit radix n bs i lt (not_eqb (get_or bs i 0) 95 ne) in
    let m = behind_more radix (n * radix + digit_value (get_or bs i 0)) (drop (i + 1) bs) some in
    ⊎_elim (λ small. absurd (big small)) (λ large. omega (arith, e, b, m, p, v, large)) (cases_lt (product + d) 18446744073709551616)

pub none_where : (t : ℕ) → 18446744073709551616 ≤ t → None ≡ cond (nat_lt t 18446744073709551616) (Some t) None
none_where t h = sym (ap (λ x. cond x (Some t) None) (le-ltb t 18446744073709551616 h))

pub some_where : (t n : ℕ) → t ≡ n → n < 18446744073709551616 → Some n ≡ cond (nat_lt t 18446744073709551616) (Some t) None
some_where t n e h =
    let small : t < 18446744073709551616 = omega (arith, e, h) in
    ap Some (sym e) ∙ sym (ap (λ x. cond x (Some t) None) (lt-ltb t 18446744073709551616 small))

-- behind all digits stands nothing
pub behind_all : (radix n : ℕ) (bs : List ℕ) (i : ℕ) → length bs ≤ i → number_behind radix n (drop i bs) ≡ n
behind_all radix n bs i le = ap (number_behind radix n) (drop_all i bs le)
