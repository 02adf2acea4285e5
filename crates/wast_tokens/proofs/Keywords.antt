-- A run that begins with a letter from `a` to `z` is a keyword: it is no id and no integer.
use Rattle.std.proofs.Common.{◌≡◌, ◌∙◌, ℕ, zero, suc, ◌<◌, List, [], ◌∷◌, length, slice_index, drop, cond, Bool, true, false, not, ◌&&◌, ◌||◌, ◌==◌, Ok, Err, refl, ap, sym, subst, ⊎_elim, arith}
use Rattle.std.proofs.lemmas.Bool.{cases_lt}
use Rattle.std.proofs.lemmas.Bool.Decides.{nat_tests}
use Rattle.std.specs.Char.{is_ascii_lowercase, is_digit}
use Rattle.wast_tokens.specs.declared.token.TokenKind.TheVariants.{Id, Integer, Keyword, Reserved}
use Rattle.wast_tokens.specs.declared.error.LexFault.TheVariants.{EmptyId}
use Rattle.wast_tokens.specs.Numbers.{are_digits, are_more_digits, is_hexadecimal, is_integer, unsigned}
use Rattle.wast_tokens.specs.Runs.{word_kind}
use Rattle.wast_tokens.proofs.Classes.{and_first, and_second}

-- whether a test holds of each number below n
abbrev each_below : (ℕ → Bool) → ℕ → Bool
each_below test zero = true
each_below test (suc n) = test n && each_below test n

each_below_tells : (test : ℕ → Bool) (n k : ℕ) → each_below test n ≡ true → k < n → test k ≡ true
each_below_tells test zero k h lt = absurd (omega arith)
each_below_tells test (suc n) k h lt =
    ⊎_elim
    (λ below. each_below_tells test n k (and_second _ _ h) below)
    (λ from. let e : k ≡ n = omega arith in subst (λ i. test i ≡ true) (sym e) (and_first _ _ h))
    (cases_lt k n)

lower_below : (b : ℕ) → is_ascii_lowercase b ≡ true → b < 128
lower_below b h = grind (arith, nat_tests)

unmet_by : (x y : Bool) → x ≡ true → not (x && y) ≡ true → y ≡ false
unmet_by true true e h = absurd (cc)
unmet_by true false e h = refl
unmet_by false y e h = absurd (cc)

-- a test that no lowercase letter meets
unmet : (test : ℕ → Bool) → each_below (λ b. not (is_ascii_lowercase b && test b)) 128 ≡ true → (b : ℕ) → is_ascii_lowercase b ≡ true → test b ≡ false
unmet test all b lower = unmet_by _ _ lower (each_below_tells (λ b. not (is_ascii_lowercase b && test b)) 128 b all (lower_below b lower))

and_false : (x : Bool) → (x && false) ≡ false
and_false true = refl
and_false false = refl

no_digits : (b : ℕ) (bs : List ℕ) → is_digit b 10 ≡ false → are_digits 10 (b ∷ bs) ≡ false
no_digits b bs e =
    ap (λ d. (d || ((b == 95) && false)) && are_more_digits 10 d bs) e ∙ ap (λ x. x && are_more_digits 10 false bs) (and_false (b == 95))

no_integer : (b : ℕ) (bs : List ℕ) → is_ascii_lowercase b ≡ true → is_integer (b ∷ bs) ≡ false
no_integer b bs lower =
    let plus : (b == 43) ≡ false = unmet (λ x. x == 43) refl b lower in
    let minus : (b == 45) ≡ false = unmet (λ x. x == 45) refl b lower in
    let nought : (b == 48) ≡ false = unmet (λ x. x == 48) refl b lower in
    let digit : is_digit b 10 ≡ false = unmet (λ x. is_digit x 10) refl b lower in
    let whole : unsigned (b ∷ bs) ≡ b ∷ bs = ap (λ x. cond (x || (b == 45)) bs (b ∷ bs)) plus ∙ ap (λ x. cond x bs (b ∷ bs)) minus in
    ap (λ us. cond (is_hexadecimal us) (are_digits 16 (drop 2 us)) (are_digits 10 us)) whole
    ∙ ap (λ x. cond (x && (slice_index (b ∷ bs) 1 == 120)) (are_digits 16 (drop 2 (b ∷ bs))) (are_digits 10 (b ∷ bs))) nought
    ∙ no_digits b bs digit

pub keyword_kind : (run : List ℕ) → is_ascii_lowercase (slice_index run 0) ≡ true → word_kind run ≡ Ok Keyword
unfolding word_kind
keyword_kind [] lower = absurd (cc)
keyword_kind (b ∷ bs) lower =
    let dollar : (b == 36) ≡ false = unmet (λ x. x == 36) refl b lower in
    ap (λ x. cond x (cond (length (b ∷ bs) == 1) (Err EmptyId) (Ok Id)) (cond (is_integer (b ∷ bs)) (Ok Integer) (cond (is_ascii_lowercase b) (Ok Keyword) (Ok Reserved)))) dollar
    ∙ ap (λ x. cond x (Ok Integer) (cond (is_ascii_lowercase b) (Ok Keyword) (Ok Reserved))) (no_integer b bs lower)
    ∙ ap (λ x. cond x (Ok Keyword) (Ok Reserved)) lower
