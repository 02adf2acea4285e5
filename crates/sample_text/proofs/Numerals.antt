-- What `parse` says of a word, and the number that the word says.
use Rattle.std.proofs.Common.{◌≡◌, ◌≢◌, ◌<◌, ◌≤◌, ◌^◌, ℕ, List, [], ◌∷◌, Bool, true, false, not, ◌&&◌, ◌||◌, cond, nat_eq, nat_lt, nat_le, length, get_or, Result, Ok, Err, Some, None, OkIff, refl, sym, ap, subst, ◌∙◌, arith, rules, tests}
use Rattle.std.proofs.lemmas.Bool.{false≢true}
use Rattle.std.proofs.lemmas.Bool.Decides.{nat_tests}
use Rattle.std.proofs.lemmas.Fmt.{decimal-digits_value}
use Rattle.std.proofs.lemmas.Str.Parse.{IsNumeralModel, numerals_by_value, tells_all_ascii_digits, parse_plain}
use Rattle.std.specs.Fmt.{decimal}
use Rattle.std.specs.Str.{all_ascii_digits}
use Rattle.std.specs.Str.Parse.{digits_value, ParsesUnsigned}
use Rattle.sample_text.specs.Count.{begins_otherwise, is_numeral, count_of}

own : IsNumeralModel (λ ds. all_ascii_digits ds ≡ true) (digits_value 10)
own = numerals_by_value _ tells_all_ascii_digits

-- a word that doesn't begin otherwise has no plus in front
no_plus : (word : List ℕ) → begins_otherwise word ≡ false → get_or word 0 0 ≢ 43
no_plus [] h = λ e. omega (arith, e)
no_plus (c ∷ cs) h = λ e. grind (arith, nat_tests, h, e)

-- nor a zero that others follow
lone_zero : (word : List ℕ) → begins_otherwise word ≡ false → get_or word 0 0 ≡ 48 → length word ≡ 1
lone_zero [] h = λ e. absurd (omega (arith, e))
lone_zero (c ∷ cs) h = λ e. grind (arith, nat_tests, h, e)

second_false : (a b : Bool) → (a || b) ≡ false → b ≡ false
second_false true b h = absurd (false≢true (sym h))
second_false false b h = h

both : (a b : Bool) → a ≡ true → b ≡ false → (a && not b) ≡ true
both a b p q = rw (p, q) refl

numeral : (word : List ℕ) → begins_otherwise word ≡ false → all_ascii_digits word ≡ true → 0 < length word → is_numeral word ≡ true
numeral [] h d some = absurd (omega arith)
numeral (c ∷ cs) h d some = both (all_ascii_digits (c ∷ cs)) (nat_eq c 48 && nat_lt 0 (length cs)) d (second_false (nat_eq c 43) (nat_eq c 48 && nat_lt 0 (length cs)) h)

within : (v : ℕ) → v ≤ 100_000 → nat_le v 100_000 ≡ true
within v h = search (rules, tests)

beyond : (v : ℕ) → 100_000 < v → nat_le v 100_000 ≡ false
beyond v h = search (rules, tests)

-- what a number that was read says of the word
read : {E : Type 0} (word : List ℕ) (n : ℕ) (r : Result ℕ E) → begins_otherwise word ≡ false → ParsesUnsigned 32 10 word r → r ≡ Ok n → ((all_ascii_digits word ≡ true) × (0 < length word) × (digits_value 10 word < 2 ^ 32)) × (n ≡ digits_value 10 word)
read {E} word n r h p is = subst (λ q. OkIff q ((all_ascii_digits word ≡ true) × (0 < length word) × (digits_value 10 word < 2 ^ 32)) (digits_value 10 word)) is (parse_plain own 32 word r p (no_plus word h))

said : (a : Bool) (v n : ℕ) → a ≡ true → n ≡ v → n ≤ 100_000 → Some n ≡ cond (a && nat_le v 100_000) (Some v) None
said a v n p e small = rw (p, sym e, within n small) refl

pub count_said : {E : Type 0} (word : List ℕ) (n : ℕ) (r : Result ℕ E) → begins_otherwise word ≡ false → ParsesUnsigned 32 10 word r → r ≡ Ok n → n ≤ 100_000 → Some n ≡ count_of word
count_said word n r h p is small =
    let f = read word n r h p is in
    said (is_numeral word) (digits_value 10 word) n (numeral word h f.0.0 f.0.1) f.1 small

pub count_spelled : {E : Type 0} (word : List ℕ) (n : ℕ) (r : Result ℕ E) → begins_otherwise word ≡ false → ParsesUnsigned 32 10 word r → r ≡ Ok n → word ≡ decimal n
count_spelled word n r h p is =
    let f = read word n r h p is in
    sym (decimal-digits_value own word f.0.0 f.0.1 (lone_zero word h) (omega (arith, f.0.2))) ∙ ap decimal (sym f.1)

unsaid : (a b : Bool) (v : ℕ) → (a ≡ true → v < 2 ^ 32 → ⊥) → None ≡ cond ((a && b) && nat_le v 100_000) (Some v) None
unsaid false b v h = refl
unsaid true false v h = refl
unsaid true true v h = rw (beyond v (omega (arith, h refl))) refl

pub count_unsaid : {E : Type 0} (word : List ℕ) (e : E) (r : Result ℕ E) → begins_otherwise word ≡ false → ParsesUnsigned 32 10 word r → r ≡ Err e → None ≡ count_of word
count_unsaid {E} word e r h p is =
    let f : ¬ ((all_ascii_digits word ≡ true) × (0 < length word) × (digits_value 10 word < 2 ^ 32)) = subst (λ q. OkIff q ((all_ascii_digits word ≡ true) × (0 < length word) × (digits_value 10 word < 2 ^ 32)) (digits_value 10 word)) is (parse_plain own 32 word r p (no_plus word h)) in
    go word f
  where
    go : (w : List ℕ) → ¬ ((all_ascii_digits w ≡ true) × (0 < length w) × (digits_value 10 w < 2 ^ 32)) → None ≡ count_of w
    go [] f = refl
    go (c ∷ cs) f = unsaid (all_ascii_digits (c ∷ cs)) (not (nat_eq c 48 && nat_lt 0 (length cs))) (digits_value 10 (c ∷ cs)) (λ d small. f (d, omega arith, small))
