-- Choices among words that stand in a list, each with its rule at the same place of another.
use Rattle.std.proofs.lemmas.Bool.Decides.{nat_tests}
use Rattle.std.proofs.Common.{◌≡◌, ◌≤◌, ◌<◌, ◌+◌, ℕ, suc, List, [], ◌∷◌, length, Option, Some, None, Bool, true, false, cond, ◌&&◌, slice_get, drop, get_or, refl, ap, sym, subst, ◌∙◌, arith}
use Rattle.std.proofs.Math.Seq.{drop-cons}
use Rattle.std.proofs.Math.ListN.{drop_of_length-le}
use Rattle.wast_grammar.specs.Grammar.{next}
use Rattle.token_codes.specs.Numbers.{between}
use Rattle.text_rules.specs.Rule as r
use Rattle.text_rules.specs.Measure.{Fit}
use Rattle.rule_runs.proofs.Runs.{run_no_case}
use Rattle.text_table.specs.Code.{one_class, both_of}
use Rattle.text_table.specs.Choice.{ChosenAs, place_among}
use Rattle.text_table.proofs.Choosing.{first_case, later_case, word_told, words_told}

-- one of these, each behind its word
abbrev pub words_at : ℕ → List ℕ → List r.Rule → r.Rule
words_at n [] xs = r.no_case
words_at n (k ∷ ks) [] = r.no_case
words_at n (k ∷ ks) (x ∷ xs) = r.case n (next (one_class k)) x (words_at (n + 1) ks xs)

-- one of these, each behind a word that they share and one of its own, or another rule
abbrev pub second_words_at : ℕ → ℕ → List ℕ → List r.Rule → r.Rule → r.Rule
second_words_at n k [] xs z = z
second_words_at n k (l ∷ ls) [] z = z
second_words_at n k (l ∷ ls) (x ∷ xs) z = r.case n (both_of (one_class k) (one_class l)) x (second_words_at (n + 1) k ls xs z)

-- what a list has at the place of a word
at_place : {A : Type 0} (b : Bool) (k : ℕ) (ks : List ℕ) (x : A) (xs : List A) (code : ℕ) → between k code k ≡ b → cond b (Some x) (slice_get xs (place_among ks code)) ≡ slice_get (x ∷ xs) (place_among (k ∷ ks) code)
at_place true k ks x xs code e = ap (λ c. slice_get (x ∷ xs) (cond c 0 (place_among ks code + 1))) (sym e)
at_place false k ks x xs code e =
    let p : suc (place_among ks code) ≡ place_among ks code + 1 = omega arith in
    ap (slice_get (x ∷ xs)) p ∙ ap (λ c. slice_get (x ∷ xs) (cond c 0 (place_among ks code + 1))) (sym e)

word_so : (b : Bool) (k : ℕ) (ks : List ℕ) (x : r.Rule) (xs : List r.Rule) (n code ahead : ℕ) → between k code k ≡ b → Fit (words_at n (k ∷ ks) (x ∷ xs))
    → (Fit (words_at (n + 1) ks xs) → ChosenAs (slice_get xs (place_among ks code)) (words_at (n + 1) ks xs) code ahead)
    → ChosenAs (cond b (Some x) (slice_get xs (place_among ks code))) (words_at n (k ∷ ks) (x ∷ xs)) code ahead
word_so true k ks x xs n code ahead e f c = first_case n (next (one_class k)) x (words_at (n + 1) ks xs) code ahead f (word_told k code ahead true e)
word_so false k ks x xs n code ahead e f c = later_case n (next (one_class k)) x (words_at (n + 1) ks xs) code ahead f (slice_get xs (place_among ks code)) (word_told k code ahead false e) c

-- a choice among words comes to the rule at the place of the next one
pub word_chosen : (ks : List ℕ) (xs : List r.Rule) (n code ahead : ℕ) → length xs ≤ length ks → Fit (words_at n ks xs) → ChosenAs (slice_get xs (place_among ks code)) (words_at n ks xs) code ahead
word_chosen [] [] n code ahead h f = λ s a e i. run_no_case s a
word_chosen [] (x ∷ xs) n code ahead h f = absurd (omega (arith, h))
word_chosen (k ∷ ks) [] n code ahead h f = λ s a e i. run_no_case s a
word_chosen (k ∷ ks) (x ∷ xs) n code ahead h f =
    subst (λ o. ChosenAs o (words_at n (k ∷ ks) (x ∷ xs)) code ahead) (at_place (between k code k) k ks x xs code refl)
    (word_so (between k code k) k ks x xs n code ahead refl f (λ g. word_chosen ks xs (n + 1) code ahead (omega (arith, h)) g))

both_so : (a b c : Bool) → a ≡ true → b ≡ c → (a && b) ≡ c
both_so true b c e h = h
both_so false b c e h = absurd (cc)

not_first : (a b : Bool) → a ≡ false → (a && b) ≡ false
not_first true b e = absurd (cc)
not_first false b e = refl

second_so : (b : Bool) (k l : ℕ) (ls : List ℕ) (x : r.Rule) (xs : List r.Rule) (z : r.Rule) (n code ahead : ℕ) → between k code k ≡ true → between l ahead l ≡ b → Fit (second_words_at n k (l ∷ ls) (x ∷ xs) z)
    → (Fit (second_words_at (n + 1) k ls xs z) → ChosenAs (slice_get xs (place_among ls ahead)) (second_words_at (n + 1) k ls xs z) code ahead)
    → ChosenAs (cond b (Some x) (slice_get xs (place_among ls ahead))) (second_words_at n k (l ∷ ls) (x ∷ xs) z) code ahead
second_so true k l ls x xs z n code ahead h e f c = first_case n (both_of (one_class k) (one_class l)) x (second_words_at (n + 1) k ls xs z) code ahead f (words_told k l code ahead true (both_so (between k code k) (between l ahead l) true h e))
second_so false k l ls x xs z n code ahead h e f c = later_case n (both_of (one_class k) (one_class l)) x (second_words_at (n + 1) k ls xs z) code ahead f (slice_get xs (place_among ls ahead)) (words_told k l code ahead false (both_so (between k code k) (between l ahead l) false h e)) c

-- behind the word that they share, the choice is among the second words
pub second_chosen : (ls : List ℕ) (xs : List r.Rule) (z : r.Rule) (n k code ahead : ℕ) → length xs ≤ length ls → between k code k ≡ true → Fit (second_words_at n k ls xs z) → (Fit z → ChosenAs None z code ahead)
    → ChosenAs (slice_get xs (place_among ls ahead)) (second_words_at n k ls xs z) code ahead
second_chosen [] [] z n k code ahead h b f c = c f
second_chosen [] (x ∷ xs) z n k code ahead h b f c = absurd (omega (arith, h))
second_chosen (l ∷ ls) [] z n k code ahead h b f c = c f
second_chosen (l ∷ ls) (x ∷ xs) z n k code ahead h b f c =
    subst (λ o. ChosenAs o (second_words_at n k (l ∷ ls) (x ∷ xs) z) code ahead) (at_place (between l ahead l) l ls x xs ahead refl)
    (second_so (between l ahead l) k l ls x xs z n code ahead b refl f (λ g. second_chosen ls xs z (n + 1) k code ahead (omega (arith, h)) b g c))

-- behind another word the choice is among the others
pub others_chosen : (o : Option r.Rule) (ls : List ℕ) (xs : List r.Rule) (z : r.Rule) (n k code ahead : ℕ) → between k code k ≡ false → Fit (second_words_at n k ls xs z) → (Fit z → ChosenAs o z code ahead)
    → ChosenAs o (second_words_at n k ls xs z) code ahead
others_chosen o [] xs z n k code ahead b f c = c f
others_chosen o (l ∷ ls) [] z n k code ahead b f c = c f
others_chosen o (l ∷ ls) (x ∷ xs) z n k code ahead b f c =
    later_case n (both_of (one_class k) (one_class l)) x (second_words_at (n + 1) k ls xs z) code ahead f o (words_told k l code ahead false (not_first (between k code k) (between l ahead l) b))
    (λ g. others_chosen o ls xs z (n + 1) k code ahead b g c)

it_is : (k n : ℕ) → between k n k ≡ true → n ≡ k
it_is k n h = grind (arith, nat_tests)

core_so : (b : Bool) (o : Option r.Rule) (ls ks : List ℕ) (xs ys : List r.Rule) (n code ahead : ℕ) → between 114 code 114 ≡ b
    → o ≡ cond b (slice_get xs (place_among ls ahead)) (slice_get ys (place_among ks code)) → length xs ≤ length ls → length ys ≤ length ks → slice_get ys (place_among ks 114) ≡ None
    → Fit (second_words_at 0 114 ls xs (words_at n ks ys)) → ChosenAs o (second_words_at 0 114 ls xs (words_at n ks ys)) code ahead
core_so true o ls ks xs ys n code ahead b e h k i f =
    let z = words_at n ks ys in
    subst (λ p. ChosenAs p (second_words_at 0 114 ls xs z) code ahead) (sym e)
    (second_chosen ls xs z 0 114 code ahead h b f
    (λ g. subst (λ p. ChosenAs p z code ahead) (ap (λ m. slice_get ys (place_among ks m)) (it_is 114 code b) ∙ i) (word_chosen ks ys n code ahead k g)))
core_so false o ls ks xs ys n code ahead b e h k i f =
    let z = words_at n ks ys in
    subst (λ p. ChosenAs p (second_words_at 0 114 ls xs z) code ahead) (sym e)
    (others_chosen (slice_get ys (place_among ks code)) ls xs z 0 114 code ahead b f (λ g. word_chosen ks ys n code ahead k g))

-- a choice by the next word, and behind `core` by the second one
pub core_chosen : (o : Option r.Rule) (ls ks : List ℕ) (xs ys : List r.Rule) (n code ahead : ℕ)
    → o ≡ cond (between 114 code 114) (slice_get xs (place_among ls ahead)) (slice_get ys (place_among ks code)) → length xs ≤ length ls → length ys ≤ length ks → slice_get ys (place_among ks 114) ≡ None
    → Fit (second_words_at 0 114 ls xs (words_at n ks ys)) → ChosenAs o (second_words_at 0 114 ls xs (words_at n ks ys)) code ahead
core_chosen o ls ks xs ys n code ahead e h k i f = core_so (between 114 code 114) o ls ks xs ys n code ahead refl e h k i f

-- the place of a word from a place on, by whether it stands there
pub place_from : (ns : List ℕ) (i n : ℕ) (b : Bool) → i < length ns → between (get_or ns i 0) n (get_or ns i 0) ≡ b
    → place_among (drop i ns) n ≡ cond b 0 (place_among (drop (i + 1) ns) n + 1)
place_from ns i n b l h =
    let p : suc i ≡ i + 1 = omega arith in
    ap (λ xs. place_among xs n) (drop-cons ns i 0 l)
    ∙ (ap (λ c. cond c 0 (place_among (drop (suc i) ns) n + 1)) h
    ∙ ap (λ k. cond b 0 (place_among (drop k ns) n + 1)) p)

pub found_at : (ns : List ℕ) (i n : ℕ) → i < length ns → between (get_or ns i 0) n (get_or ns i 0) ≡ true → place_among (drop i ns) n + i ≡ place_among ns n → i ≡ place_among ns n
found_at ns i n l h e = let p : place_among (drop i ns) n ≡ 0 = place_from ns i n true l h in omega (arith, p, e)

pub found_later : (ns : List ℕ) (i n : ℕ) → i < length ns → between (get_or ns i 0) n (get_or ns i 0) ≡ false → place_among (drop i ns) n + i ≡ place_among ns n → place_among (drop (i + 1) ns) n + (i + 1) ≡ place_among ns n
found_later ns i n l h e = let p = place_from ns i n false l h in omega (arith, p, e)

pub never_found : (ns : List ℕ) (i n : ℕ) → length ns ≡ i → place_among (drop i ns) n + i ≡ place_among ns n → length ns ≡ place_among ns n
never_found ns i n h e = let p = ap (λ xs. place_among xs n) (drop_of_length-le ns {i = i} (omega (arith, h))) in omega (arith, p, e, h)
