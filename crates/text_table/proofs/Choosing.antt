-- Choices among words by their numbers.
use Rattle.std.proofs.Common.{◌≡◌, ◌<◌, ◌≤◌, ◌+◌, ◌-◌, ℕ, zero, suc, List, [], ◌∷◌, length, Option, Some, None, Bool, true, false, cond, ◌&&◌, nat_lt, nat_eq, map, slice_get, refl, ap, sym, subst, ◌∙◌, arith}
use Rattle.std.proofs.lemmas.Bool.Decides.{nat_tests}
use Rattle.std.specs.Bool.{⊤}
use Rattle.std.specs.Option.{option_map}
use Rattle.std.proofs.lemmas.Option.{slice_get-map}
use Rattle.wast_grammar.specs.Classes.{Class, keyword, same}
use Rattle.wast_grammar.specs.Stand.{Stand, class_at, class_after}
use Rattle.wast_grammar.specs.Grammar.{Test, next, holds, number_in}
use Rattle.token_codes.specs.Numbers.{number, class, between}
use Rattle.token_codes.proofs.Tables.{among_range, told_by_number_too}
use Rattle.text_rules.specs.Rule as r
use Rattle.text_rules.specs.Made.{Made}
use Rattle.text_rules.specs.Measure.{Fit}
use Rattle.rule_runs.specs.Run.{run}
use Rattle.rule_runs.proofs.Runs.{run_case, run_no_case}
use Rattle.rule_runs.proofs.Ranks.{fit_case, fit_later, rank_case, rank_later}
use Rattle.text_table.specs.Code.{one_class, both_of}
use Rattle.text_table.proofs.Testing.{both_test}
use Rattle.text_table.specs.Choice.{words_from, at_number, Takes, ChosenAs}

-- a case whose test holds, by the numbers of the next two tokens, and one whose test doesn't
module _ (n : ℕ) (t : Test) (x y : r.Rule) (code ahead : ℕ) (fit : Fit (r.case n t x y)) where
  abbrev pub Is : Bool → Type 0
  Is b = (s : Stand) → code ≡ number (class_at s) → ahead ≡ number (class_after s) → holds t s ≡ b

  runs_so : (b : Bool) (s : Stand) (a : Made) → holds t s ≡ b → run (r.case n t x y) s a ≡ cond b (run x s a) (run y s a)
  runs_so b s a e = run_case n t x y s a fit.sound ∙ ap (λ h. cond h (run x s a) (run y s a)) e

  pub first_case : Is true → Takes (r.case n t x y) code ahead x
  first_case h = record { runs = λ s a e f. runs_so true s a (h s e f); fit = fit_case n t x y fit; below = λ s. rank_case n t x y s }

  pub later_case : (o : Option r.Rule) → Is false → (Fit y → ChosenAs o y code ahead) → ChosenAs o (r.case n t x y) code ahead
  later_case o h c = later_so o h (c (fit_later n t x y fit))
    where
      below_than : {i j l : ℕ} → i < j → j < l → i < l
      below_than p q = omega (arith, p, q)

      later_so : (o : Option r.Rule) → Is false → ChosenAs o y code ahead → ChosenAs o (r.case n t x y) code ahead
      later_so None h c = λ s a e f. runs_so false s a (h s e f) ∙ c s a e f
      later_so (Some z) h c = record { runs = λ s a e f. runs_so false s a (h s e f) ∙ c.runs s a e f; fit = c.fit; below = λ s. below_than (c.below s) (rank_later n t x y s) }

-- whether a word is next, by its number
pub word_told : (k code ahead : ℕ) (b : Bool) → between k code k ≡ b → (s : Stand) → code ≡ number (class_at s) → ahead ≡ number (class_after s) → holds (next (one_class k)) s ≡ b
word_told k code ahead b h s e f = among_range k k (class_at s) ∙ (ap (λ c. between k c k) (sym e) ∙ h)

-- whether two words are next
pub words_told : (k l code ahead : ℕ) (b : Bool) → (between k code k && between l ahead l) ≡ b → (s : Stand) → code ≡ number (class_at s) → ahead ≡ number (class_after s) → holds (both_of (one_class k) (one_class l)) s ≡ b
words_told k l code ahead b h s e f = sym (both_test k l code ahead s e f) ∙ h

at_so : {A : Type 0} (x : A) (xs : List A) (k n : ℕ) (b e : Bool) → nat_lt n k ≡ b → nat_eq n k ≡ e → at_number (x ∷ xs) k n ≡ cond e (Some x) (at_number xs (k + 1) n)
at_so x xs k n true true h i = absurd (grind (arith, nat_tests))
at_so x xs k n true false h i =
    let p : nat_lt n (k + 1) ≡ true = grind (arith, nat_tests) in
    ap (λ b. cond b None (slice_get (x ∷ xs) (n - k))) h ∙ sym (ap (λ b. cond b None (slice_get xs (n - (k + 1)))) p)
at_so x xs k n false true h i =
    let p : n - k ≡ zero = grind (arith, nat_tests) in
    ap (λ b. cond b None (slice_get (x ∷ xs) (n - k))) h ∙ ap (slice_get (x ∷ xs)) p
at_so x xs k n false false h i =
    let p : nat_lt n (k + 1) ≡ false = grind (arith, nat_tests) in
    let q : n - k ≡ suc (n - (k + 1)) = grind (arith, nat_tests) in
    ap (λ b. cond b None (slice_get (x ∷ xs) (n - k))) h ∙ (ap (slice_get (x ∷ xs)) q ∙ sym (ap (λ b. cond b None (slice_get xs (n - (k + 1)))) p))

at_first : (k n : ℕ) → nat_eq n k ≡ true → k < 149 → between k n k ≡ true
at_first k n e h = grind (arith, nat_tests)

at_other : (k n : ℕ) → nat_eq n k ≡ false → between k n k ≡ false
at_other k n e = grind (arith, nat_tests)

chosen_so : (e : Bool) (x : r.Rule) (xs : List r.Rule) (n k code ahead : ℕ) → nat_eq code k ≡ e → k < 149 → (f : Fit (words_from n k (x ∷ xs)))
    → (Fit (words_from (n + 1) (k + 1) xs) → ChosenAs (at_number xs (k + 1) code) (words_from (n + 1) (k + 1) xs) code ahead)
    → ChosenAs (cond e (Some x) (at_number xs (k + 1) code)) (words_from n k (x ∷ xs)) code ahead
chosen_so true x xs n k code ahead e h f c = first_case n (next (one_class k)) x (words_from (n + 1) (k + 1) xs) code ahead f (word_told k code ahead true (at_first k code e h))
chosen_so false x xs n k code ahead e h f c = later_case n (next (one_class k)) x (words_from (n + 1) (k + 1) xs) code ahead f (at_number xs (k + 1) code) (word_told k code ahead false (at_other k code e)) c

none_so : {A : Type 0} (b : Bool) → ◌≡◌ {A = Option A} None (cond b None None)
none_so true = refl
none_so false = refl

-- a choice among words comes to the rule that stands for the number of the next token
pub chosen_words : (xs : List r.Rule) (n k code ahead : ℕ) → k + length xs ≤ 149 → Fit (words_from n k xs) → ChosenAs (at_number xs k code) (words_from n k xs) code ahead
chosen_words [] n k code ahead h f = subst (λ o. ChosenAs o r.no_case code ahead) (none_so (nat_lt code k)) (λ s a e i. run_no_case s a)
chosen_words (x ∷ xs) n k code ahead h f =
    subst (λ o. ChosenAs o (words_from n k (x ∷ xs)) code ahead) (sym (at_so x xs k code (nat_lt code k) (nat_eq code k) refl refl))
    (chosen_so (nat_eq code k) x xs n k code ahead refl (omega (arith, h)) f (λ g. chosen_words xs (n + 1) (k + 1) code ahead (omega (arith, h)) g))

-- each keyword of a table is the class of the number that follows
abbrev pub Follow : List (List ℕ × ℕ) → ℕ → Type 0
Follow [] k = ⊤
Follow (w ∷ ws) k = (keyword w.0 ≡ class k) × Follow ws (k + 1)

told_so : (ws : List (List ℕ × ℕ)) (k : ℕ) (c : Class) → k + length ws ≤ 149 → Follow ws k → number_in ws c ≡ at_number (map (λ (w : List ℕ × ℕ). w.1) ws) k (number c)
told_so [] k c h f = none_so (nat_lt (number c) k)
told_so (w ∷ ws) k c h f =
    let p : same c (keyword w.0) ≡ nat_eq (number c) k = ap (same c) f.0 ∙ told_by_number_too k c (omega (arith, h)) in
    ap (λ b. cond b (Some w.1) (number_in ws c)) p
    ∙ (ap (cond (nat_eq (number c) k) (Some w.1)) (told_so ws (k + 1) c (omega (arith, h)) f.1)
    ∙ sym (at_so w.1 (map (λ (v : List ℕ × ℕ). v.1) ws) k (number c) (nat_lt (number c) k) (nat_eq (number c) k) refl refl))

mapped : {A B : Type 0} (f : A → B) (xs : List A) (k n : ℕ) → option_map f (at_number xs k n) ≡ at_number (map f xs) k n
mapped f xs k n = mapped_so (nat_lt n k)
  where
    mapped_so : (b : Bool) → option_map f (cond b None (slice_get xs (n - k))) ≡ cond b None (slice_get (map f xs) (n - k))
    mapped_so true = refl
    mapped_so false = sym (slice_get-map f xs (n - k))

-- the numbers of a table, in the order of its words
abbrev pub numbers_in : List (List ℕ × ℕ) → (ℕ → ℕ) → List ℕ
numbers_in ws f = map f (map (λ (w : List ℕ × ℕ). w.1) ws)

-- a table of words comes to the number that stands for the number of the class
pub told_words : (ws : List (List ℕ × ℕ)) (f : ℕ → ℕ) (k : ℕ) (c : Class) → k + length ws ≤ 149 → Follow ws k
    → at_number (numbers_in ws f) k (number c) ≡ option_map f (number_in ws c)
told_words ws f k c h g = sym (ap (option_map f) (told_so ws k c h g) ∙ mapped f (map (λ (w : List ℕ × ℕ). w.1) ws) k (number c))

-- the same of what a list has at the number
pub chosen_by : (o : Option r.Rule) (xs : List r.Rule) (k code ahead : ℕ) → o ≡ at_number xs k code → k + length xs ≤ 149 → Fit (words_from 0 k xs) → ChosenAs o (words_from 0 k xs) code ahead
chosen_by o xs k code ahead e h f = subst (λ p. ChosenAs p (words_from 0 k xs) code ahead) (sym e) (chosen_words xs 0 k code ahead h f)
