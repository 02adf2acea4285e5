-- Each part of a rule is below it, as a reader goes.
use Rattle.std.proofs.Common.{◌≡◌, ℕ, zero, suc, ◌<◌, ◌≤◌, ◌+◌, ◌*◌, Bool, true, false, cond, refl, ap, sym, subst, ◌∙◌, List, [], ◌∷◌, Result, Ok, Err, arith}
use Rattle.wast_grammar.specs.Classes.{Class, same, among, closing}
use Rattle.wast_grammar.specs.Stand.{Stand, class_at, moved}
use Rattle.wast_grammar.specs.Grammar.{Test}
use Rattle.wast_grammar.specs.Read.{left_of}
use Rattle.wast_grammar.specs.Shape.{sound, guarded, is_token}
use Rattle.wast_grammar.proofs.Moves.{and_true}
use Rattle.text_rules.specs.Rule.{Rule, Wraps, before, after, pair, placed, many, many_by, wraps, also, reads, no_case, a_row}
use Rattle.text_rules.specs.Made.{Made}
use Rattle.rule_runs.proofs.Runs.{run_no_case}
use Rattle.text_rules.specs.Forms.{of_row}
use Rattle.text_rules.specs.Measure.{Fit, rank, size}
use Rattle.rule_runs.specs.Run.{run, done}
use Rattle.rule_runs.proofs.Ranks.{falls, below_by_token, fit_before, fit_after, fit_first, fit_second, fit_many, fit_many_by, fit_wraps, fit_also, rank_second, rank_wraps, rank_also, rank_after}
use Rattle.text_table.specs.Code.{one_class, with_class, a_word, a_note, a_placed}
use Rattle.tree_build.specs.Cores.{fields_read, cores_of}
use Rattle.tree_read.specs.Comes.{Took, Reads, lone_placed}
use Rattle.tree_read.specs.declared.fault.Fault.{Fault}
use Rattle.tree_build.specs.declared.scratch.Scratch.{Scratch}
use Rattle.tree_read.proofs.Formers.{AtMostOne, at_most_one, among_one, held_now, final_itself}

-- what was answered, as one equation
pub ran_so : {X : Type 0} (r : Rule) (v : X) (s t : Stand) (p q : Scratch) → Reads r (Ok v) s t p q → run r s (held_now p q.cores) ≡ done (held_now q q.cores) t
ran_so r v s t p q h = h.1 (fields_read q.cores) (cores_of q.cores) (final_itself q.cores)

pub second_below : {X : Type 0} (x y : Rule) (v : X) (s t : Stand) (p q : Scratch) → Fit (pair x y) → Reads x (Ok v) s t p q → rank y t < rank (pair x y) s
second_below x y v s t p q f h = rank_second x y s t _ _ f (ran_so x v s t p q h)

token_falls : (c : Class) (s t : Stand) → is_token c ≡ true → same (class_at s) c ≡ true → t ≡ moved s 1 → left_of t < left_of s
token_falls c s t k h e = subst (λ u. left_of u < left_of s) (sym e) (falls c s k h)

word_by : {X : Type 0} (cs : List Class) (y : Rule) (x : X) (s t : Stand) → AtMostOne cs → Fit (with_class (λ c. before c y) cs) → Took cs (Ok x) s t → Fit y × (rank y t < rank (with_class (λ c. before c y) cs) s)
word_by [] y x s t one f h = absurd (let z = h.0 in cc)
word_by (c ∷ d ∷ cs) y x s t one f h = absurd one
word_by (c ∷ []) y x s t one f h =
    let g = fit_before c y f in
    (g, below_by_token (before c y) y s t g (token_falls c s t (and_true (is_token c) (sound (reads y)) f.sound).0 (sym (among_one c (class_at s)) ∙ h.0) h.1))

-- behind a word
pub word_below : {X : Type 0} (n : ℕ) (y : Rule) (x : X) (s t : Stand) → Fit (a_word n y) → Took (one_class n) (Ok x) s t → Fit y × (rank y t < rank (a_word n y) s)
word_below n y x s t f h = word_by (one_class n) y x s t (at_most_one n) f h

pub word_positive : (n : ℕ) (y : Rule) → Fit (a_word n y) → 0 < n
word_positive zero y f = absurd (let z = f.sound in cc)
word_positive (suc n) y f = omega arith

note_by : {X : Type 0} (cs : List Class) (y : Rule) (x : X) (s t : Stand) → AtMostOne cs → Fit (with_class (λ c. before c (after y closing)) cs) → Took cs (Ok x) s t → Fit y × (rank y t < rank (with_class (λ c. before c (after y closing)) cs) s)
note_by [] y x s t one f h = absurd (let z = h.0 in cc)
note_by (c ∷ d ∷ cs) y x s t one f h = absurd one
note_by (c ∷ []) y x s t one f h =
    let g = fit_after y closing (fit_before c (after y closing) f) in
    (g, below_by_token (before c (after y closing)) y s t g (token_falls c s t (and_true (is_token c) (sound (reads (after y closing))) f.sound).0 (sym (among_one c (class_at s)) ∙ h.0) h.1))

-- in a group
pub note_below : {X : Type 0} (n : ℕ) (y : Rule) (x : X) (s t : Stand) → Fit (a_note n y) → Took (one_class n) (Ok x) s t → Fit y × (rank y t < rank (a_note n y) s)
note_below n y x s t f h = note_by (one_class n) y x s t (at_most_one n) f h

pub note_positive : (n : ℕ) (y : Rule) → Fit (a_note n y) → 0 < n
note_positive zero y f = absurd (let z = f.sound in cc)
note_positive (suc n) y f = omega arith

no_run : (s : Stand) (a d : Made) (t : Stand) → run no_case s a ≡ done d t → ⊥
no_run s a d t e = absurd (let z = sym (run_no_case s a) ∙ e in cc)

placed_by : {X : Type 0} (b : Bool) (cs : List Class) (y : Rule) (v : X) (s t : Stand) (p q : Scratch) → AtMostOne cs → Fit (with_class (λ c. pair (placed b c) y) cs) → Reads (with_class (λ c. placed b c) cs) (Ok v) s t p q → Fit y × (rank y t < rank (with_class (λ c. pair (placed b c) y) cs) s)
placed_by b [] y v s t p q one f h = absurd (no_run s (held_now p q.cores) (held_now q q.cores) t (ran_so no_case v s t p q h))
placed_by b (c ∷ d ∷ cs) y v s t p q one f h = absurd one
placed_by b (c ∷ []) y v s t p q one f h = (fit_second (placed b c) y f, second_below (placed b c) y v s t p q f h)

pub placed_below : {X : Type 0} (b : Bool) (n : ℕ) (y : Rule) (v : X) (s t : Stand) (p q : Scratch) → Fit (a_placed b n y) → Reads (lone_placed b n) (Ok v) s t p q → Fit y × (rank y t < rank (a_placed b n y) s)
placed_below b n y v s t p q f h = placed_by b (one_class n) y v s t p q (at_most_one n) f h

pub placed_positive : (b : Bool) (n : ℕ) (y : Rule) → Fit (a_placed b n y) → 0 < n
placed_positive b zero y f = absurd (let z = f.sound in cc)
placed_positive b (suc n) y f = omega arith

-- an item of a list, at no more tokens
pub item_below : (q : Test) (x : Rule) (s t : Stand) → left_of t ≤ left_of s → rank x t < rank (many q x) s
item_below q x s t h = omega (arith, h)

pub item_below_by : (q : Test) (x : Rule) (s t : Stand) → left_of t ≤ left_of s → rank x t < rank (many_by q x) s
item_below_by q x s t h = omega (arith, h)
