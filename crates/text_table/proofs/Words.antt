-- Rules that begin with the token of a number: what reading by them comes to, and that what follows is below them.
use Rattle.std.proofs.Common.{◌≡◌, ◌<◌, ℕ, List, [], ◌∷◌, take, drop, Bool, true, false, cond, ◌&&◌, refl, ap, sym, subst, ◌∙◌}
use Rattle.wast_grammar.specs.Classes.{Class, among, same, closing}
use Rattle.wast_grammar.specs.Stand.{Stand, class_at, moved, offset_of}
use Rattle.wast_grammar.specs.Shape.{sound, is_token}
use Rattle.wast_grammar.proofs.Moves.{and_true}
use Rattle.token_codes.specs.Numbers.{number, classes, between}
use Rattle.token_codes.proofs.Tables.{among_range}
use Rattle.text_rules.specs.Rule as r
use Rattle.text_rules.specs.Made.{Made, join}
use Rattle.text_rules.specs.Makes.{a_place_made}
use Rattle.text_rules.specs.Measure.{Fit, rank}
use Rattle.rule_runs.specs.Run.{Ran, done, fault, run, andthen, taken}
use Rattle.rule_runs.proofs.Runs.{run_before, run_after, run_placed, run_pair, run_no_case}
use Rattle.rule_runs.proofs.Ranks.{fit_before, fit_after, fit_second, below_by_token, falls}
use Rattle.text_table.specs.Code.{one_class, with_class, a_word, a_placed, a_note}
use Rattle.text_table.proofs.Testing.{cond_id, one_is}

-- ---- what reading comes to

run_first : (f : Class → r.Rule) (p : Ran) (cs : List Class) (s : Stand) (a : Made) → ((c : Class) → run (f c) s a ≡ cond (same (class_at s) c) p (fault s))
    → run (with_class f (take 1 cs)) s a ≡ cond (among (take 1 cs) (class_at s)) p (fault s)
run_first f p [] s a h = run_no_case s a
run_first f p (c ∷ cs) s a h = h c ∙ ap (λ b. cond b p (fault s)) (cond_id (same (class_at s) c))

run_number : (f : Class → r.Rule) (p : Ran) (n : ℕ) (s : Stand) (a : Made) → ((c : Class) → run (f c) s a ≡ cond (same (class_at s) c) p (fault s))
    → run (with_class f (one_class n)) s a ≡ cond (between n (number (class_at s)) n) p (fault s)
run_number f p n s a h =
    ap (λ cs. run (with_class f cs) s a) (one_is n)
    ∙ (run_first f p (drop n classes) s a h
    ∙ (ap (λ cs. cond (among cs (class_at s)) p (fault s)) (sym (one_is n))
    ∙ ap (λ b. cond b p (fault s)) (among_range n n (class_at s))))

pub run_word : (n : ℕ) (x : r.Rule) (s : Stand) (a : Made) → run (a_word n x) s a ≡ cond (between n (number (class_at s)) n) (run x (moved s 1) a) (fault s)
run_word n x s a = run_number (λ c. r.before c x) (run x (moved s 1) a) n s a (λ c. run_before c x s a)

then_so : (h : Bool) (m : Made) (s t : Stand) (k : Made → Stand → Ran) → andthen (cond h (done m t) (fault s)) k ≡ cond h (k m t) (fault s)
then_so true m s t k = refl
then_so false m s t k = refl

pub run_placed_word : (b : Bool) (n : ℕ) (x : r.Rule) (s : Stand) (a : Made)
    → run (a_placed b n x) s a ≡ cond (between n (number (class_at s)) n) (run x (moved s 1) (join a (a_place_made b (offset_of s)))) (fault s)
run_placed_word b n x s a = run_number (λ c. r.pair (r.placed b c) x) (run x (moved s 1) (join a (a_place_made b (offset_of s)))) n s a
    (λ c. run_pair (r.placed b c) x s a
    ∙ (ap (λ o. andthen o (λ m t. run x t m)) (run_placed b c s a)
    ∙ then_so (same (class_at s) c) (join a (a_place_made b (offset_of s))) s (moved s 1) (λ m t. run x t m)))

pub run_note : (n : ℕ) (x : r.Rule) (s : Stand) (a : Made)
    → run (a_note n x) s a ≡ cond (between n (number (class_at s)) n) (andthen (run x (moved s 1) a) (λ b t. taken closing b t)) (fault s)
run_note n x s a = run_number (λ c. r.before c (r.after x closing)) (andthen (run x (moved s 1) a) (λ b t. taken closing b t)) n s a
    (λ c. run_before c (r.after x closing) s a ∙ ap (λ o. cond (same (class_at s) c) o (fault s)) (run_after x closing (moved s 1) a))

-- ---- what follows is taken, and below

fit_first_of : (f : Class → r.Rule) (x : r.Rule) (cs : List Class) (d : Class) → among (take 1 cs) d ≡ true → Fit (with_class f (take 1 cs)) → ((c : Class) → Fit (f c) → Fit x) → Fit x
fit_first_of f x [] d e h k = absurd (cc)
fit_first_of f x (c ∷ cs) d e h k = k c h

among_first : (n : ℕ) (d : Class) → between n (number d) n ≡ true → among (take 1 (drop n classes)) d ≡ true
among_first n d e = ap (λ cs. among cs d) (sym (one_is n)) ∙ (among_range n n d ∙ e)

fit_number : (f : Class → r.Rule) (x : r.Rule) (n : ℕ) (d : Class) → between n (number d) n ≡ true → Fit (with_class f (one_class n)) → ((c : Class) → Fit (f c) → Fit x) → Fit x
fit_number f x n d e h k = fit_first_of f x (drop n classes) d (among_first n d e) (subst (λ cs. Fit (with_class f cs)) (one_is n) h) k

pub fit_word : (n : ℕ) (x : r.Rule) (d : Class) → between n (number d) n ≡ true → Fit (a_word n x) → Fit x
fit_word n x d e h = fit_number (λ c. r.before c x) x n d e h (λ c g. fit_before c x g)

pub fit_placed_word : (b : Bool) (n : ℕ) (x : r.Rule) (d : Class) → between n (number d) n ≡ true → Fit (a_placed b n x) → Fit x
fit_placed_word b n x d e h = fit_number (λ c. r.pair (r.placed b c) x) x n d e h (λ c g. fit_second (r.placed b c) x g)

pub fit_note : (n : ℕ) (x : r.Rule) (d : Class) → between n (number d) n ≡ true → Fit (a_note n x) → Fit x
fit_note n x d e h = fit_number (λ c. r.before c (r.after x closing)) x n d e h (λ c g. fit_after x closing (fit_before c (r.after x closing) g))

rank_first_of : (f : Class → r.Rule) (x : r.Rule) (cs : List Class) (s : Stand) → among (take 1 cs) (class_at s) ≡ true → Fit (with_class f (take 1 cs))
    → ((c : Class) → Fit (f c) → (Fit x) × (is_token c ≡ true)) → rank x (moved s 1) < rank (with_class f (take 1 cs)) s
rank_first_of f x [] s e h k = absurd (cc)
rank_first_of f x (c ∷ cs) s e h k = below_by_token (f c) x s (moved s 1) (k c h).0 (falls c s (k c h).1 (cond_id (same (class_at s) c) ∙ e))

rank_number : (f : Class → r.Rule) (x : r.Rule) (n : ℕ) (s : Stand) → between n (number (class_at s)) n ≡ true → Fit (with_class f (one_class n))
    → ((c : Class) → Fit (f c) → (Fit x) × (is_token c ≡ true)) → rank x (moved s 1) < rank (with_class f (one_class n)) s
rank_number f x n s e h k =
    subst (λ cs. rank x (moved s 1) < rank (with_class f cs) s) (sym (one_is n))
    (rank_first_of f x (drop n classes) s (among_first n (class_at s) e) (subst (λ cs. Fit (with_class f cs)) (one_is n) h) k)

pub rank_word : (n : ℕ) (x : r.Rule) (s : Stand) → between n (number (class_at s)) n ≡ true → Fit (a_word n x) → rank x (moved s 1) < rank (a_word n x) s
rank_word n x s e h = rank_number (λ c. r.before c x) x n s e h (λ c g. (fit_before c x g, (and_true (is_token c) (sound (r.reads x)) g.sound).0))

pub rank_placed_word : (b : Bool) (n : ℕ) (x : r.Rule) (s : Stand) → between n (number (class_at s)) n ≡ true → Fit (a_placed b n x) → rank x (moved s 1) < rank (a_placed b n x) s
rank_placed_word b n x s e h = rank_number (λ c. r.pair (r.placed b c) x) x n s e h
    (λ c g. (fit_second (r.placed b c) x g, (and_true (is_token c) true (and_true (is_token c && true) (sound (r.reads x)) g.sound).0).0))

pub rank_note : (n : ℕ) (x : r.Rule) (s : Stand) → between n (number (class_at s)) n ≡ true → Fit (a_note n x) → rank x (moved s 1) < rank (a_note n x) s
rank_note n x s e h = rank_number (λ c. r.before c (r.after x closing)) x n s e h
    (λ c g. (fit_after x closing (fit_before c (r.after x closing) g), (and_true (is_token c) (sound (r.reads (r.after x closing))) g.sound).0))
