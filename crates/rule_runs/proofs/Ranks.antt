-- What a reader takes has parts that it takes, and each is below it.
use Rattle.std.proofs.Common.{◌≡◌, ℕ, ◌≤◌, ◌<◌, Bool, true, false, cond, ◌&&◌, ◌||◌, refl, subst, arith}
use Rattle.wast_grammar.specs.Stand.{Stand, class_at, moved}
use Rattle.wast_grammar.specs.Grammar as g
use Rattle.wast_grammar.specs.Grammar.{Row, Value}
use Rattle.wast_grammar.specs.Read as o
use Rattle.wast_grammar.specs.Read.{Outcome, read, left_of}
use Rattle.wast_grammar.specs.Shape.{sound, guarded, consumes, is_token, short}
use Rattle.wast_grammar.proofs.Fuel.{read_moves}
use Rattle.wast_grammar.proofs.Moves.{and_true, Ahead, one, sound_case}
use Rattle.wast_grammar.specs.Classes.{Class, same}
use Rattle.text_rules.specs.Made.{Made}
use Rattle.text_rules.specs.Rule.{Rule, before, after, pair, either, by_test, many, many_by, case, row, checked, also, wraps, marks, skipping, Adds, Wraps, reads}
use Rattle.text_rules.specs.Measure.{size, rank, Fit}
use Rattle.text_rules.specs.Table.{table, in_table}
use Rattle.text_rules.proofs.TableReads.{rows_fit, begin_with_tokens}
use Rattle.rule_runs.specs.Run.{done, ran, run}

-- ---- parts of a rule that is taken are taken

pub fit_before : (c : Class) (x : Rule) → Fit (before c x) → Fit x
fit_before c x h = record { sound = (and_true (is_token c) (sound (reads x)) h.sound).1; small = omega (arith, h.small) }

pub fit_after : (x : Rule) (c : Class) → Fit (after x c) → Fit x
fit_after x c h = record { sound = (and_true (is_token c) (sound (reads x)) h.sound).1; small = omega (arith, h.small) }

pub fit_marks : (x : Rule) → Fit (marks x) → Fit x
fit_marks x h = record { sound = h.sound; small = omega (arith, h.small) }

pub fit_skipping : (x : Rule) → Fit (skipping x) → Fit x
fit_skipping x h = record { sound = (and_true (consumes (reads x)) (sound (reads x)) h.sound).1; small = omega (arith, h.small) }

pub fit_first : (x y : Rule) → Fit (pair x y) → Fit x
fit_first x y h = record { sound = (and_true (sound (reads x)) (sound (reads y)) h.sound).0; small = omega (arith, h.small) }

pub fit_second : (x y : Rule) → Fit (pair x y) → Fit y
fit_second x y h = record { sound = (and_true (sound (reads x)) (sound (reads y)) h.sound).1; small = omega (arith, h.small) }

both_sound : (t : g.Test) (x y : Rule) → (short t && (sound (reads x) && sound (reads y))) ≡ true → (sound (reads x) ≡ true) × (sound (reads y) ≡ true)
both_sound t x y h = and_true (sound (reads x)) (sound (reads y)) (and_true (short t) (sound (reads x) && sound (reads y)) h).1

list_sound : (t : g.Test) (x : Rule) → (consumes (reads x) && (short t && sound (reads x))) ≡ true → (short t ≡ true) × (sound (reads x) ≡ true)
list_sound t x h = and_true (short t) (sound (reads x)) (and_true (consumes (reads x)) (short t && sound (reads x)) h).1

pub fit_one : (t : g.Test) (x y : Rule) → Fit (either t x y) → Fit x
fit_one t x y h = record { sound = (both_sound t x y h.sound).0; small = omega (arith, h.small) }

pub fit_other : (t : g.Test) (x y : Rule) → Fit (either t x y) → Fit y
fit_other t x y h = record { sound = (both_sound t x y h.sound).1; small = omega (arith, h.small) }

pub fit_one_by : (t : g.Test) (x y : Rule) → Fit (by_test t x y) → Fit x
fit_one_by t x y h = record { sound = (both_sound t x y h.sound).0; small = omega (arith, h.small) }

pub fit_other_by : (t : g.Test) (x y : Rule) → Fit (by_test t x y) → Fit y
fit_other_by t x y h = record { sound = (both_sound t x y h.sound).1; small = omega (arith, h.small) }

pub fit_many : (t : g.Test) (x : Rule) → Fit (many t x) → Fit x
fit_many t x h = record { sound = (list_sound t x h.sound).1; small = omega (arith, h.small) }

pub fit_many_by : (t : g.Test) (x : Rule) → Fit (many_by t x) → Fit x
fit_many_by t x h = record { sound = (list_sound t x h.sound).1; small = omega (arith, h.small) }

pub fit_case : (n : ℕ) (t : g.Test) (x y : Rule) → Fit (case n t x y) → Fit x
fit_case n t x y h = record { sound = (sound_case n t (reads x) (reads y) h.sound).first_sound; small = omega (arith, h.small) }

pub fit_later : (n : ℕ) (t : g.Test) (x y : Rule) → Fit (case n t x y) → Fit y
fit_later n t x y h = record { sound = (sound_case n t (reads x) (reads y) h.sound).rest_sound; small = omega (arith, h.small) }

pub fit_checked : (x : Rule) → Fit (checked x) → Fit x
fit_checked x h = record { sound = h.sound; small = omega (arith, h.small) }

pub fit_also : (x : Rule) (a : Adds) → Fit (also x a) → Fit x
fit_also x a h = record { sound = h.sound; small = omega (arith, h.small) }

pub fit_wraps : (w : Wraps) (x : Rule) → Fit (wraps w x) → Fit x
fit_wraps w x h = record { sound = h.sound; small = omega (arith, h.small) }

-- ---- they are below

flag_bound : (b : Bool) → cond b 0 2001 ≤ 2001
flag_bound true = omega arith
flag_bound false = omega arith

zero_flag : (n : ℕ) → 0 ≤ n
zero_flag n = omega arith

-- at fewer tokens whatever is taken is below
pub below_by_token : (r x : Rule) (s t : Stand) → Fit x → left_of t < left_of s → rank x t < rank r s
below_by_token r x s t f h =
    let b = flag_bound (guarded (reads x)) in
    omega (arith, f.small, h, b)

-- a smaller rule that comes to a row only where the larger one may
below_by_size : (r x : Rule) (s t : Stand) → size x < size r → cond (guarded (reads x)) 0 2001 ≤ cond (guarded (reads r)) 0 2001 → left_of t ≤ left_of s → rank x t < rank r s
below_by_size r x s t h k l = omega (arith, h, k, l)

flag_and : (a b : Bool) → cond a 0 2001 ≤ cond (a && b) 0 2001
flag_and true b = zero_flag (cond b 0 2001)
flag_and false b = omega arith

flag_second : (a b c : Bool) → c ≡ false → cond b 0 2001 ≤ cond (a && (c || b)) 0 2001
flag_second true b c e = rw e (omega arith)
flag_second false b c e = flag_bound b

flag_both : (a b : Bool) → cond b 0 2001 ≤ cond (a && b) 0 2001
flag_both true b = omega arith
flag_both false b = flag_bound b

moved_so : (p : Outcome) (x : Rule) (s t : Stand) (a b : Made) → Fit x → read (reads x) s ≡ p → ran a x p ≡ done b t → Ahead (consumes (reads x)) s t
moved_so (o.reads v r) x s t a b f e h = let q : r ≡ t = cc in subst (λ u. Ahead (consumes (reads x)) s u) q (read_moves (reads x) s v r f.sound e)
moved_so (o.fault r) x s t a b f e h = absurd (cc)
moved_so (o.deep r) x s t a b f e h = absurd (cc)

-- a reader never goes back, and goes on where the rule has a token
pub moves : (x : Rule) (s t : Stand) (a b : Made) → Fit x → run x s a ≡ done b t → Ahead (consumes (reads x)) s t
unfolding run
moves x s t a b f h = moved_so (read (reads x) s) x s t a b f refl h

-- behind a token
pub falls : (c : Class) (s : Stand) → is_token c ≡ true → same (class_at s) c ≡ true → left_of (moved s 1) < left_of s
falls c s k h = (one s c k h).falls refl

pub rank_first : (x y : Rule) (s : Stand) → rank x s < rank (pair x y) s
rank_first x y s = below_by_size (pair x y) x s s (omega arith) (flag_and (guarded (reads x)) (consumes (reads x) || guarded (reads y))) (omega arith)

second_so : (c : Bool) (x y : Rule) (s t : Stand) → consumes (reads x) ≡ c → Fit (pair x y) → Ahead c s t → rank y t < rank (pair x y) s
second_so true x y s t e f m = below_by_token (pair x y) y s t (fit_second x y f) (m.falls refl)
second_so false x y s t e f m = below_by_size (pair x y) y s t (omega arith) (flag_second (guarded (reads x)) (guarded (reads y)) (consumes (reads x)) e) m.shorter

pub rank_second : (x y : Rule) (s t : Stand) (a b : Made) → Fit (pair x y) → run x s a ≡ done b t → rank y t < rank (pair x y) s
rank_second x y s t a b f h = second_so (consumes (reads x)) x y s t refl f (moves x s t a b (fit_first x y f) h)

pub rank_one : (q : g.Test) (x y : Rule) (s : Stand) → rank x s < rank (either q x y) s
rank_one q x y s = below_by_size (either q x y) x s s (omega arith) (flag_and (guarded (reads x)) (guarded (reads y))) (omega arith)

pub rank_other : (q : g.Test) (x y : Rule) (s : Stand) → rank y s < rank (either q x y) s
rank_other q x y s = below_by_size (either q x y) y s s (omega arith) (flag_both (guarded (reads x)) (guarded (reads y))) (omega arith)

pub rank_one_by : (q : g.Test) (x y : Rule) (s : Stand) → rank x s < rank (by_test q x y) s
rank_one_by q x y s = below_by_size (by_test q x y) x s s (omega arith) (flag_and (guarded (reads x)) (guarded (reads y))) (omega arith)

pub rank_other_by : (q : g.Test) (x y : Rule) (s : Stand) → rank y s < rank (by_test q x y) s
rank_other_by q x y s = below_by_size (by_test q x y) y s s (omega arith) (flag_both (guarded (reads x)) (guarded (reads y))) (omega arith)

pub rank_case : (n : ℕ) (q : g.Test) (x y : Rule) (s : Stand) → rank x s < rank (case n q x y) s
rank_case n q x y s = below_by_size (case n q x y) x s s (omega arith) (flag_and (guarded (reads x)) (guarded (reads y))) (omega arith)

pub rank_later : (n : ℕ) (q : g.Test) (x y : Rule) (s : Stand) → rank y s < rank (case n q x y) s
rank_later n q x y s = below_by_size (case n q x y) y s s (omega arith) (flag_both (guarded (reads x)) (guarded (reads y))) (omega arith)

pub rank_after : (x : Rule) (c : Class) (s : Stand) → rank x s < rank (after x c) s
rank_after x c s = omega arith

pub rank_marks : (x : Rule) (s : Stand) → rank x s < rank (marks x) s
rank_marks x s = omega arith

pub rank_skipping : (x : Rule) (s : Stand) → rank x s < rank (skipping x) s
rank_skipping x s = omega arith

pub rank_checked : (x : Rule) (s : Stand) → rank x s < rank (checked x) s
rank_checked x s = omega arith

pub rank_also : (x : Rule) (a : Adds) (s : Stand) → rank x s < rank (also x a) s
rank_also x a s = omega arith

pub rank_wraps : (w : Wraps) (x : Rule) (s : Stand) → rank x s < rank (wraps w x) s
rank_wraps w x s = omega arith

row_flag : (n : Row) → in_table n ≡ true → ◌≡◌ {A = ℕ} (cond (guarded (reads (table n))) 0 2001) 0
row_flag n h = rw (begin_with_tokens n h) refl

pub rank_row : (n : Row) (s : Stand) → in_table n ≡ true → rank (table n) s < rank (row n) s
rank_row n s h = omega (arith, (rows_fit n h).small, row_flag n h)

-- an item of a list has a token
pub many_falls : (q : g.Test) (x : Rule) (s t : Stand) (a b : Made) → Fit (many q x) → run x s a ≡ done b t → left_of t < left_of s
many_falls q x s t a b f h = (moves x s t a b (fit_many q x f) h).falls (and_true (consumes (reads x)) (short q && sound (reads x)) f.sound).0

pub many_by_falls : (q : g.Test) (x : Rule) (s t : Stand) (a b : Made) → Fit (many_by q x) → run x s a ≡ done b t → left_of t < left_of s
many_by_falls q x s t a b f h = (moves x s t a b (fit_many_by q x f) h).falls (and_true (consumes (reads x)) (short q && sound (reads x)) f.sound).0
