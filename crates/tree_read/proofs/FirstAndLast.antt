-- What comes first or last by a rule, and the rule of one of two.
use Rattle.std.specs.Prelude.{⊤}
use Rattle.std.proofs.Common.{◌≡◌, ℕ, ◌<◌, ◌+◌, ◌*◌, Bool, true, false, cond, refl, ap, sym, subst, ◌∙◌, arith, Result, Ok, Err}
use Rattle.std.specs.declared.alloc.AllocError.{AllocError}
use Rattle.wast_grammar.specs.Grammar as g
use Rattle.wast_grammar.specs.Grammar.{holds}
use Rattle.wast_grammar.specs.Read.{read}
use Rattle.wast_grammar.specs.Stand.{Stand, offset_of}
use Rattle.text_rules.specs.Forms.{named, optional_id, optional_name}
use Rattle.text_rules.specs.Made.{Made}
use Rattle.text_rules.specs.Makes.{a_place_made}
use Rattle.text_rules.specs.Measure.{Fit, rank}
use Rattle.text_rules.specs.Rule.{Rule, pair, checked, nothing, either, by_test, case}
use Rattle.rule_runs.specs.Run.{run}
use Rattle.rule_runs.proofs.Runs.{run_either, run_by_test, run_case}
use Rattle.rule_runs.proofs.Ranks.{fit_second, fit_marks, fit_checked, fit_after, fit_also, fit_skipping, rank_marks, rank_checked, rank_after, rank_also, rank_skipping, fit_one, fit_other, fit_one_by, fit_other_by, fit_case, fit_later, rank_one, rank_other, rank_one_by, rank_other_by, rank_case, rank_later}
use Rattle.wast_grammar.specs.Classes.{closing}
use Rattle.text_table.specs.Code.{add_of, rule_of, uses}
use Rattle.text_table.specs.declared.rule.Rule.{Rule as InCode}
use Rattle.tree_read.specs.Comes.{Gives, Reads, Stored, lone_placed}
use Rattle.tree_read.specs.Parts.{HasNumber, ReadsFirst, behind_first, before_last}
use Rattle.tree_read.specs.declared.fault.Fault.{Fault}
use Rattle.tree_read.specs.declared.parts.First.{First}
use Rattle.tree_read.specs.declared.parts.First.TheVariants as first
use Rattle.tree_read.specs.declared.parts.Last.{Last}
use Rattle.tree_read.specs.declared.parts.Last.TheVariants as last
use Rattle.tree_build.specs.declared.scratch.Scratch.{Scratch}
use Rattle.tree_read.proofs.Formers.{Fails, goes, then_reads, then_stops, placed_then, placed_refused, marks_reads, marks_stops, checked_reads, checked_stops, also_stops, closes_stops, skipping_stops}
use Rattle.tree_read.proofs.Ranking.{second_below, placed_below, placed_positive}

-- ---- what comes first

pub has_number : (x : First) (y : Rule) → Fit (behind_first x y) → HasNumber x
has_number (first.Keep k) y f = tt
has_number (first.Reference u w) y f = tt
has_number (first.Told t) y f = tt
has_number (first.Outside o) y f = tt
has_number (first.Placed b n) y f = placed_positive b n y f
has_number first.Named y f = tt
has_number first.Offset y f = tt
has_number first.Depth y f = tt

-- what comes first is one part
pub part_first : (x : First) (o : Rule) (r : Result ⊤ Fault) (s t : Stand) (p q : Scratch) → ((y : Rule) → behind_first x y ≡ pair o y) → Reads o r s t p q → ReadsFirst x r s t p q
part_first x o (Ok v) s t p q e h = record {
  below = λ y f. let g = subst Fit (e y) f in (fit_second o y g, subst (λ z. rank y t < rank z s) (sym (e y)) (second_below o y v s t p q g h));
  reads = λ y res u w k. subst (λ z. Reads z res s u p w) (sym (e y)) (then_reads o y v res s t u p q w h k);
}
part_first x o (Err z) s t p q e h = λ y. subst (λ r. Fails r z s t) (sym (e y)) (then_stops o y z s t h)

pub placed_first : (b : Bool) (n : _) (r : Result ⊤ Fault) (s t : Stand) (p q : Scratch) → Reads (lone_placed b n) r s t p q → ReadsFirst (first.Placed b n) r s t p q
placed_first b n (Ok v) s t p q h = record { below = λ y f. placed_below b n y v s t p q f h; reads = λ y res u w k. placed_then b n y v res s t u p q w h k }
placed_first b n (Err e) s t p q h = λ y. placed_refused b n y e s t h

pub offset_first : (r : Result ⊤ Fault) (s : Stand) (p q : Scratch) → Stored r p q (λ fs cs. a_place_made true (offset_of s)) → ReadsFirst first.Offset r s s p q
offset_first (Ok v) s p q h = record { below = λ y f. (fit_marks y f, rank_marks y s); reads = λ y res u w k. marks_reads y v res s u p q w h k }
offset_first (Err e) s p q h = λ y. marks_stops y e s h

pub depth_first : (r : Result ⊤ Fault) (s : Stand) (p : Scratch) → Gives (λ _. g.none) r s (read (g.checked g.nothing) s) → ReadsFirst first.Depth r s s p p
depth_first (Ok v) s p h = record { below = λ y f. (fit_checked y f, rank_checked y s); reads = λ y res u w k. checked_reads y v res s u p w h k }
depth_first (Err e) s p h = λ y. checked_stops ⊤ y e s h

pub names_first : {X : Type 0} (v : X) (r : Result ⊤ Fault) (s t u : Stand) (p q w : Scratch) → Reads optional_id (Ok v) s t p q → Reads optional_name r t u q w → ReadsFirst first.Named r s u p w
names_first v (Ok z) s t u p q w h k = record {
  below = λ y f.
      let b = second_below optional_id (pair optional_name y) v s t p q f h in
      let f' = fit_second optional_id (pair optional_name y) f in
      let c = second_below optional_name y z t u q w f' k in
      (fit_second optional_name y f', omega (arith, b, c));
  reads = λ y res x a j. then_reads optional_id (pair optional_name y) v res s t x p q a h (then_reads optional_name y z res t u x q w a k j);
}
names_first v (Err e) s t u p q w h k = λ y. then_reads {Y = ⊤} optional_id (pair optional_name y) v (Err e) s t u p q w h (then_stops optional_name y e t u k)

pub no_names_first : (e : Fault) (s t : Stand) → Fails optional_id e s t → (y : Rule) → Fails (named y) e s t
no_names_first e s t h y = then_stops optional_id (pair optional_name y) e s t h

-- ---- what comes last

pub last_fit : (x : Last) (y : Rule) → Fit (before_last x y) → Fit y
last_fit (last.Add a) y f = fit_also y (add_of a) f
last_fit last.Closing y f = fit_after y closing f
last_fit last.Skipping y f = fit_skipping y f

pub last_below : (x : Last) (y : Rule) (s : Stand) → rank y s < rank (before_last x y) s
last_below (last.Add a) y s = rank_also y (add_of a) s
last_below last.Closing y s = rank_after y closing s
last_below last.Skipping y s = rank_skipping y s

pub last_stops : (x : Last) (y : Rule) (e : Fault) (s t : Stand) → Fails y e s t → Fails (before_last x y) e s t
last_stops (last.Add a) y e s t h = also_stops y (add_of a) e s t h
last_stops last.Closing y e s t h = closes_stops y e s t h
last_stops last.Skipping y e s t h = skipping_stops y e s t h

-- ---- one of two rules

one_run : (b : Bool) (x y : Rule) (s : Stand) (a : Made) → cond b (run x s a) (run y s a) ≡ run (cond b x y) s a
one_run true x y s a = refl
one_run false x y s a = refl

one_fit : (b : Bool) (x y : Rule) → Fit x → Fit y → Fit (cond b x y)
one_fit true x y f k = f
one_fit false x y f k = k

one_below : (b : Bool) (x y r : Rule) (s : Stand) → rank x s < rank r s → rank y s < rank r s → rank (cond b x y) s < rank r s
one_below true x y r s h k = h
one_below false x y r s h k = k

-- the rule z is one of two, as a test has it
pub record OneOf (r z : Rule) (s : Stand) : Type 0 where
  pub fit : Fit z
  pub below : rank z s < rank r s
  pub runs : (a : Made) → run r s a ≡ run z s a

pub either_is : (q : g.Test) (x y z : Rule) (s : Stand) → Fit (either q x y) → z ≡ cond (holds q s) x y → OneOf (either q x y) z s
either_is q x y z s f e = subst (λ w. OneOf (either q x y) w s) (sym e) (record {
  fit = one_fit (holds q s) x y (fit_one q x y f) (fit_other q x y f);
  below = one_below (holds q s) x y (either q x y) s (rank_one q x y s) (rank_other q x y s);
  runs = λ a. run_either q x y s a ∙ one_run (holds q s) x y s a;
})

pub by_test_is : (q : g.Test) (x y z : Rule) (s : Stand) → Fit (by_test q x y) → z ≡ cond (holds q s) x y → OneOf (by_test q x y) z s
by_test_is q x y z s f e = subst (λ w. OneOf (by_test q x y) w s) (sym e) (record {
  fit = one_fit (holds q s) x y (fit_one_by q x y f) (fit_other_by q x y f);
  below = one_below (holds q s) x y (by_test q x y) s (rank_one_by q x y s) (rank_other_by q x y s);
  runs = λ a. run_by_test q x y s a ∙ one_run (holds q s) x y s a;
})

pub case_is : (n : _) (q : g.Test) (x y z : Rule) (s : Stand) → Fit (case n q x y) → z ≡ cond (holds q s) x y → OneOf (case n q x y) z s
case_is n q x y z s f e = subst (λ w. OneOf (case n q x y) w s) (sym e) (record {
  fit = one_fit (holds q s) x y (fit_case n q x y f) (fit_later n q x y f);
  below = one_below (holds q s) x y (case n q x y) s (rank_case n q x y s) (rank_later n q x y s);
  runs = λ a. run_case n q x y s a f.sound ∙ one_run (holds q s) x y s a;
})

-- the same of a rule that is one of these
pub one_is : (r r' z : Rule) (s : Stand) → r ≡ r' → OneOf r' z s → OneOf r z s
one_is r r' z s e h = subst (λ w. OneOf w z s) (sym e) h

pub one_reads : (r z : Rule) (res : Result ⊤ Fault) (s u : Stand) (p w : Scratch) → OneOf r z s → Reads z res s u p w → Reads r res s u p w
one_reads r z res s u p w h k = goes r z res s s u p w h.runs k

-- ---- a call for the part of a rule

pub called : (x : InCode) (r : Rule) (s : Stand) (t : ℕ) → rule_of x ≡ r → 4 * rank (rule_of x) s + (2 * uses x + 1) ≡ t → Fit (rule_of x) → (4 * rank r s < t) × Fit r
called x r s t e d f = subst (λ w. (4 * rank w s < t) × Fit w) e (omega (arith, d), f)
