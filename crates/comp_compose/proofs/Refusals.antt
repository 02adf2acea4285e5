-- A plan is refused in one way, and not where all demands are met.
use Rattle.std.proofs.Common.{◌≡◌, ℕ, ◌<◌, ◌≤◌, ◌⊎◌, inl, inr, List, [], ◌∷◌, ◌++◌, length, refl, sym, ◌∙◌, ap, subst, arith, Option, Some, None, Result, Ok, Err, IfOk, IfErr, MatchResult}
use Rattle.plan_lines.specs.Lines.{Line, lines, said, first_bad}
use Rattle.comp_compose.specs.Demands.{Demand, demands, IsMet, refusal, asked_at}
use Rattle.comp_compose.specs.Refused.{plan_limit, error, no_memory, IsUnmet, FirstUnmet, AllMet, LinesRefused, LinesMet, Refused, NotRefused, too_big, no_line, unmet}
use Rattle.comp_compose.specs.Composed.{IsComposed}
use Rattle.comp_compose.specs.declared.error.PlanKind.{PlanKind}
use Rattle.comp_compose.specs.declared.error.PlanKind.TheVariants as kind
use Rattle.comp_compose.specs.declared.error.PlanError.{PlanError}

pub all_excludes : (before : List Line) (ds : List Demand) (e : PlanError) → AllMet before ds → FirstUnmet before ds e → ⊥
all_excludes before [] e h u = u
all_excludes before (d ∷ ds) e h (inl u) = u.0 h.0
all_excludes before (d ∷ ds) e h (inr u) = all_excludes before ds e h.1 u.1

pub lines_exclude : (before ls : List Line) (e : PlanError) → LinesMet before ls → LinesRefused before ls e → ⊥
lines_exclude before [] e h u = u
lines_exclude before (l ∷ ls) e h (inl u) = all_excludes before (demands l) e h.0 u
lines_exclude before (l ∷ ls) e h (inr u) = lines_exclude (before ++ l ∷ []) ls e h.1 u.1

one_unmet : (before : List Line) (ds : List Demand) (e f : PlanError) → FirstUnmet before ds e → FirstUnmet before ds f → e ≡ f
one_unmet before [] e f u v = absurd u
one_unmet before (d ∷ ds) e f (inl u) (inl v) = u.1 ∙ sym v.1
one_unmet before (d ∷ ds) e f (inl u) (inr v) = absurd (u.0 v.0)
one_unmet before (d ∷ ds) e f (inr u) (inl v) = absurd (v.0 u.0)
one_unmet before (d ∷ ds) e f (inr u) (inr v) = one_unmet before ds e f u.1 v.1

one_of_lines : (before ls : List Line) (e f : PlanError) → LinesRefused before ls e → LinesRefused before ls f → e ≡ f
one_of_lines before [] e f u v = absurd u
one_of_lines before (l ∷ ls) e f (inl u) (inl v) = one_unmet before (demands l) e f u v
one_of_lines before (l ∷ ls) e f (inl u) (inr v) = absurd (all_excludes before (demands l) e v.0 u)
one_of_lines before (l ∷ ls) e f (inr u) (inl v) = absurd (all_excludes before (demands l) f u.0 v)
one_of_lines before (l ∷ ls) e f (inr u) (inr v) = one_of_lines (before ++ l ∷ []) ls e f u.1 v.1

none_some : {A : Type 0} {x : A} {B : Type 0} (o : Option A) → o ≡ None → o ≡ Some x → B
none_some o e f = absurd (cc)

pub refused_once : (plan : List ℕ) (e f : PlanError) → Refused plan e → Refused plan f → e ≡ f
refused_once plan e f (too_big h) (too_big k) = refl
refused_once plan e f (too_big h) (no_line at k i) = absurd (omega (arith, h, k))
refused_once plan e f (too_big h) (unmet g k i u) = absurd (omega (arith, h, k))
refused_once plan e f (no_line at h i) (too_big k) = absurd (omega (arith, h, k))
refused_once plan e f (no_line at h i) (no_line to k j) = let same : Some at ≡ Some to = sym i ∙ j in let one : at ≡ to = cc in ap (error kind.Syntax) one
refused_once plan e f (no_line at h i) (unmet g k j u) = none_some (first_bad (lines plan)) j i
refused_once plan e f (unmet g h i u) (too_big k) = absurd (omega (arith, h, k))
refused_once plan e f (unmet g h i u) (no_line to k j) = none_some (first_bad (lines plan)) i j
refused_once plan e f (unmet g h i u) (unmet d k j v) = one_of_lines [] (said (lines plan)) e f u v

pub excluded : (plan : List ℕ) (e : PlanError) → NotRefused plan → Refused plan e → ⊥
excluded plan e n (too_big h) = omega (arith, h, n.small)
excluded plan e n (no_line at h i) = none_some (first_bad (lines plan)) n.read i
excluded plan e n (unmet g h i u) = lines_exclude [] (said (lines plan)) e n.met u

-- what an answer says of every refusal
pub exactly : {A : Type 0} (plan : List ℕ) (out : A → List ℕ) (r : Result A PlanError) → MatchResult r (λ x. IsComposed plan (out x)) (λ e. (e ≡ no_memory) ⊎ Refused plan e) → (e : PlanError) → Refused plan e → (r ≡ Err e) ⊎ (r ≡ Err no_memory)
exactly plan out (Ok x) h e u = absurd (excluded plan e h.accepted u)
exactly plan out (Err f) (inl m) e u = inr (ap Err m)
exactly plan out (Err f) (inr v) e u = inl (ap Err (refused_once plan f e v u))

-- a refusal of each sort
pub big_refused : (plan : List ℕ) (n : ℕ) (e : PlanError) → plan_limit < length plan → n ≡ length plan → e ≡ error (kind.TooBig n plan_limit) 0 → (e ≡ no_memory) ⊎ Refused plan e
big_refused plan n e h k same = inr (subst (Refused plan) (sym (same ∙ ap (λ m. error (kind.TooBig m plan_limit) 0) k)) (too_big h))

pub line_refused : (plan : List ℕ) (r : Option ℕ) (at : ℕ) (e : PlanError) → length plan ≤ plan_limit → r ≡ first_bad (lines plan) → r ≡ Some at → e ≡ error kind.Syntax at → (e ≡ no_memory) ⊎ Refused plan e
line_refused plan r at e h k l same = inr (subst (Refused plan) (sym same) (no_line at h (sym k ∙ l)))

pub is_unmet : (plan : List ℕ) (e : PlanError) → length plan ≤ plan_limit → first_bad (lines plan) ≡ None → (e ≡ no_memory) ⊎ LinesRefused [] (said (lines plan)) e → (e ≡ no_memory) ⊎ Refused plan e
is_unmet plan e h g (inl m) = inl m
is_unmet plan e h g (inr u) = inr (unmet e h g u)
