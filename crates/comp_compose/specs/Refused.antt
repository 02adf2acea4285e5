-- When a plan is refused, why and where.
use Rattle.std.specs.Prelude.{◌≡◌, ℕ, ◌<◌, ◌≤◌, ◌⊎◌, List, [], ◌∷◌, ◌++◌, length, None, Some}
use Rattle.plan_lines.specs.Lines.{Line, lines, said, first_bad}
use Rattle.comp_compose.specs.Demands.{Demand, demands, IsMet, refusal, asked_at}
use Rattle.comp_compose.specs.declared.error.PlanKind.{PlanKind}
use Rattle.comp_compose.specs.declared.error.PlanKind.TheVariants as kind
use Rattle.comp_compose.specs.declared.error.PlanError.{PlanError}

abbrev pub plan_limit : ℕ
plan_limit = 67108864

abbrev pub error : PlanKind → ℕ → PlanError
error k at = record { kind = k; offset = at }

-- want of memory says nothing of the plan
abbrev pub no_memory : PlanError
no_memory = error kind.NoMemory 0

-- a demand that isn't met, and its refusal
abbrev pub IsUnmet : List Line → Demand → PlanError → Type 0
IsUnmet before d e = (IsMet before d → ⊥) × (e ≡ error (refusal d) (asked_at d))

-- the first of these demands that isn't met gives this refusal
abbrev pub FirstUnmet : List Line → List Demand → PlanError → Type 0
FirstUnmet before [] e = ⊥
FirstUnmet before (d ∷ ds) e = IsUnmet before d e ⊎ (IsMet before d × FirstUnmet before ds e)

abbrev pub AllMet : List Line → List Demand → Type 0
AllMet before [] = Unit {0}
AllMet before (d ∷ ds) = IsMet before d × AllMet before ds

-- line by line, each behind those in front of it
abbrev pub LinesRefused : List Line → List Line → PlanError → Type 0
LinesRefused before [] e = ⊥
LinesRefused before (l ∷ ls) e = FirstUnmet before (demands l) e ⊎ (AllMet before (demands l) × LinesRefused (before ++ l ∷ []) ls e)

abbrev pub LinesMet : List Line → List Line → Type 0
LinesMet before [] = Unit {0}
LinesMet before (l ∷ ls) = AllMet before (demands l) × LinesMet (before ++ l ∷ []) ls

-- A plan is too long; or else a line says nothing; or else a line doesn't get what it asks for.
pub data Refused (plan : List ℕ) : PlanError → Type 0 where
  too_big : plan_limit < length plan → Refused plan (error (kind.TooBig (length plan) plan_limit) 0)
  no_line : (at : ℕ) → length plan ≤ plan_limit → first_bad (lines plan) ≡ Some at → Refused plan (error kind.Syntax at)
  unmet : (e : PlanError) → length plan ≤ plan_limit → first_bad (lines plan) ≡ None → LinesRefused [] (said (lines plan)) e → Refused plan e

-- nothing refuses the plan
pub record NotRefused (plan : List ℕ) : Type 0 where
  pub small : length plan ≤ plan_limit
  pub read : first_bad (lines plan) ≡ None
  pub met : LinesMet [] (said (lines plan))
