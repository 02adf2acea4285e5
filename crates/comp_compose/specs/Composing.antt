-- What a composer holds behind the first lines of a plan.
use Rattle.std.specs.Prelude.{◌≡◌, ℕ, ◌+◌, ◌*◌, ◌≤◌, ◌⊎◌, List, [], ◌∷◌, ◌++◌, length, Result, MatchResult}
use Rattle.comp_model.specs.Model.{Defs}
use Rattle.comp_wire.specs.Sink.{bulk}
use Rattle.comp_wire.specs.Spelled.{items_of, FitsDefinitions}
use Rattle.plan_lines.specs.Lines.{Line, lines, said}
use Rattle.comp_compose.specs.Meanings.{components, instances}
use Rattle.comp_compose.specs.Demands.{Demand, demands, IsMet}
use Rattle.comp_compose.specs.Refused.{FirstUnmet, AllMet, LinesMet, IsUnmet, no_memory, plan_limit}
use Rattle.comp_compose.specs.Composed.{AreDefinitions}
use Rattle.comp_compose.specs.Shown.{Shows}
use Rattle.comp_compose.specs.Written.{Writes}
use Rattle.comp_compose.specs.declared.composer.Composer.{Composer}
use Rattle.comp_compose.specs.declared.error.PlanError.{PlanError}

-- The names and numbers of these lines, and their definitions, written; and that they aren't many, since the lines took so many bytes.
pub record Composing (composer : Composer) (before : List Line) (spent : ℕ) : Type 0 where
  pub definitions : Defs
  pub names : Shows composer.names before
  pub components : composer.components ≡ components before
  pub instances : composer.instances ≡ instances before
  pub of_lines : AreDefinitions [] before definitions
  pub fit : FitsDefinitions definitions
  pub written : Writes composer.writer (items_of definitions)
  pub light : bulk (items_of definitions) ≤ 4 * spent + 5
  pub few : length before ≤ spent

-- a demand is met, or its refusal is answered
abbrev pub Meets : {A : Type 0} → List Line → Demand → Result A PlanError → Type 0
Meets before d r = MatchResult r (λ x. IsMet before d) (λ e. IsUnmet before d e)

-- a line is added, or it is refused
abbrev pub Added : {A : Type 0} → Composer → List Line → Line → ℕ → Result A PlanError → Type 0
Added new before l spent r =
    MatchResult r (λ x. Composing new (before ++ l ∷ []) spent × AllMet before (demands l)) (λ e. (e ≡ no_memory) ⊎ FirstUnmet before (demands l) e)

-- all lines of a plan are added
pub record AllAdded (composer : Composer) (plan : List ℕ) : Type 0 where
  pub spent : ℕ
  pub small : spent ≤ plan_limit
  pub composing : Composing composer (said (lines plan)) spent
  pub met : LinesMet [] (said (lines plan))
