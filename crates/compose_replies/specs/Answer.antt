-- What the word `compose` answers, by the whole input, which is a plan.
use Rattle.std.specs.Prelude.{◌≡◌, ℕ, List, [], ◌∷◌, ◌++◌, codes, Bool, true, false, Option, Some, None, string_bytes, cond}
use Rattle.hex.specs.Hex.{encode_lower}
use Rattle.wast_refusals.specs.Line.{refusal_line}
use Rattle.comp_compose.specs.Composed.{IsComposed}
use Rattle.comp_compose.specs.Refused.{Refused}
use Rattle.comp_compose.specs.declared.error.PlanError.{PlanError}
use Rattle.comp_compose.specs.declared.error.PlanKind.{PlanKind}
use Rattle.comp_compose.specs.declared.error.PlanKind.TheVariants as kind
use Rattle.compose_replies.specs.declared.reply.Told.{Told}
use Rattle.compose_replies.specs.declared.reply.Told.TheVariants.{Output, Refusal}

-- the name of a kind; want of memory has none, since it says nothing of the plan
abbrev pub plan_kind_name : PlanKind → Option (List ℕ)
plan_kind_name (kind.TooBig found limit) = Some (codes "TooBig")
plan_kind_name kind.Syntax = Some (codes "Plan-Syntax")
plan_kind_name kind.Duplicate = Some (codes "Plan-Duplicate")
plan_kind_name kind.Unknown = Some (codes "Plan-Unknown")
plan_kind_name kind.Part = Some (codes "Plan-Part")
plan_kind_name kind.NoMemory = None

-- bytes in lower-case hexadecimal and a line feed, or as they are
abbrev pub printed : Bool → List ℕ → List ℕ
printed r bytes = cond r bytes (encode_lower bytes ++ 10 ∷ [])

-- the bytes of what a plan composes are told
pub record IsTold (plan : List ℕ) (r : Bool) (out : List ℕ) : Type 0 where
  pub bytes : List ℕ
  pub composed : IsComposed plan bytes
  pub same : out ≡ printed r bytes

-- the line of a refusal of the plan is told
pub record IsRefusal (plan line : List ℕ) : Type 0 where
  pub refusal : PlanError
  pub refused : Refused plan refusal
  pub name : List ℕ
  pub named : plan_kind_name refusal.kind ≡ Some name
  pub same : line ≡ refusal_line name refusal.offset

-- what is told of a plan
abbrev pub Tells : List ℕ → Bool → Told → Type 0
Tells plan r (Output out) = IsTold plan r out.items
Tells plan r (Refusal line) = IsRefusal plan (string_bytes line)
