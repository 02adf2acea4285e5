-- The line of a refusal.
use Rattle.std.proofs.Common.{◌≡◌, ◌⊎◌, inl, inr, ℕ, List, Option, Some, None, Result, Ok, Err, IfOk, String, string_bytes, sym, ap, ◌∙◌}
use Rattle.std.specs.declared.alloc.AllocError.{AllocError}
use Rattle.wast_refusals.specs.Line.{refusal_line}
use Rattle.comp_compose.specs.Refused.{Refused, no_memory}
use Rattle.comp_compose.specs.declared.error.PlanError.{PlanError}
use Rattle.compose_replies.specs.Answer.{plan_kind_name, IsRefusal}

no_name : {A : Type 0} (e : PlanError) (name : List ℕ) → e ≡ no_memory → plan_kind_name e.kind ≡ Some name → A
no_name e name m n = let none : None ≡ Some name = sym (ap (λ x. plan_kind_name x.kind) m) ∙ n in absurd (cc)

pub told : (plan : List ℕ) (e : PlanError) (name line : List ℕ) → plan_kind_name e.kind ≡ Some name → (e ≡ no_memory) ⊎ Refused plan e → line ≡ refusal_line name e.offset → IsRefusal plan line
told plan e name line n (inl m) same = no_name e name m n
told plan e name line n (inr r) same = record { refusal = e; refused = r; name = name; named = n; same = same }
