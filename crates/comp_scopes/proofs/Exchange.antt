-- The exchange of two names changes neither rule, plan, form nor the first refusal.
use Rattle.std.proofs.Common.{◌≡◌, ◌↔◌, List, [], ◌∷◌, map, None, refl, ◌∙◌}
use Rattle.comp_model.specs.Core.{Text}
use Rattle.comp_model.proofs.Exchange.{exchange-same}
use Rattle.comp_model.specs.Model.{Scope, scope_of}
use Rattle.comp_scopes.specs.Encoding.{Encoding}
use Rattle.comp_scopes.specs.Rule.{ScopeRule}
use Rattle.comp_scopes.specs.Unmet.{first_unmet}
use Rattle.comp_scopes.specs.Form.{section_payload, form_with, plan, form}
use Rattle.comp_scopes.specs.Renaming.{exchanged_id, exchanged, RuleBlind, BytesExchanged, exchanged_payload}
use Rattle.comp_scopes.proofs.Renaming.{marks-renamed}
use Rattle.comp_scopes.proofs.FormRenamed.{plan-renamed, form-renamed}
use Rattle.comp_scopes.proofs.UnmetRenamed.{first_unmet-renamed, rule-renamed}
use Rattle.comp_scopes.proofs.PlanAlone.{plan-alone}

-- nothing of core modules
nothing_written : Encoding
nothing_written = record { core_refusal = λ c. None; core_bytes = λ c. [] }

pub rule-exchanged : (e : Encoding) (a b : Text) (st : List Scope) (s : Scope) → RuleBlind e a b → ScopeRule e (map (exchanged a b) st) (exchanged a b s) ↔ ScopeRule e st s
rule-exchanged e a b st s h = rule-renamed (exchanged_id a b) (exchange-same a b) (λ x. refl) (λ x. refl) e h st s

pub first_unmet-exchanged : (e : Encoding) (a b : Text) (st : List Scope) (s : Scope) → RuleBlind e a b → first_unmet e (map (exchanged a b) st) (exchanged a b s) ≡ first_unmet e st s
first_unmet-exchanged e a b st s h = first_unmet-renamed (exchanged_id a b) (exchange-same a b) (λ x. refl) (λ x. refl) e h st s

-- nothing in name sections
no_payload : List Scope → Scope → Text
no_payload st s = []

pub plan-exchanged : (e : Encoding) (a b : Text) (st : List Scope) (s : Scope) → plan e (map (exchanged a b) st) (exchanged a b s) ≡ plan e st s
unfolding nothing_written no_payload
plan-exchanged e a b st s =
    plan-alone e nothing_written section_payload no_payload (map (exchanged a b) st) (exchanged a b s)
    ∙ plan-renamed (exchanged_id a b) (exchange-same a b) (λ x. refl) nothing_written nothing_written no_payload no_payload (λ c. refl) (λ st s. refl) st s
    ∙ plan-alone nothing_written e no_payload section_payload st s

pub form-exchanged : (e d : Encoding) (a b : Text) (payload : List Scope → Scope → Text) (st : List Scope) (s : Scope) → BytesExchanged e d a b
    → ((su : List Scope) (t : Scope) → payload (map (exchanged a b) su) (exchanged a b t) ≡ payload su t)
    → form_with e payload (map (exchanged a b) st) (exchanged a b s) ≡ form_with d payload st s
form-exchanged e d a b payload st s h g = form-renamed (exchanged_id a b) (exchange-same a b) (λ x. refl) e d payload payload h g st s

payload-exchanged : (a b : Text) (st : List Scope) (s : Scope) → section_payload (map (exchanged a b) st) (exchanged a b s) ≡ exchanged_payload a b st s
payload-exchanged a b st (scope_of k id label ds) = rw (marks-renamed (exchanged_id a b) (exchange-same a b) (λ x. refl) (scope_of k id label ds ∷ st)) refl

pub names-exchanged : (e d : Encoding) (a b : Text) (st : List Scope) (s : Scope) → BytesExchanged e d a b → form e (map (exchanged a b) st) (exchanged a b s) ≡ form_with d (exchanged_payload a b) st s
names-exchanged e d a b st s h = form-renamed (exchanged_id a b) (exchange-same a b) (λ x. refl) e d section_payload (exchanged_payload a b) h (payload-exchanged a b) st s
