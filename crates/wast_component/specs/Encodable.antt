-- When a component of a text can be encoded, what its encoding is, and why it is refused.
use Rattle.std.specs.Prelude.{◌≡◌, ◌≤◌, ℕ, List, [], cond, nat_lt, Option, Some, None, option_map, ⊤}
use Rattle.std.specs.Option.{option_or}
use Rattle.comp_model.specs.Covered.{Uncovered, first_uncovered}
use Rattle.comp_model.specs.Model.{Scope}
use Rattle.comp_model.specs.Origins.{Origins, no_origins}
use Rattle.comp_model.specs.Weight.{weight}
use Rattle.comp_scopes.specs.Form.{form, plan}
use Rattle.comp_scopes.specs.Renders.{Renders}
use Rattle.comp_scopes.specs.Rule.{ScopeRule}
use Rattle.comp_scopes.specs.Unmet.{first_unmet}
use Rattle.open_scopes.specs.Refusals.{refusal, refusal_of}
use Rattle.comp_walks.specs.Weigh.{capped}
use Rattle.comp_wire.specs.Read.{Reads}
use Rattle.core_model.specs.Uncovered.{core_uncovered}
use Rattle.core_model.specs.Weight.{module_weight}
use Rattle.tree_write.specs.Wire.{the_encoding}
use Rattle.wast_tokens.specs.declared.error.Error.{Error}
use Rattle.wast_tokens.specs.declared.error.ErrorKind.TheVariants as kinds
use Rattle.comp_wire.specs.declared.origin.ScopeOrigins.{ScopeOrigins}
use Rattle.wast_component.specs.Forms.{form_refusal}
use Rattle.wast_component.specs.Shown.{Shows}
use Rattle.wast_component.specs.Whole.{Whole, in_text, in_binary, a_module}

-- the most that a component weighs
abbrev pub weight_limit : ℕ
weight_limit = 67_108_864

abbrev pub weight_of : Scope → ℕ
weight_of s = weight module_weight s

-- the first form that is read and never written
abbrev pub uncovered : Scope → Option Uncovered
uncovered s = first_uncovered (λ c. core_uncovered c.fields) s

-- ---- what can be encoded

-- No form in it is read and never written, it isn't too heavy, and each name of it denotes what it may, as core modules meet their rule.
pub record IsEncodable (component : Scope) : Type 0 where
  pub covered : uncovered component ≡ None
  pub light : weight_of component ≤ weight_limit
  pub rule : ScopeRule the_encoding [] component

-- every component in binary form, and no core module
abbrev pub CanBeEncoded : Whole → Type 0
CanBeEncoded (in_text s) = IsEncodable s
CanBeEncoded (in_binary t) = ⊤
CanBeEncoded (a_module n) = ⊥

-- ---- what its encoding is

-- The bytes are read as one component, which renders that of the text under the origins. It is the form of the text's, and the origins are
-- the plan.
pub record IsEncodingOf (component : Scope) (bytes : List ℕ) (origins : Origins) : Type 0 where
  pub binary : Scope
  pub reads : Reads bytes binary
  pub renders : Renders the_encoding [] [] component binary origins
  pub formed : binary ≡ form the_encoding [] component
  pub planned : origins ≡ plan the_encoding [] component

-- of one in binary form its strings, without origins, whatever they are
abbrev pub IsEncodedAs : Whole → List ℕ → Origins → Type 0
IsEncodedAs (in_text s) bytes os = IsEncodingOf s bytes os
IsEncodedAs (in_binary t) bytes os = (bytes ≡ t) × (os ≡ no_origins)
IsEncodedAs (a_module n) bytes os = ⊥

-- ---- why it is refused

-- the refusal of a component that is heavier than components may be
abbrev pub weight_refusal : Scope → Option Error
weight_refusal s = cond (nat_lt weight_limit (weight_of s)) (Some (refusal (kinds.TooBig (capped (weight_of s)) weight_limit) 0)) None

-- by a form, then by its weight, then by the first demand of the rule that it doesn't meet
abbrev pub component_refusal : Scope → Option Error
component_refusal s = option_or (option_map form_refusal (uncovered s)) (option_or (weight_refusal s) (option_map refusal_of (first_unmet the_encoding [] s)))

abbrev pub whole_refusal : Whole → Option Error
whole_refusal (in_text s) = component_refusal s
whole_refusal (in_binary t) = None
whole_refusal (a_module n) = Some (refusal kinds.Module n)

-- ---- what is written of it

-- The bytes are read as its form, and what is given of origins is its plan.
pub record IsWrittenAs (component : Scope) (bytes : List ℕ) (given : Option ScopeOrigins) : Type 0 where
  pub reads : Reads bytes (form the_encoding [] component)
  pub marks : Shows given (plan the_encoding [] component)

abbrev pub WrittenAs : Whole → List ℕ → Option ScopeOrigins → Type 0
WrittenAs (in_text s) bytes given = IsWrittenAs s bytes given
WrittenAs (in_binary t) bytes given = (bytes ≡ t) × Shows given no_origins
WrittenAs (a_module n) bytes given = ⊥
