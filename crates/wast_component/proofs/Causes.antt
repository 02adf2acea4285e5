-- Why components are refused, by what each layer answers.
use Rattle.std.proofs.Common.{◌≡◌, ◌≤◌, ◌<◌, ◌⊎◌, inl, ℕ, [], Option, Some, None, option_map, true, false, nat_lt, refl, sym, ◌∙◌, ap, arith}
use Rattle.std.proofs.lemmas.Bool.Decides.{nat_tests}
use Rattle.comp_model.specs.Covered.{Uncovered}
use Rattle.comp_model.specs.Model.{Scope}
use Rattle.wast_component.specs.Forms.{form_refusal}
use Rattle.tree_write.specs.Wire.{the_encoding}
use Rattle.wast_component.specs.Whole.{Whole, in_text, in_binary, a_module}
use Rattle.open_scopes.specs.Refusals.{refusal, refusal_of, no_memory}
use Rattle.comp_scopes.specs.Unmet.{first_unmet}
use Rattle.comp_scopes.proofs.Quiet.{rule-none}
use Rattle.comp_walks.specs.Weigh.{capped}
use Rattle.wast_tokens.specs.declared.error.Error.{Error}
use Rattle.wast_tokens.specs.declared.error.ErrorKind.{ErrorKind}
use Rattle.wast_tokens.specs.declared.error.ErrorKind.TheVariants as kinds
use Rattle.wast_component.specs.Encodable.{weight_limit, weight_of, uncovered, component_refusal, whole_refusal, IsEncodable, CanBeEncoded}

-- want of memory, which may come in place of it
pub memory-refuses : (s : Scope) (e : Error) → (e.kind ≡ kinds.NoMemory) × (e.offset ≡ 0) → (e ≡ no_memory) ⊎ (component_refusal s ≡ Some e)
memory-refuses s e h = inl (ap (λ (k : ErrorKind). refusal k e.offset) h.0 ∙ ap (refusal kinds.NoMemory) h.1)

-- by a form, by the weight, by the resolver
pub form-refuses : (s : Scope) (e : Error) → Some e ≡ option_map form_refusal (uncovered s) → component_refusal s ≡ Some e
form-refuses s e h = rw (sym h) refl

pub weight-refuses : (s : Scope) (e : Error) (found : ℕ) → e.kind ≡ kinds.TooBig found 67_108_864 → e.offset ≡ 0 → uncovered s ≡ None → found ≡ capped (weight_of s) → 67_108_864 < found → component_refusal s ≡ Some e
weight-refuses s e found k o covered is heavy =
    let more : nat_lt weight_limit (weight_of s) ≡ true = grind (arith, nat_tests, is, heavy) in
    let same : refusal (kinds.TooBig found 67_108_864) 0 ≡ e = ap (λ (x : ErrorKind). refusal x 0) (sym k) ∙ ap (refusal e.kind) (sym o) in
    rw (covered, more, sym is) (ap Some same)

pub light-enough : (s : Scope) (found : ℕ) → found ≡ capped (weight_of s) → found ≤ 67_108_864 → weight_of s ≤ 67_108_864
light-enough s found is light = grind (arith, is, light)

pub unmet-refuses : (s : Scope) (e : Error) → uncovered s ≡ None → weight_of s ≤ 67_108_864 → option_map refusal_of (first_unmet the_encoding [] s) ≡ Some e → component_refusal s ≡ Some e
unmet-refuses s e covered light h =
    let less : nat_lt weight_limit (weight_of s) ≡ false = grind (arith, nat_tests, light) in
    rw (covered, less) h

-- what can be encoded is refused for nothing
pub encodable-none : (s : Scope) → IsEncodable s → component_refusal s ≡ None
encodable-none s h =
    let less : nat_lt weight_limit (weight_of s) ≡ false = let l = h.light in grind (arith, nat_tests, l) in
    rw (h.covered, less, (rule-none the_encoding [] s).0 h.rule) refl

pub never-refused : (w : Whole) (e : Error) → CanBeEncoded w → whole_refusal w ≡ Some e → ⊥
never-refused (in_text s) e h r = let k = sym (encodable-none s h) ∙ r in absurd (cc)
never-refused (in_binary t) e h r = absurd (cc)
never-refused (a_module n) e h r = h

pub covered-by : (s : Scope) (r : Option Error) → r ≡ None → r ≡ option_map form_refusal (uncovered s) → uncovered s ≡ None
covered-by s r h e = go (uncovered s) (sym h ∙ e)
  where
    go : (o : Option Uncovered) → None ≡ option_map form_refusal o → o ≡ None
    go None i = refl
    go (Some u) i = absurd (cc)
