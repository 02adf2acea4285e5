-- A part of three that is refused, each of which stands at most once.
use Rattle.std.proofs.Common.{◌≡◌, Option, Some, None, Bool, true, false, refl, sym, ap, ◌∙◌}
use Rattle.wast_grammar.specs.Stand.{Stand}
use Rattle.wast_grammar.specs.Grammar.{Grammar, Test, Value}
use Rattle.wast_grammar.specs.Read.{Outcome, read}
use Rattle.wast_grammar.proofs.ThreeParts.{SoFar, begins}
use Rattle.tree_read.specs.Comes.{FailsBy}
use Rattle.tree_read.specs.declared.fault.Fault.{Fault}
use Rattle.tree_read.specs.declared.fault.Fault.TheVariants.{Parse, TooDeep, NoMemory}

module _ (upper middle lower : Test × Grammar) {A : Type 0} (view : A → Value) where
  pub middle_fails : (e : Fault) (a b c : Option A) (s t : Stand) (total : Outcome) → SoFar upper middle lower view a b c s total → begins upper middle lower view a upper s ≡ false
      → begins upper middle lower view b middle s ≡ true → FailsBy e t (read middle.1 s) → FailsBy e t total
  middle_fails Parse None None c s t total x g h f = sym x.rest ∙ rw (g, h, f) refl
  middle_fails Parse (Some y) None c s t total x g h f = sym x.rest ∙ rw (h, f) refl
  middle_fails Parse a (Some z) c s t total x g h f = absurd (cc)
  middle_fails TooDeep None None c s t total x g h f = sym x.rest ∙ rw (g, h, f) refl
  middle_fails TooDeep (Some y) None c s t total x g h f = sym x.rest ∙ rw (h, f) refl
  middle_fails TooDeep a (Some z) c s t total x g h f = absurd (cc)
  middle_fails NoMemory a b c s t total x g h f = tt

  pub lower_fails : (e : Fault) (a b c : Option A) (s t : Stand) (total : Outcome) → SoFar upper middle lower view a b c s total → begins upper middle lower view a upper s ≡ false
      → begins upper middle lower view b middle s ≡ false → begins upper middle lower view c lower s ≡ true → FailsBy e t (read lower.1 s) → FailsBy e t total
  lower_fails Parse None None None s t total x g k h f = sym x.rest ∙ rw (g, k, h, f) refl
  lower_fails Parse (Some y) None None s t total x g k h f = sym x.rest ∙ rw (k, h, f) refl
  lower_fails Parse None (Some z) None s t total x g k h f = sym x.rest ∙ rw (g, h, f) refl
  lower_fails Parse (Some y) (Some z) None s t total x g k h f = sym x.rest ∙ rw (h, f) refl
  lower_fails Parse a b (Some z) s t total x g k h f = absurd (cc)
  lower_fails TooDeep None None None s t total x g k h f = sym x.rest ∙ rw (g, k, h, f) refl
  lower_fails TooDeep (Some y) None None s t total x g k h f = sym x.rest ∙ rw (k, h, f) refl
  lower_fails TooDeep None (Some z) None s t total x g k h f = sym x.rest ∙ rw (g, h, f) refl
  lower_fails TooDeep (Some y) (Some z) None s t total x g k h f = sym x.rest ∙ rw (h, f) refl
  lower_fails TooDeep a b (Some z) s t total x g k h f = absurd (cc)
  lower_fails NoMemory a b c s t total x g k h f = tt
