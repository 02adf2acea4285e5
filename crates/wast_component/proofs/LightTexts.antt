-- What valid text spells is light: its form costs few bytes.
use Rattle.std.proofs.Common.{inl, inr, ◌⊎◌, ◌≡◌, refl, ◌∙◌, subst, ℕ, List, [], ◌∷◌, Bool, true, false, cond, nat_lt, Some, None}
use Rattle.comp_model.specs.Origins.{Origins}
use Rattle.comp_scopes.proofs.RowsRowed.{scope-rowed}
use Rattle.text_rules.specs.Whole.{IsOfComponent, IsOfModule}
use Rattle.wast_grammar.specs.Answers.{first_deep}
use Rattle.wast_grammar.specs.Read.{Outcome, deep, open_at, reads, start_of}
use Rattle.wast_grammar.specs.Spells.{checks, unless_deep}
use Rattle.wast_grammar.specs.Stand.{Stand}
use Rattle.wast_grammar.proofs.Complete.{complete}
use Rattle.wast_component.specs.Answer.{IsEncoding}
use Rattle.wast_component.specs.Encodable.{CanBeEncoded, IsEncodedAs}
use Rattle.wast_component.specs.LightPlan.{IsLightPlan}
use Rattle.wast_component.specs.Whole.{Whole, in_text, in_binary, a_module, SpellsWhole, IsOfText}
use Rattle.wast_component.proofs.Chain.{form_cost}
use Rattle.wast_component.proofs.Rows.{sound_text, clear_text}
use Rattle.wast_component.proofs.Texts.{TextIsComponent, of_table}

-- where no checked item is too deep
not_deep : (xs : List Stand) (o : Outcome) → first_deep xs ≡ None → unless_deep xs o ≡ o
not_deep [] o e = refl
not_deep (s ∷ ss) o e = go (nat_lt 100 (open_at s)) (not_deep ss o) e
  where
    go : (b : Bool) → (first_deep ss ≡ None → unless_deep ss o ≡ o) → cond b (Some s) (first_deep ss) ≡ None → cond b (deep s) (unless_deep ss o) ≡ o
    go true r h = absurd (cc)
    go false r h = r h

-- the tokens of a text spell what is of text
spelled_of_text : TextIsComponent → (bytes : List ℕ) (legacy : Bool) (w : Whole) → SpellsWhole bytes legacy w → IsOfText w
spelled_of_text law bytes legacy w s =
    let r = complete s.front.0 sound_text clear_text s.front.1 ∙ not_deep (checks s.front.0) (reads s.value s.end) s.shallow in
    subst IsOfText s.is (of_table s.definition (subst (λ a. IsOfComponent a ⊎ IsOfModule a) s.made (law (start_of s.tokens) s.end s.value r)))

pub light_plan : TextIsComponent → (text : List ℕ) (legacy : Bool) (bytes : List ℕ) (origins : Origins) → IsEncoding text legacy bytes origins → IsLightPlan origins
light_plan law text legacy bytes os e = go e.component (spelled_of_text law text legacy e.component e.valid.spelled) e.valid.encodable e.encoded
  where
    go : (c : Whole) → IsOfText c → CanBeEncoded c → IsEncodedAs c bytes os → IsLightPlan os
    go (in_text s) t can h = inr (s, scope-rowed s (t.1).rows (t.1).written, h.planned, form_cost s t can.light)
    go (in_binary b) t can h = inl h.1
    go (a_module n) t can h = elim can [ ]
