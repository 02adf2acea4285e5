-- Causes exclude each other: a text is refused for the one that holds of it, and valid text for none.
use Rattle.std.proofs.Common.{inl, inr, ◌≡◌, refl, sym, ◌∙◌, ap, subst, ℕ, arith, List, Bool, Some, None, Result, Ok, Err}
use Rattle.std.specs.Prelude.{IfOk, IfErr}
use Rattle.comp_model.specs.Origins.{Origins}
use Rattle.comp_wire.specs.Origins.{origins_of}
use Rattle.comp_wire.specs.declared.origin.ScopeOrigins.{ScopeOrigins}
use Rattle.text_rules.specs.FieldRules.{wat_item}
use Rattle.text_rules.specs.Makes.{makes}
use Rattle.text_rules.specs.Whole.{one_definition}
use Rattle.open_scopes.specs.Refusals.{refusal}
use Rattle.wast_tokens.specs.declared.error.Error.{Error}
use Rattle.wast_tokens.specs.declared.error.ErrorKind.{ErrorKind}
use Rattle.wast_tokens.specs.declared.error.ErrorKind.TheVariants as kinds
use Rattle.wast_tokens.proofs.Tilings.{never_both, one_fault}
use Rattle.wast_grammar.specs.Answers.{Fronts, first_deep}
use Rattle.wast_grammar.specs.Grammar.{Value}
use Rattle.wast_component.proofs.Rows.{sound_text, clear_text}
use Rattle.wast_grammar.specs.Read.{Outcome, fault, deep, read, start_of}
use Rattle.wast_grammar.specs.Spells.{checks}
use Rattle.wast_grammar.specs.Stand.{offset_of}
use Rattle.wast_grammar.specs.Tokens.{Text}
use Rattle.wast_grammar.proofs.Unique.{unique}
use Rattle.wast_parser.specs.View.{IsTextOf}
use Rattle.wast_parser.proofs.Reading.{one_text}
use Rattle.wast_component.specs.Encodable.{whole_refusal}
use Rattle.wast_component.specs.Whole.{Whole, whole_of, wat, SpellsWhole}
use Rattle.wast_component.specs.Answer.{IsValid, IsEncoding, EncodesWith, Encodes, TokensRefute, TextRefuses, too_long, not_cut, not_spelled, too_deep, not_encodable, EncoderRefuses, IsSpelledOnce, IsRefusedAs}
use Rattle.wast_component.proofs.Causes.{never-refused}
use Rattle.wast_component.proofs.Texts.{defs_of_one}

-- The tokens of a text spell one thing at most.
pub spelled_once : IsSpelledOnce
spelled_once bytes legacy a b v w =
    let e : w.tokens ≡ v.tokens = one_text bytes legacy w.tokens v.tokens w.cut v.cut in
    let f : Fronts wat (start_of v.tokens) w.end w.value = subst (λ (t : Text). Fronts wat (start_of t) w.end w.value) e w.front in
    let u = unique v.front.0 f.0 sound_text clear_text v.front.1 f.1 in
    let m : one_definition v.definition ≡ one_definition w.definition = sym v.made ∙ ap (λ (x : Value). makes x wat_item) u.1 ∙ w.made in
    sym v.is ∙ ap whole_of (defs_of_one v.definition w.definition m) ∙ w.is

module _ (bytes : List ℕ) (legacy : Bool) where
  -- tokens that spell a component refute nothing
  spelled-parses : (c : Whole) (n : ℕ) → SpellsWhole bytes legacy c → TokensRefute bytes legacy kinds.Parse n → ⊥
  spelled-parses c n w h =
      let e : w.tokens ≡ h.tokens = one_text bytes legacy w.tokens h.tokens w.cut h.cut in
      h.refuses.0 h.tokens.tokens (λ j l. refl) w.end w.value (subst (λ (t : Text). Fronts wat (start_of t) w.end w.value) e w.front)

  spelled-shallow : (c : Whole) (n : ℕ) → SpellsWhole bytes legacy c → TokensRefute bytes legacy kinds.TooDeep n → ⊥
  spelled-shallow c n w h =
      let e : w.tokens ≡ h.tokens = one_text bytes legacy w.tokens h.tokens w.cut h.cut in
      let f : (x : Fronts wat (start_of h.tokens) w.end w.value) × (first_deep (checks x.0) ≡ None) = subst (λ (t : Text). (x : Fronts wat (start_of t) w.end w.value) × (first_deep (checks x.0) ≡ None)) e (w.front, w.shallow) in
      let k : None ≡ Some h.at = sym f.1 ∙ h.refuses.0.first w.end w.value f.0 in
      absurd (cc)

  -- reading a text comes to one outcome
  one-reading : (a b : Outcome) (t u : Text) → IsTextOf bytes legacy t → IsTextOf bytes legacy u → read wat (start_of t) ≡ a → read wat (start_of u) ≡ b → a ≡ b
  one-reading a b t u h k p q = sym p ∙ ap (λ (x : Text). read wat (start_of x)) (one_text bytes legacy t u h k) ∙ q

  one-place : (n m : ℕ) → TokensRefute bytes legacy kinds.Parse n → TokensRefute bytes legacy kinds.Parse m → n ≡ m
  one-place n m h k =
      let e : fault h.at ≡ fault k.at = one-reading _ _ h.tokens k.tokens h.cut k.cut h.comes.0 k.comes.0 in
      let s : h.at ≡ k.at = cc in
      h.comes.1 ∙ ap offset_of s ∙ sym k.comes.1

  one-depth : (n m : ℕ) → TokensRefute bytes legacy kinds.TooDeep n → TokensRefute bytes legacy kinds.TooDeep m → n ≡ m
  one-depth n m h k =
      let e : deep h.at ≡ deep k.at = one-reading _ _ h.tokens k.tokens h.cut k.cut h.comes.0 k.comes.0 in
      let s : h.at ≡ k.at = cc in
      h.comes.1 ∙ ap offset_of s ∙ sym k.comes.1

  parse-or-deep : (n m : ℕ) → TokensRefute bytes legacy kinds.Parse n → TokensRefute bytes legacy kinds.TooDeep m → ⊥
  parse-or-deep n m h k = let e : fault h.at ≡ deep k.at = one-reading _ _ h.tokens k.tokens h.cut k.cut h.comes.0 k.comes.0 in absurd (cc)

  one-refusal : (c d : Whole) (x y : Error) → SpellsWhole bytes legacy c → SpellsWhole bytes legacy d → whole_refusal c ≡ Some x → whole_refusal d ≡ Some y → x ≡ y
  one-refusal c d x y v w p q =
      let e : Some x ≡ Some y = sym p ∙ ap whole_refusal (spelled_once bytes legacy c d v w) ∙ q in cc

  -- a text is refused in one way
  one-cause : (k j : ErrorKind) (n m : ℕ) → TextRefuses bytes legacy k n → TextRefuses bytes legacy j m → refusal k n ≡ refusal j m
  one-cause _ _ _ _ (too_long a) (too_long b) = refl
  one-cause _ _ _ _ (too_long a) (not_cut f m b i) = absurd (omega (arith, a, b))
  one-cause _ _ _ _ (too_long a) (not_spelled m b i) = absurd (omega (arith, a, b))
  one-cause _ _ _ _ (too_long a) (too_deep m b i) = absurd (omega (arith, a, b))
  one-cause _ _ _ _ (too_long a) (not_encodable c j m b w i) = absurd (omega (arith, a, b))
  one-cause _ _ _ _ (not_cut f n a h) (too_long b) = absurd (omega (arith, a, b))
  one-cause _ _ _ _ (not_cut f n a h) (not_cut g m b i) = let e = one_fault bytes f g n m h i in ap (λ x. refusal (kinds.Lex x) n) e.0 ∙ ap (refusal (kinds.Lex g)) e.1
  one-cause _ _ _ _ (not_cut f n a h) (not_spelled m b i) = absurd (never_both bytes i.cut.cut f n i.cut.tiling h)
  one-cause _ _ _ _ (not_cut f n a h) (too_deep m b i) = absurd (never_both bytes i.cut.cut f n i.cut.tiling h)
  one-cause _ _ _ _ (not_cut f n a h) (not_encodable c j m b w i) = absurd (never_both bytes w.cut.cut f n w.cut.tiling h)
  one-cause _ _ _ _ (not_spelled n a h) (too_long b) = absurd (omega (arith, a, b))
  one-cause _ _ _ _ (not_spelled n a h) (not_cut g m b i) = absurd (never_both bytes h.cut.cut g m h.cut.tiling i)
  one-cause _ _ _ _ (not_spelled n a h) (not_spelled m b i) = ap (refusal kinds.Parse) (one-place n m h i)
  one-cause _ _ _ _ (not_spelled n a h) (too_deep m b i) = absurd (parse-or-deep n m h i)
  one-cause _ _ _ _ (not_spelled n a h) (not_encodable c j m b w i) = absurd (spelled-parses c n w h)
  one-cause _ _ _ _ (too_deep n a h) (too_long b) = absurd (omega (arith, a, b))
  one-cause _ _ _ _ (too_deep n a h) (not_cut g m b i) = absurd (never_both bytes h.cut.cut g m h.cut.tiling i)
  one-cause _ _ _ _ (too_deep n a h) (not_spelled m b i) = absurd (parse-or-deep m n i h)
  one-cause _ _ _ _ (too_deep n a h) (too_deep m b i) = ap (refusal kinds.TooDeep) (one-depth n m h i)
  one-cause _ _ _ _ (too_deep n a h) (not_encodable c j m b w i) = absurd (spelled-shallow c n w h)
  one-cause _ _ _ _ (not_encodable c k n a v h) (too_long b) = absurd (omega (arith, a, b))
  one-cause _ _ _ _ (not_encodable c k n a v h) (not_cut g m b i) = absurd (never_both bytes v.cut.cut g m v.cut.tiling i)
  one-cause _ _ _ _ (not_encodable c k n a v h) (not_spelled m b i) = absurd (spelled-parses c m v i)
  one-cause _ _ _ _ (not_encodable c k n a v h) (too_deep m b i) = absurd (spelled-shallow c m v i)
  one-cause _ _ _ _ (not_encodable c k n a v h) (not_encodable d j m b w i) = one-refusal c d (refusal k n) (refusal j m) v w h i

  -- valid text is refused in none
  valid-none : (component : Whole) (k : ErrorKind) (n : ℕ) → IsValid bytes legacy component → TextRefuses bytes legacy k n → ⊥
  valid-none component _ _ v (too_long b) = absurd (omega (arith, v.small, b))
  valid-none component _ _ v (not_cut f m b i) = let c = v.spelled.cut in never_both bytes c.cut f m c.tiling i
  valid-none component _ _ v (not_spelled m b i) = spelled-parses component m v.spelled i
  valid-none component _ _ v (too_deep m b i) = spelled-shallow component m v.spelled i
  valid-none component _ _ v (not_encodable c j m b w i) =
      never-refused component (refusal j m) v.encodable (ap whole_refusal (spelled_once bytes legacy component c v.spelled w) ∙ i)

  -- so a call that answers an encoding or a cause answers the cause where there is one, and else the encoding, but for want of memory
  pub exact : {X : Type 0} (out : X → List ℕ) (r : Result X Error) → IfOk r (λ x. Encodes bytes legacy (out x)) → IfErr r (λ e. EncoderRefuses bytes legacy e.kind e.offset)
      → (kind : ErrorKind) (offset : ℕ) → TextRefuses bytes legacy kind offset → IsRefusedAs r kind offset
  exact out (Ok x) h k kind offset c = valid-none h.1.component kind offset h.1.valid c
  exact out (Err e) h (inl k) kind offset c = inr k.0
  exact out (Err e) h (inr k) kind offset c =
      let same : refusal e.kind e.offset ≡ refusal kind offset = one-cause e.kind kind e.offset offset k c in
      inl (ap (λ (x : Error). x.kind) same, ap (λ (x : Error). x.offset) same)

  pub complete : {X : Type 0} (r : Result X Error) → IfErr r (λ e. EncoderRefuses bytes legacy e.kind e.offset) → (component : Whole) → IsValid bytes legacy component → IfErr r (λ e. e.kind ≡ kinds.NoMemory)
  complete (Ok x) h component v = tt
  complete (Err e) (inl h) component v = h.0
  complete (Err e) (inr h) component v = absurd (valid-none component e.kind e.offset v h)

  -- origins that are given
  pub given-encoding : (out : List ℕ) (given : ScopeOrigins) → EncodesWith bytes legacy out (Some given) → IsEncoding bytes legacy out (origins_of given)
  given-encoding out given h = subst (λ (os : Origins). IsEncoding bytes legacy out os) (sym h.1) h.2
