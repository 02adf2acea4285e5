-- The loop over the lines of a plan, and its end.
use Rattle.std.proofs.Common.{◌≡◌, ℕ, ◌+◌, ◌*◌, ◌<◌, ◌≤◌, ◌^◌, ◌⊎◌, inl, inr, List, [], ◌∷◌, ◌++◌, length, append_assoc, append-nil, refl, sym, ◌∙◌, ap, subst, arith, Option, Some, None}
use Rattle.comp_model.specs.Model.{Defs}
use Rattle.comp_wire.specs.Sections.{Item, groups, sections, preamble}
use Rattle.comp_wire.specs.Sink.{bulk}
use Rattle.comp_wire.specs.Spelled.{items_of}
use Rattle.comp_wire.specs.Definitions.{component_of_defs}
use Rattle.comp_wire.specs.Read.{Reads}
use Rattle.comp_wire.proofs.Fit.{sections_fit}
use Rattle.comp_wire.proofs.Room.{light_is_short}
use Rattle.plan_lines.specs.Words as w
use Rattle.plan_lines.specs.Lines.{Line, line, lines, said, in_front, first_bad, or_later}
use Rattle.plan_lines.specs.Shown.{word_of, lines_left, size, span, SpansBelow, Within}
use Rattle.plan_lines.specs.declared.words.Word.{Word}
use Rattle.comp_compose.specs.Demands.{demands}
use Rattle.comp_compose.specs.Refused.{plan_limit, no_memory, FirstUnmet, AllMet, LinesMet, LinesRefused}
use Rattle.comp_compose.specs.Composed.{AreDefinitions, IsComposed}
use Rattle.comp_compose.specs.Composing.{Composing, AllAdded}
use Rattle.comp_compose.specs.Written.{Writes}
use Rattle.comp_compose.specs.declared.composer.Composer.{Composer}
use Rattle.comp_compose.specs.declared.error.PlanError.{PlanError}

-- behind the lines in front of what is left
pub record Going (composer : Composer) (plan : List ℕ) (left : Option Word) : Type 0 where
  pub before : List Line
  pub spent : ℕ
  pub composing : Composing composer before spent
  pub room : spent + size left ≤ length plan + 1
  pub small : spent ≤ length plan
  pub good : first_bad (lines_left left) ≡ None
  pub whole : said (lines plan) ≡ before ++ said (lines_left left)
  pub met : LinesMet before (said (lines_left left)) → LinesMet [] (said (lines plan))
  pub refused : (e : PlanError) → LinesRefused before (said (lines_left left)) e → LinesRefused [] (said (lines plan)) e
  pub spans : SpansBelow left (2 ^ 64)

spans_below : (left : Option Word) (n : ℕ) → Within left n → n < 2 ^ 64 → SpansBelow left (2 ^ 64)
spans_below None n h k = tt
spans_below (Some x) n h k = omega (arith, h, k)

pub begun : (composer : Composer) (plan : List ℕ) (left : Option Word) → Composing composer [] 0 → length plan ≤ plan_limit → first_bad (lines plan) ≡ None → lines_left left ≡ lines plan → Within left (length plan) → size left ≡ length plan + 1 → Going composer plan left
begun composer plan left c small good same within long = record {
  before = [];
  spent = 0;
  composing = c;
  room = omega (arith, long);
  small = omega arith;
  good = ap first_bad same ∙ good;
  whole = sym (ap said same);
  met = subst (λ ls. LinesMet [] (said ls) → LinesMet [] (said (lines plan))) (sym same) (λ h. h);
  refused = λ e. subst (λ ls. LinesRefused [] (said ls) e → LinesRefused [] (said (lines plan)) e) (sym same) (λ h. h);
  spans = spans_below left (length plan) within (omega (arith, small));
}

-- the first line of what is left
pub record Turn (composer : Composer) (plan : List ℕ) (left rest : Option Word) (x : Word) : Type 0 where
  pub going : Going composer plan left
  pub says : Line
  pub read : line (word_of x) ≡ Some says
  pub room : going.spent + length x.bytes.now ≤ plan_limit
  pub good : first_bad (lines_left rest) ≡ None
  pub first : said (lines_left left) ≡ says ∷ said (lines_left rest)

first_read : (x : w.Word) (ws : List w.Word) → first_bad (x ∷ ws) ≡ None → (l : Line) × (line x ≡ Some l) × (first_bad ws ≡ None) × (said (x ∷ ws) ≡ l ∷ said ws)
first_read x ws e = go (line x) refl e
  where
    go : (o : Option Line) → line x ≡ o → or_later x.at o (first_bad ws) ≡ None → (l : Line) × (line x ≡ Some l) × (first_bad ws ≡ None) × (in_front (line x) (said ws) ≡ l ∷ said ws)
    go None i h = absurd (cc)
    go (Some l) i h = (l, i, h, ap (λ o. in_front o (said ws)) i)

pub turn : (composer : Composer) (plan : List ℕ) (left rest : Option Word) (x : Word) → length plan ≤ plan_limit → Going composer plan left → lines_left left ≡ word_of x ∷ lines_left rest → size left ≡ length x.bytes.now + 1 + size rest → Turn composer plan left rest x
turn composer plan left rest x small g same long =
    let r = first_read (word_of x) (lines_left rest) (sym (ap first_bad same) ∙ g.good) in
    record { going = g; says = r.0; read = r.1; room = omega (arith, small, g.room, long); good = r.2; first = ap said same ∙ r.3 }

module _ (old : Composer) (plan : List ℕ) (left rest : Option Word) (x : Word) (t : Turn old plan left rest x) where
  -- the line is added
  pub goes_on : (new : Composer) → size left ≡ length x.bytes.now + 1 + size rest → SpansBelow rest (2 ^ 64) → Composing new (t.going.before ++ t.says ∷ []) (t.going.spent + length x.bytes.now) → AllMet t.going.before (demands t.says) → Going new plan rest
  goes_on new long spans c all = record {
    before = t.going.before ++ t.says ∷ [];
    spent = t.going.spent + length x.bytes.now;
    composing = c;
    room = omega (arith, t.going.room, long);
    small = omega (arith, t.going.room, long);
    good = t.good;
    whole = t.going.whole ∙ ap (λ ls. t.going.before ++ ls) t.first ∙ sym (append_assoc t.going.before (t.says ∷ []) (said (lines_left rest)));
    met = λ h. t.going.met (subst (LinesMet t.going.before) (sym t.first) (all, h));
    refused = λ e h. t.going.refused e (subst (λ ls. LinesRefused t.going.before ls e) (sym t.first) (inr (all, h)));
    spans = spans;
  }

  -- the line is refused
  pub stops : (e : PlanError) → FirstUnmet t.going.before (demands t.says) e → LinesRefused [] (said (lines plan)) e
  stops e h = t.going.refused e (subst (λ ls. LinesRefused t.going.before ls e) (sym t.first) (inl h))

  pub stops_or : (e : PlanError) → (e ≡ no_memory) ⊎ FirstUnmet t.going.before (demands t.says) e → (e ≡ no_memory) ⊎ LinesRefused [] (said (lines plan)) e
  stops_or e (inl m) = inl m
  stops_or e (inr h) = inr (stops e h)

-- behind the last line
pub ended : (composer : Composer) (plan : List ℕ) (left : Option Word) → length plan ≤ plan_limit → Going composer plan left → lines_left left ≡ [] → AllAdded composer plan
ended composer plan left small g none =
    let all : said (lines plan) ≡ g.before = g.whole ∙ ap (λ ls. g.before ++ said ls) none ∙ append-nil g.before in
    record {
      spent = g.spent;
      small = omega (arith, g.small, small);
      composing = subst (λ ls. Composing composer ls g.spent) (sym all) g.composing;
      met = g.met (subst (λ ls. LinesMet g.before (said ls)) (sym none) tt);
    }

-- the component of the lines
pub composed_of : (composer : Composer) (ls : List Line) (spent : ℕ) (out : List ℕ) (c : Composing composer ls spent) → spent ≤ plan_limit → out ≡ preamble ++ sections (groups (items_of c.definitions))
    → (ds : Defs) × AreDefinitions [] ls ds × Reads out (component_of_defs ds)
composed_of composer ls spent out c small written =
    let ds = c.definitions in
    let light : bulk (items_of ds) < 2 ^ 32 = omega (arith, c.light, small) in
    (ds, c.of_lines, record { fits = sections_fit (component_of_defs ds) (refl, refl, refl, c.fit, light_is_short (items_of ds) light); spelled = written })

-- and of the plan
pub accepted : (composer : Composer) (plan out : List ℕ) → length plan ≤ plan_limit → first_bad (lines plan) ≡ None → (a : AllAdded composer plan) → (ds : Defs) × AreDefinitions [] (said (lines plan)) ds × Reads out (component_of_defs ds) → IsComposed plan out
accepted composer plan out small good a r = record { definitions = r.0; accepted = record { small = small; read = good; met = a.met }; of_lines = r.1; reads = r.2 }
