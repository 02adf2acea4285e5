-- What holds of lexemes, chains and tilings.
use Rattle.std.proofs.Common.{◌≡◌, ℕ, ◌+◌, ◌<◌, ◌≤◌, List, [], ◌∷◌, ◌++◌, length, Result, Ok, Err, sym, refl, ap, ◌∙◌, subst, ⊎_elim, arith}
use Rattle.std.proofs.lemmas.Bool.{cases_lt}
use Rattle.wast_tokens.specs.declared.token.Token.{Token}
use Rattle.wast_tokens.specs.declared.token.TokenKind.{TokenKind}
use Rattle.wast_tokens.specs.declared.error.LexFault.{LexFault}
use Rattle.wast_tokens.specs.declared.error.LexFault.TheVariants.{Glued}
use Rattle.wast_tokens.specs.declared.runs.Stop.{Stop}
use Rattle.wast_tokens.specs.declared.runs.Stop.TheVariants.{Fault, NoMemory}
use Rattle.wast_tokens.specs.declared.chars.Beginning.{Beginning}
use Rattle.wast_tokens.specs.declared.chars.Beginning.TheVariants as first
use Rattle.wast_tokens.specs.Chars.{beginning_at, word_end, line_end}
use Rattle.wast_tokens.specs.Along.{Along}
use Rattle.wast_tokens.specs.Runs.{IsPart, IsRun, IsBrokenRun, IsOfKind}
use Rattle.wast_tokens.specs.Tiling.{IsGap, IsToken, IsFault, Lexeme, Chain, kept, IsTiling, StopsAt}
use Rattle.wast_tokens.specs.Tiling.TakesMemory.{quoted}
use Rattle.wast_tokens.specs.Steps.{IsStop, IsStoppedRun, HasPlaceBelow, refusal_of}
use Rattle.wast_tokens.specs.Lexing.{LexRefuses}
use Rattle.wast_tokens.specs.Tiling.IsGap.{space, line, block}
use Rattle.wast_tokens.specs.Tiling.IsToken.{opening, closing, annotation, run}
use Rattle.wast_tokens.specs.Tiling.IsFault.{unclosed_comment, broken_run, wrong_run, no_name, broken_behind_name, glued, bad_char}
use Rattle.wast_tokens.specs.Tiling.Lexeme.{gap, token}
use Rattle.wast_tokens.proofs.Classes.{beginning_within, line_within, annotation_within, word_within, line_end_within}
use Rattle.wast_tokens.proofs.Depth.{block_same, block_within}
use Rattle.wast_tokens.proofs.Quotes.{SameFault}
use Rattle.wast_tokens.proofs.Parts.{run_same, run_not_broken, broken_run_same, kind_same, run_more, run_begins, broken_begins, broken_place, run_from}

-- what begins lexemes is told apart by a number
code : Beginning → ℕ
code first.Space = 0
code first.LineComment = 1
code first.BlockComment = 2
code first.Annotation = 3
code first.Opening = 4
code first.Closing = 5
code first.Run = 6
code first.Nothing = 7

-- the first bytes of a gap, a token and a fault

gap_begins : (text : List ℕ) (a b : ℕ) → IsGap text a b → (x : Beginning) × (beginning_at text a ≡ x) × (code x < 3)
unfolding code
gap_begins text a b (space h _) = (first.Space, h, omega arith)
gap_begins text a b (line h _) = (first.LineComment, h, omega arith)
gap_begins text a b (block h _) = (first.BlockComment, h, omega arith)

token_begins : (text : List ℕ) (k : TokenKind) (a b : ℕ) → IsToken text k a b → (x : Beginning) × (beginning_at text a ≡ x) × (2 < code x) × (code x < 7)
unfolding code
token_begins text k a b (opening h _ _) = (first.Opening, h, omega arith, omega arith)
token_begins text k a b (closing h _ _) = (first.Closing, h, omega arith, omega arith)
token_begins text k a b (annotation h _ _ _ _) = (first.Annotation, h, omega arith, omega arith)
token_begins text k a b (run h _ _) = (first.Run, h, omega arith, omega arith)

code_same : (x y z : Beginning) → x ≡ y → x ≡ z → code y ≡ code z
code_same x y z g h = ap code (sym g ∙ h)

nothing_code : code first.Nothing ≡ 7
unfolding code
nothing_code = refl

small_some : (text : List ℕ) (a : ℕ) (x : Beginning) → beginning_at text a ≡ x → code x < 7 → beginning_at text a ≡ first.Nothing → ⊥
small_some text a x h lt e = absurd (omega (arith, code_same _ _ _ h e, nothing_code, lt))

pub gap_some : (text : List ℕ) (a b : ℕ) → IsGap text a b → beginning_at text a ≡ first.Nothing → ⊥
gap_some text a b g = let h = gap_begins text a b g in small_some text a h.0 h.1 (omega (arith, h.2))

pub token_some : (text : List ℕ) (k : TokenKind) (a b : ℕ) → IsToken text k a b → beginning_at text a ≡ first.Nothing → ⊥
token_some text k a b s = let h = token_begins text k a b s in small_some text a h.0 h.1 h.3

-- each lexeme takes some of the text

pub gap_more : (text : List ℕ) (a b : ℕ) → IsGap text a b → (a < b) × (b ≤ length text)
gap_more text a b (space h e) = let lt = beginning_within text a (gap_some text a b (space h e)) in (omega arith, omega arith)
gap_more text a b (line h e) =
    let from : a + 2 ≤ line_end text (a + 2) = omega arith in
    let le = line_end_within text (a + 2) (line_within text a h) in
    (omega (arith, from, e), omega (arith, le, e))
gap_more text a b (block h s) = block_within text a b s

pub spells_more : (text : List ℕ) (k : TokenKind) (a b : ℕ) → IsToken text k a b → (a < b) × (b ≤ length text)
spells_more text k a b (opening h e f) = let lt = beginning_within text a (token_some text k a b (opening h e f)) in (omega arith, omega arith)
spells_more text k a b (closing h e f) = let lt = beginning_within text a (token_some text k a b (closing h e f)) in (omega arith, omega arith)
spells_more text k a b (annotation h _ e some _) =
    let le = word_within text (a + 2) (annotation_within text a h) in (omega arith, omega (arith, le, e))
spells_more text k a b (run _ r _) = (r.some, run_more text a b r)

-- at one place begins one lexeme at most

-- the kind and the end of a token
pub record Same (k l : TokenKind) (b c : ℕ) : Type 0 where
  pub kind : k ≡ l
  pub end : b ≡ c

differ : (text : List ℕ) (a : ℕ) (x y : Beginning) → beginning_at text a ≡ x → beginning_at text a ≡ y → (code x ≡ code y → ⊥) → ⊥
differ text a x y h g ne = ne (code_same _ _ _ h g)

ok_same : (k l : TokenKind) → ◌≡◌ {A = Result TokenKind LexFault} (Ok k) (Ok l) → k ≡ l
ok_same k l e = ap (λ r. elim r [ Ok x ↦ x | Err f ↦ k ]) e

err_same : (f g : LexFault) → ◌≡◌ {A = Result TokenKind LexFault} (Err f) (Err g) → f ≡ g
err_same f g e = ap (λ r. elim r [ Ok x ↦ f | Err h ↦ h ]) e

ok_not_err : (k : TokenKind) (f : LexFault) → ◌≡◌ {A = Result TokenKind LexFault} (Ok k) (Err f) → ⊥
ok_not_err k f e = absurd (cc)

spells_same : (text : List ℕ) (k l : TokenKind) (a b c : ℕ) → IsToken text k a b → IsToken text l a c → Same k l b c
unfolding code
spells_same text k l a b c (opening _ e f) (opening _ g h) = record { kind = e ∙ sym g; end = f ∙ sym h }
spells_same text k l a b c (opening h _ _) (closing g _ _) = absurd (differ text a first.Opening first.Closing h g (λ e. absurd (omega (arith, e))))
spells_same text k l a b c (opening h _ _) (annotation g _ _ _ _) = absurd (differ text a first.Opening first.Annotation h g (λ e. absurd (omega (arith, e))))
spells_same text k l a b c (opening h _ _) (run g _ _) = absurd (differ text a first.Opening first.Run h g (λ e. absurd (omega (arith, e))))
spells_same text k l a b c (closing h _ _) (opening g _ _) = absurd (differ text a first.Closing first.Opening h g (λ e. absurd (omega (arith, e))))
spells_same text k l a b c (closing _ e f) (closing _ g h) = record { kind = e ∙ sym g; end = f ∙ sym h }
spells_same text k l a b c (closing h _ _) (annotation g _ _ _ _) = absurd (differ text a first.Closing first.Annotation h g (λ e. absurd (omega (arith, e))))
spells_same text k l a b c (closing h _ _) (run g _ _) = absurd (differ text a first.Closing first.Run h g (λ e. absurd (omega (arith, e))))
spells_same text k l a b c (annotation h _ _ _ _) (opening g _ _) = absurd (differ text a first.Annotation first.Opening h g (λ e. absurd (omega (arith, e))))
spells_same text k l a b c (annotation h _ _ _ _) (closing g _ _) = absurd (differ text a first.Annotation first.Closing h g (λ e. absurd (omega (arith, e))))
spells_same text k l a b c (annotation _ e f _ _) (annotation _ g h _ _) = record { kind = e ∙ sym g; end = f ∙ sym h }
spells_same text k l a b c (annotation h _ _ _ _) (run g _ _) = absurd (differ text a first.Annotation first.Run h g (λ e. absurd (omega (arith, e))))
spells_same text k l a b c (run h _ _) (opening g _ _) = absurd (differ text a first.Run first.Opening h g (λ e. absurd (omega (arith, e))))
spells_same text k l a b c (run h _ _) (closing g _ _) = absurd (differ text a first.Run first.Closing h g (λ e. absurd (omega (arith, e))))
spells_same text k l a b c (run h _ _) (annotation g _ _ _ _) = absurd (differ text a first.Run first.Annotation h g (λ e. absurd (omega (arith, e))))
spells_same text k l a b c (run _ r e) (run _ s f) =
    let end : b ≡ c = run_same text a b c r s in
    record { kind = ok_same k l (kind_same text a c (Ok k) (Ok l) s.some (subst (λ n. IsOfKind text a n (Ok k)) end e) f); end = end }

gap_same : (text : List ℕ) (a b c : ℕ) → IsGap text a b → IsGap text a c → b ≡ c
unfolding code
gap_same text a b c (space _ e) (space _ f) = e ∙ sym f
gap_same text a b c (space h _) (line g _) = absurd (differ text a first.Space first.LineComment h g (λ e. absurd (omega (arith, e))))
gap_same text a b c (space h _) (block g _) = absurd (differ text a first.Space first.BlockComment h g (λ e. absurd (omega (arith, e))))
gap_same text a b c (line h _) (space g _) = absurd (differ text a first.LineComment first.Space h g (λ e. absurd (omega (arith, e))))
gap_same text a b c (line _ e) (line _ f) = e ∙ sym f
gap_same text a b c (line h _) (block g _) = absurd (differ text a first.LineComment first.BlockComment h g (λ e. absurd (omega (arith, e))))
gap_same text a b c (block h _) (space g _) = absurd (differ text a first.BlockComment first.Space h g (λ e. absurd (omega (arith, e))))
gap_same text a b c (block h _) (line g _) = absurd (differ text a first.BlockComment first.LineComment h g (λ e. absurd (omega (arith, e))))
gap_same text a b c (block _ s) (block _ t) = block_same text a b c s t

gap_no_token : (text : List ℕ) (k : TokenKind) (a b c : ℕ) → IsGap text a b → IsToken text k a c → ⊥
gap_no_token text k a b c g s =
    let h = gap_begins text a b g in
    let i = token_begins text k a c s in
    absurd (omega (arith, code_same _ _ _ h.1 i.1, h.2, i.2))

token_same : (t u : Token) → t.kind ≡ u.kind → t.start ≡ u.start → t.end ≡ u.end → t ≡ u
token_same t u e f g = λ i. record { kind = e i; start = f i; end = g i }

-- where a fault stands, no lexeme begins

fault_no_gap : (text : List ℕ) (a b : ℕ) (fault : LexFault) (place : ℕ) → IsFault text a fault place → IsGap text a b → ⊥
unfolding code
fault_no_gap text a b fault place (unclosed_comment h _ _ _) (space g _) = absurd (differ text a first.BlockComment first.Space h g (λ e. absurd (omega (arith, e))))
fault_no_gap text a b fault place (unclosed_comment h _ _ _) (line g _) = absurd (differ text a first.BlockComment first.LineComment h g (λ e. absurd (omega (arith, e))))
fault_no_gap text a b fault place (unclosed_comment _ none _ _) (block _ s) = none b s
fault_no_gap text a b fault place (broken_run h _) (space g _) = absurd (differ text a first.Run first.Space h g (λ e. absurd (omega (arith, e))))
fault_no_gap text a b fault place (broken_run h _) (line g _) = absurd (differ text a first.Run first.LineComment h g (λ e. absurd (omega (arith, e))))
fault_no_gap text a b fault place (broken_run h _) (block g _) = absurd (differ text a first.Run first.BlockComment h g (λ e. absurd (omega (arith, e))))
fault_no_gap text a b fault place (wrong_run _ h _ _ _) (space g _) = absurd (differ text a first.Run first.Space h g (λ e. absurd (omega (arith, e))))
fault_no_gap text a b fault place (wrong_run _ h _ _ _) (line g _) = absurd (differ text a first.Run first.LineComment h g (λ e. absurd (omega (arith, e))))
fault_no_gap text a b fault place (wrong_run _ h _ _ _) (block g _) = absurd (differ text a first.Run first.BlockComment h g (λ e. absurd (omega (arith, e))))
fault_no_gap text a b fault place (no_name h _ _ _) (space g _) = absurd (differ text a first.Annotation first.Space h g (λ e. absurd (omega (arith, e))))
fault_no_gap text a b fault place (no_name h _ _ _) (line g _) = absurd (differ text a first.Annotation first.LineComment h g (λ e. absurd (omega (arith, e))))
fault_no_gap text a b fault place (no_name h _ _ _) (block g _) = absurd (differ text a first.Annotation first.BlockComment h g (λ e. absurd (omega (arith, e))))
fault_no_gap text a b fault place (broken_behind_name h _ _) (space g _) = absurd (differ text a first.Annotation first.Space h g (λ e. absurd (omega (arith, e))))
fault_no_gap text a b fault place (broken_behind_name h _ _) (line g _) = absurd (differ text a first.Annotation first.LineComment h g (λ e. absurd (omega (arith, e))))
fault_no_gap text a b fault place (broken_behind_name h _ _) (block g _) = absurd (differ text a first.Annotation first.BlockComment h g (λ e. absurd (omega (arith, e))))
fault_no_gap text a b fault place (glued _ h _ _ _ _) (space g _) = absurd (differ text a first.Annotation first.Space h g (λ e. absurd (omega (arith, e))))
fault_no_gap text a b fault place (glued _ h _ _ _ _) (line g _) = absurd (differ text a first.Annotation first.LineComment h g (λ e. absurd (omega (arith, e))))
fault_no_gap text a b fault place (glued _ h _ _ _ _) (block g _) = absurd (differ text a first.Annotation first.BlockComment h g (λ e. absurd (omega (arith, e))))
fault_no_gap text a b fault place (bad_char h _ _ _) (space g _) = absurd (differ text a first.Nothing first.Space h g (λ e. absurd (omega (arith, e))))
fault_no_gap text a b fault place (bad_char h _ _ _) (line g _) = absurd (differ text a first.Nothing first.LineComment h g (λ e. absurd (omega (arith, e))))
fault_no_gap text a b fault place (bad_char h _ _ _) (block g _) = absurd (differ text a first.Nothing first.BlockComment h g (λ e. absurd (omega (arith, e))))

-- an annotation that no run follows has a name and isn't glued

fault_no_token : (text : List ℕ) (k : TokenKind) (a b : ℕ) (fault : LexFault) (place : ℕ) → IsFault text a fault place → IsToken text k a b → ⊥
unfolding code
fault_no_token text k a b fault place (unclosed_comment h _ _ _) (opening g _ _) = absurd (differ text a first.BlockComment first.Opening h g (λ e. absurd (omega (arith, e))))
fault_no_token text k a b fault place (unclosed_comment h _ _ _) (closing g _ _) = absurd (differ text a first.BlockComment first.Closing h g (λ e. absurd (omega (arith, e))))
fault_no_token text k a b fault place (unclosed_comment h _ _ _) (annotation g _ _ _ _) = absurd (differ text a first.BlockComment first.Annotation h g (λ e. absurd (omega (arith, e))))
fault_no_token text k a b fault place (unclosed_comment h _ _ _) (run g _ _) = absurd (differ text a first.BlockComment first.Run h g (λ e. absurd (omega (arith, e))))
fault_no_token text k a b fault place (broken_run h _) (opening g _ _) = absurd (differ text a first.Run first.Opening h g (λ e. absurd (omega (arith, e))))
fault_no_token text k a b fault place (broken_run h _) (closing g _ _) = absurd (differ text a first.Run first.Closing h g (λ e. absurd (omega (arith, e))))
fault_no_token text k a b fault place (broken_run h _) (annotation g _ _ _ _) = absurd (differ text a first.Run first.Annotation h g (λ e. absurd (omega (arith, e))))
fault_no_token text k a b fault place (broken_run _ s) (run _ r _) = run_not_broken text a b fault place r s
fault_no_token text k a b fault place (wrong_run _ h _ _ _) (opening g _ _) = absurd (differ text a first.Run first.Opening h g (λ e. absurd (omega (arith, e))))
fault_no_token text k a b fault place (wrong_run _ h _ _ _) (closing g _ _) = absurd (differ text a first.Run first.Closing h g (λ e. absurd (omega (arith, e))))
fault_no_token text k a b fault place (wrong_run _ h _ _ _) (annotation g _ _ _ _) = absurd (differ text a first.Run first.Annotation h g (λ e. absurd (omega (arith, e))))
fault_no_token text k a b fault place (wrong_run c _ s f _) (run _ r e) =
    let end : b ≡ c = run_same text a b c r s in
    ok_not_err k fault (kind_same text a c (Ok k) (Err fault) s.some (subst (λ n. IsOfKind text a n (Ok k)) end e) f)
fault_no_token text k a b fault place (no_name h _ _ _) (opening g _ _) = absurd (differ text a first.Annotation first.Opening h g (λ e. absurd (omega (arith, e))))
fault_no_token text k a b fault place (no_name h _ _ _) (closing g _ _) = absurd (differ text a first.Annotation first.Closing h g (λ e. absurd (omega (arith, e))))
fault_no_token text k a b fault place (no_name _ none _ _) (annotation _ _ e some _) = absurd (omega (arith, none, e, some))
fault_no_token text k a b fault place (no_name h _ _ _) (run g _ _) = absurd (differ text a first.Annotation first.Run h g (λ e. absurd (omega (arith, e))))
fault_no_token text k a b fault place (broken_behind_name h _ _) (opening g _ _) = absurd (differ text a first.Annotation first.Opening h g (λ e. absurd (omega (arith, e))))
fault_no_token text k a b fault place (broken_behind_name h _ _) (closing g _ _) = absurd (differ text a first.Annotation first.Closing h g (λ e. absurd (omega (arith, e))))
fault_no_token text k a b fault place (broken_behind_name _ _ s) (annotation _ _ e _ stops) =
    stops (broken_begins text b fault place (subst (λ n. IsBrokenRun text n fault place) (sym e) s))
fault_no_token text k a b fault place (broken_behind_name h _ _) (run g _ _) = absurd (differ text a first.Annotation first.Run h g (λ e. absurd (omega (arith, e))))
fault_no_token text k a b fault place (glued _ h _ _ _ _) (opening g _ _) = absurd (differ text a first.Annotation first.Opening h g (λ e. absurd (omega (arith, e))))
fault_no_token text k a b fault place (glued _ h _ _ _ _) (closing g _ _) = absurd (differ text a first.Annotation first.Closing h g (λ e. absurd (omega (arith, e))))
fault_no_token text k a b fault place (glued c _ _ r _ _) (annotation _ _ e _ stops) =
    stops (run_begins text b c (subst (λ n. IsRun text n c) (sym e) r))
fault_no_token text k a b fault place (glued _ h _ _ _ _) (run g _ _) = absurd (differ text a first.Annotation first.Run h g (λ e. absurd (omega (arith, e))))
fault_no_token text k a b fault place (bad_char h _ _ _) (opening g _ _) = absurd (differ text a first.Nothing first.Opening h g (λ e. absurd (omega (arith, e))))
fault_no_token text k a b fault place (bad_char h _ _ _) (closing g _ _) = absurd (differ text a first.Nothing first.Closing h g (λ e. absurd (omega (arith, e))))
fault_no_token text k a b fault place (bad_char h _ _ _) (annotation g _ _ _ _) = absurd (differ text a first.Nothing first.Annotation h g (λ e. absurd (omega (arith, e))))
fault_no_token text k a b fault place (bad_char h _ _ _) (run g _ _) = absurd (differ text a first.Nothing first.Run h g (λ e. absurd (omega (arith, e))))

fault_same : (text : List ℕ) (a : ℕ) (f g : LexFault) (p q : ℕ) → IsFault text a f p → IsFault text a g q → SameFault f g p q
unfolding code
fault_same text a f g p q (unclosed_comment _ _ e h) (unclosed_comment _ _ i j) = record { fault = e ∙ sym i; place = h ∙ sym j }
fault_same text a f g p q (unclosed_comment h _ _ _) (broken_run k _) = absurd (differ text a first.BlockComment first.Run h k (λ e. absurd (omega (arith, e))))
fault_same text a f g p q (unclosed_comment h _ _ _) (wrong_run _ k _ _ _) = absurd (differ text a first.BlockComment first.Run h k (λ e. absurd (omega (arith, e))))
fault_same text a f g p q (unclosed_comment h _ _ _) (no_name k _ _ _) = absurd (differ text a first.BlockComment first.Annotation h k (λ e. absurd (omega (arith, e))))
fault_same text a f g p q (unclosed_comment h _ _ _) (broken_behind_name k _ _) = absurd (differ text a first.BlockComment first.Annotation h k (λ e. absurd (omega (arith, e))))
fault_same text a f g p q (unclosed_comment h _ _ _) (glued _ k _ _ _ _) = absurd (differ text a first.BlockComment first.Annotation h k (λ e. absurd (omega (arith, e))))
fault_same text a f g p q (unclosed_comment h _ _ _) (bad_char k _ _ _) = absurd (differ text a first.BlockComment first.Nothing h k (λ e. absurd (omega (arith, e))))
fault_same text a f g p q (broken_run h _) (unclosed_comment k _ _ _) = absurd (differ text a first.Run first.BlockComment h k (λ e. absurd (omega (arith, e))))
fault_same text a f g p q (broken_run _ s) (broken_run _ t) = broken_run_same text a f g p q s t
fault_same text a f g p q (broken_run _ s) (wrong_run c _ r _ _) = absurd (run_not_broken text a c f p r s)
fault_same text a f g p q (broken_run h _) (no_name k _ _ _) = absurd (differ text a first.Run first.Annotation h k (λ e. absurd (omega (arith, e))))
fault_same text a f g p q (broken_run h _) (broken_behind_name k _ _) = absurd (differ text a first.Run first.Annotation h k (λ e. absurd (omega (arith, e))))
fault_same text a f g p q (broken_run h _) (glued _ k _ _ _ _) = absurd (differ text a first.Run first.Annotation h k (λ e. absurd (omega (arith, e))))
fault_same text a f g p q (broken_run h _) (bad_char k _ _ _) = absurd (differ text a first.Run first.Nothing h k (λ e. absurd (omega (arith, e))))
fault_same text a f g p q (wrong_run _ h _ _ _) (unclosed_comment k _ _ _) = absurd (differ text a first.Run first.BlockComment h k (λ e. absurd (omega (arith, e))))
fault_same text a f g p q (wrong_run c _ r _ _) (broken_run _ s) = absurd (run_not_broken text a c g q r s)
fault_same text a f g p q (wrong_run b _ r e h) (wrong_run c _ s i j) =
    let end : b ≡ c = run_same text a b c r s in
    record { fault = err_same f g (kind_same text a c (Err f) (Err g) s.some (subst (λ n. IsOfKind text a n (Err f)) end e) i); place = h ∙ sym j }
fault_same text a f g p q (wrong_run _ h _ _ _) (no_name k _ _ _) = absurd (differ text a first.Run first.Annotation h k (λ e. absurd (omega (arith, e))))
fault_same text a f g p q (wrong_run _ h _ _ _) (broken_behind_name k _ _) = absurd (differ text a first.Run first.Annotation h k (λ e. absurd (omega (arith, e))))
fault_same text a f g p q (wrong_run _ h _ _ _) (glued _ k _ _ _ _) = absurd (differ text a first.Run first.Annotation h k (λ e. absurd (omega (arith, e))))
fault_same text a f g p q (wrong_run _ h _ _ _) (bad_char k _ _ _) = absurd (differ text a first.Run first.Nothing h k (λ e. absurd (omega (arith, e))))
fault_same text a f g p q (no_name h _ _ _) (unclosed_comment k _ _ _) = absurd (differ text a first.Annotation first.BlockComment h k (λ e. absurd (omega (arith, e))))
fault_same text a f g p q (no_name h _ _ _) (broken_run k _) = absurd (differ text a first.Annotation first.Run h k (λ e. absurd (omega (arith, e))))
fault_same text a f g p q (no_name h _ _ _) (wrong_run _ k _ _ _) = absurd (differ text a first.Annotation first.Run h k (λ e. absurd (omega (arith, e))))
fault_same text a f g p q (no_name _ _ e h) (no_name _ _ i j) = record { fault = e ∙ sym i; place = h ∙ sym j }
fault_same text a f g p q (no_name _ none _ _) (broken_behind_name _ some _) = absurd (omega (arith, none, some))
fault_same text a f g p q (no_name _ none _ _) (glued _ _ some _ _ _) = absurd (omega (arith, none, some))
fault_same text a f g p q (no_name h _ _ _) (bad_char k _ _ _) = absurd (differ text a first.Annotation first.Nothing h k (λ e. absurd (omega (arith, e))))
fault_same text a f g p q (broken_behind_name h _ _) (unclosed_comment k _ _ _) = absurd (differ text a first.Annotation first.BlockComment h k (λ e. absurd (omega (arith, e))))
fault_same text a f g p q (broken_behind_name h _ _) (broken_run k _) = absurd (differ text a first.Annotation first.Run h k (λ e. absurd (omega (arith, e))))
fault_same text a f g p q (broken_behind_name h _ _) (wrong_run _ k _ _ _) = absurd (differ text a first.Annotation first.Run h k (λ e. absurd (omega (arith, e))))
fault_same text a f g p q (broken_behind_name _ some _) (no_name _ none _ _) = absurd (omega (arith, none, some))
fault_same text a f g p q (broken_behind_name _ _ s) (broken_behind_name _ _ t) = broken_run_same text (word_end text (a + 2)) f g p q s t
fault_same text a f g p q (broken_behind_name _ _ s) (glued c _ _ r _ _) = absurd (run_not_broken text (word_end text (a + 2)) c f p r s)
fault_same text a f g p q (broken_behind_name h _ _) (bad_char k _ _ _) = absurd (differ text a first.Annotation first.Nothing h k (λ e. absurd (omega (arith, e))))
fault_same text a f g p q (glued _ h _ _ _ _) (unclosed_comment k _ _ _) = absurd (differ text a first.Annotation first.BlockComment h k (λ e. absurd (omega (arith, e))))
fault_same text a f g p q (glued _ h _ _ _ _) (broken_run k _) = absurd (differ text a first.Annotation first.Run h k (λ e. absurd (omega (arith, e))))
fault_same text a f g p q (glued _ h _ _ _ _) (wrong_run _ k _ _ _) = absurd (differ text a first.Annotation first.Run h k (λ e. absurd (omega (arith, e))))
fault_same text a f g p q (glued _ _ some _ _ _) (no_name _ none _ _) = absurd (omega (arith, none, some))
fault_same text a f g p q (glued c _ _ r _ _) (broken_behind_name _ _ s) = absurd (run_not_broken text (word_end text (a + 2)) c g q r s)
fault_same text a f g p q (glued _ _ _ _ e h) (glued _ _ _ _ i j) = record { fault = e ∙ sym i; place = h ∙ sym j }
fault_same text a f g p q (glued _ h _ _ _ _) (bad_char k _ _ _) = absurd (differ text a first.Annotation first.Nothing h k (λ e. absurd (omega (arith, e))))
fault_same text a f g p q (bad_char h _ _ _) (unclosed_comment k _ _ _) = absurd (differ text a first.Nothing first.BlockComment h k (λ e. absurd (omega (arith, e))))
fault_same text a f g p q (bad_char h _ _ _) (broken_run k _) = absurd (differ text a first.Nothing first.Run h k (λ e. absurd (omega (arith, e))))
fault_same text a f g p q (bad_char h _ _ _) (wrong_run _ k _ _ _) = absurd (differ text a first.Nothing first.Run h k (λ e. absurd (omega (arith, e))))
fault_same text a f g p q (bad_char h _ _ _) (no_name k _ _ _) = absurd (differ text a first.Nothing first.Annotation h k (λ e. absurd (omega (arith, e))))
fault_same text a f g p q (bad_char h _ _ _) (broken_behind_name k _ _) = absurd (differ text a first.Nothing first.Annotation h k (λ e. absurd (omega (arith, e))))
fault_same text a f g p q (bad_char h _ _ _) (glued _ k _ _ _ _) = absurd (differ text a first.Nothing first.Annotation h k (λ e. absurd (omega (arith, e))))
fault_same text a f g p q (bad_char _ _ e h) (bad_char _ _ i j) = record { fault = e ∙ sym i; place = h ∙ sym j }

-- where a fault stands, text is left
fault_within : (text : List ℕ) (a : ℕ) (fault : LexFault) (place : ℕ) → IsFault text a fault place → a < length text
unfolding code
fault_within text a fault place (unclosed_comment h _ _ _) = beginning_within text a (small_some text a first.BlockComment h (omega arith))
fault_within text a fault place (broken_run h _) = beginning_within text a (small_some text a first.Run h (omega arith))
fault_within text a fault place (wrong_run _ h _ _ _) = beginning_within text a (small_some text a first.Run h (omega arith))
fault_within text a fault place (no_name h _ _ _) = beginning_within text a (small_some text a first.Annotation h (omega arith))
fault_within text a fault place (broken_behind_name h _ _) = beginning_within text a (small_some text a first.Annotation h (omega arith))
fault_within text a fault place (glued _ h _ _ _ _) = beginning_within text a (small_some text a first.Annotation h (omega arith))
fault_within text a fault place (bad_char _ lt _ _) = lt

-- a fault shows in the text
pub fault_place : (text : List ℕ) (a : ℕ) (fault : LexFault) (place : ℕ) → IsFault text a fault place → place < length text
unfolding code
fault_place text a fault place (unclosed_comment h none e p) = let lt = fault_within text a fault place (unclosed_comment h none e p) in omega (arith, lt, p)
fault_place text a fault place (broken_run _ s) = broken_place text a fault place s
fault_place text a fault place (wrong_run b h r k p) = let lt = fault_within text a fault place (wrong_run b h r k p) in omega (arith, lt, p)
fault_place text a fault place (no_name h none e p) = let lt = fault_within text a fault place (no_name h none e p) in omega (arith, lt, p)
fault_place text a fault place (broken_behind_name _ _ s) = broken_place text (word_end text (a + 2)) fault place s
fault_place text a fault place (glued b _ _ r _ p) = let m = run_more text (word_end text (a + 2)) b r in let some = r.some in omega (arith, m, some, p)
fault_place text a fault place (bad_char _ lt _ p) = omega (arith, lt, p)

-- no lexeme begins at the place
pub record IsStuck (text : List ℕ) (a : ℕ) : Type 0 where
  pub gaps : (b : ℕ) → IsGap text a b → ⊥
  pub tokens : (k : TokenKind) (b : ℕ) → IsToken text k a b → ⊥

end_stuck : (text : List ℕ) → IsStuck text (length text)
end_stuck text = record {
  gaps = λ b g. let m = gap_more text (length text) b g in absurd (omega (arith, m.0, m.1));
  tokens = λ k b s. let m = spells_more text k (length text) b s in absurd (omega (arith, m.0, m.1));
}

fault_stuck : (text : List ℕ) (a : ℕ) (fault : LexFault) (place : ℕ) → IsFault text a fault place → IsStuck text a
fault_stuck text a fault place f = record {
  gaps = λ b g. fault_no_gap text a b fault place f g;
  tokens = λ k b s. fault_no_token text k a b fault place f s;
}

-- two chains, each up to a place at which no lexeme begins, are one

pub record SameChain (ls ms : List Lexeme) (b c : ℕ) : Type 0 where
  pub lexemes : ls ≡ ms
  pub place : b ≡ c

same_more : (l m : Lexeme) (ls ms : List Lexeme) (b c : ℕ) → l ≡ m → SameChain ls ms b c → SameChain (l ∷ ls) (m ∷ ms) b c
same_more l m ls ms b c e s = record { lexemes = λ i. e i ∷ s.lexemes i; place = s.place }

pub chain_same : (text : List ℕ) (a : ℕ) (ls ms : List Lexeme) (b c : ℕ) → Chain text a ls b → Chain text a ms c → IsStuck text b → IsStuck text c → SameChain ls ms b c
chain_same text a [] [] b c h g sb sc = record { lexemes = refl; place = sym h ∙ g }
chain_same text a [] (gap e ∷ ms) b c h g sb sc = absurd (sb.gaps e (subst (λ n. IsGap text n e) h g.0))
chain_same text a [] (token u ∷ ms) b c h g sb sc = absurd (sb.tokens u.kind u.end (subst (λ n. IsToken text u.kind n u.end) h g.1))
chain_same text a (gap e ∷ ls) [] b c h g sb sc = absurd (sc.gaps e (subst (λ n. IsGap text n e) g h.0))
chain_same text a (token t ∷ ls) [] b c h g sb sc = absurd (sc.tokens t.kind t.end (subst (λ n. IsToken text t.kind n t.end) g h.1))
chain_same text a (gap e ∷ ls) (gap f ∷ ms) b c h g sb sc =
    let same : e ≡ f = gap_same text a e f h.0 g.0 in
    same_more (gap e) (gap f) ls ms b c (ap gap same) (chain_same text e ls ms b c h.1 (subst (λ n. Chain text n ms c) (sym same) g.1) sb sc)
chain_same text a (gap e ∷ ls) (token u ∷ ms) b c h g sb sc = absurd (gap_no_token text u.kind a e u.end h.0 g.1)
chain_same text a (token t ∷ ls) (gap f ∷ ms) b c h g sb sc = absurd (gap_no_token text t.kind a f t.end g.0 h.1)
chain_same text a (token t ∷ ls) (token u ∷ ms) b c h g sb sc =
    let same : Same t.kind u.kind t.end u.end = spells_same text t.kind u.kind a t.end u.end h.1 g.1 in
    let head : t ≡ u = token_same t u same.kind (h.0 ∙ sym g.0) same.end in
    same_more (token t) (token u) ls ms b c (ap token head) (chain_same text t.end ls ms b c h.2 (subst (λ n. Chain text n ms c) (sym same.end) g.2) sb sc)

-- a chain with one lexeme more

pub chain_gap : (text : List ℕ) (a : ℕ) (ls : List Lexeme) (b e : ℕ) → Chain text a ls b → IsGap text b e → Chain text a (ls ++ gap e ∷ []) e
chain_gap text a [] b e h g = (subst (λ n. IsGap text n e) (sym h) g, refl)
chain_gap text a (gap f ∷ ls) b e h g = (h.0, chain_gap text f ls b e h.1 g)
chain_gap text a (token t ∷ ls) b e h g = (h.0, h.1, chain_gap text t.end ls b e h.2 g)

pub chain_token : (text : List ℕ) (a : ℕ) (ls : List Lexeme) (b : ℕ) (t : Token) → Chain text a ls b → t.start ≡ b → IsToken text t.kind b t.end → Chain text a (ls ++ token t ∷ []) t.end
chain_token text a [] b t h at s = (at ∙ sym h, subst (λ n. IsToken text t.kind n t.end) (sym h) s, refl)
chain_token text a (gap f ∷ ls) b t h at s = (h.0, chain_token text f ls b t h.1 at s)
chain_token text a (token u ∷ ls) b t h at s = (h.0, h.1, chain_token text u.end ls b t h.2 at s)

pub kept_gap : (ls : List Lexeme) (e : ℕ) → kept (ls ++ gap e ∷ []) ≡ kept ls
kept_gap [] e = refl
kept_gap (gap f ∷ ls) e = kept_gap ls e
kept_gap (token t ∷ ls) e = ap (λ z. t ∷ z) (kept_gap ls e)

pub kept_token : (ls : List Lexeme) (t : Token) → kept (ls ++ token t ∷ []) ≡ kept ls ++ t ∷ []
kept_token [] t = refl
kept_token (gap f ∷ ls) t = kept_token ls t
kept_token (token u ∷ ls) t = ap (λ z. u ∷ z) (kept_token ls t)

pub chain_within : (text : List ℕ) (a : ℕ) (ls : List Lexeme) (b : ℕ) → a ≤ length text → Chain text a ls b → b ≤ length text
chain_within text a [] b le h = subst (λ n. n ≤ length text) h le
chain_within text a (gap e ∷ ls) b le h = chain_within text e ls b (gap_more text a e h.0).1 h.1
chain_within text a (token t ∷ ls) b le h = chain_within text t.end ls b (spells_more text t.kind a t.end h.1).1 h.2

-- a chain that reaches the end of the text is a tiling
pub tiling_of : (text : List ℕ) (ts : List Token) (b : ℕ) → (ls : List Lexeme) × Chain text 0 ls b × (ts ≡ kept ls) → length text ≤ b → IsTiling text ts
tiling_of text ts b h reached =
    let le : b ≤ length text = chain_within text 0 h.0 b (omega arith) h.1 in
    let e : b ≡ length text = omega arith in
    (h.0, subst (Chain text 0 h.0) e h.1, h.2)

-- the laws of the cut

pub cut_once : (text : List ℕ) (ts us : List Token) → IsTiling text ts → IsTiling text us → ts ≡ us
cut_once text ts us h g =
    let s = chain_same text 0 h.0 g.0 (length text) (length text) h.1 g.1 (end_stuck text) (end_stuck text) in
    h.2 ∙ ap kept s.lexemes ∙ sym g.2

pub never_both : (text : List ℕ) (ts : List Token) (fault : LexFault) (place : ℕ) → IsTiling text ts → StopsAt text fault place → ⊥
never_both text ts fault place h g =
    let s = chain_same text 0 h.0 g.0 (length text) g.1 h.1 g.2 (end_stuck text) (fault_stuck text g.1 fault place g.3) in
    absurd (omega (arith, s.place, fault_within text g.1 fault place g.3))

pub one_fault : (text : List ℕ) (f g : LexFault) (p q : ℕ) → StopsAt text f p → StopsAt text g q → (f ≡ g) × (p ≡ q)
one_fault text f g p q h k =
    let s = chain_same text 0 h.0 k.0 h.1 k.1 h.2 k.2 (fault_stuck text h.1 f p h.3) (fault_stuck text k.1 g q k.3) in
    let r = fault_same text k.1 f g p q (subst (λ n. IsFault text n f p) s.place h.3) k.3 in
    (r.fault, r.place)

-- a run directly behind the name of an annotation
pub glued_fault : (text : List ℕ) (a w b : ℕ) → beginning_at text a ≡ first.Annotation → w ≡ word_end text (a + 2) → (w ≡ a + 2 → ⊥) → beginning_at text w ≡ first.Run → Along (IsPart text) w b → (beginning_at text b ≡ first.Run → ⊥) → IsFault text a Glued w
glued_fault text a w b h e ne goes along stops =
    let run : IsRun text (word_end text (a + 2)) b = subst (λ n. IsRun text n b) e (run_from text w b goes along stops) in
    let from : a + 2 ≤ word_end text (a + 2) = omega arith in
    glued b h (⊎_elim (λ lt. lt) (λ ge. absurd (ne (omega arith))) (cases_lt (a + 2) (word_end text (a + 2)))) run refl e

-- what stops a run stops the cut
pub stopped_run : (text : List ℕ) (a : ℕ) (s : Stop) → beginning_at text a ≡ first.Run → IsStoppedRun text a s → IsStop text a s
stopped_run text a (Fault f) h r = broken_run h r
stopped_run text a NoMemory h r = quoted r.0 r.1 r.2 r.3

-- a cut that stops is a refusal

pub stop_below : (text : List ℕ) (a : ℕ) (s : Stop) → length text ≤ 67_108_864 → IsStop text a s → HasPlaceBelow 4_294_967_296 s
stop_below text a (Fault f) small h = let lt = fault_place text a f.fault f.place h in omega (arith, lt, small)
stop_below text a NoMemory small h = tt

pub stop_refusal : (text : List ℕ) (a : ℕ) (s : Stop) (ls : List Lexeme) → length text ≤ 67_108_864 → Chain text 0 ls a → IsStop text a s → LexRefuses text (refusal_of s).kind (refusal_of s).offset
stop_refusal text a (Fault f) ls small chain h = (small, (ls, a, chain, h))
stop_refusal text a NoMemory ls small chain h = (small, (ls, a, chain, h), refl)
