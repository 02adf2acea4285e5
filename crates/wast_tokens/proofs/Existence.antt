-- Each text is cut, or it has a first fault.
use Rattle.std.proofs.Common.{◌≡◌, ℕ, zero, suc, ◌+◌, ◌<◌, ◌≤◌, List, [], ◌∷◌, length, Result, Ok, Err, ◌⊎◌, refl, subst, ⊎_elim, inl, inr, arith}
use Rattle.std.proofs.lemmas.Bool.{cases_lt}
use Rattle.wast_tokens.specs.declared.token.Token.{Token}
use Rattle.wast_tokens.specs.declared.token.TokenKind.{TokenKind}
use Rattle.wast_tokens.specs.declared.token.TokenKind.TheVariants as kinds
use Rattle.wast_tokens.specs.declared.error.LexFault.{LexFault}
use Rattle.wast_tokens.specs.declared.error.LexFault.TheVariants.{UnclosedComment, BadChar, EmptyId, Glued}
use Rattle.wast_tokens.specs.declared.chars.Beginning.{Beginning}
use Rattle.wast_tokens.specs.declared.chars.Beginning.TheVariants as first
use Rattle.wast_tokens.specs.Chars.{beginning_at, word_end, line_end}
use Rattle.wast_tokens.specs.Runs.{IsRun, IsOfKind}
use Rattle.wast_tokens.specs.Tiling.{IsGap, IsToken, IsFault, Lexeme, Chain, kept, IsTiling, StopsAt}
use Rattle.wast_tokens.specs.Tiling.IsGap.{space, line, block}
use Rattle.wast_tokens.specs.Tiling.IsToken.{opening, closing, annotation, run}
use Rattle.wast_tokens.specs.Tiling.IsFault.{unclosed_comment, broken_run, wrong_run, no_name, broken_behind_name, glued, bad_char}
use Rattle.wast_tokens.specs.Tiling.Lexeme.{gap, token}
use Rattle.wast_tokens.proofs.Classes.{block_opens, run_or_not}
use Rattle.wast_tokens.proofs.Depth.{block_or_none}
use Rattle.wast_tokens.proofs.Parts.{run_or_broken, some_kind}
use Rattle.wast_tokens.proofs.Tilings.{gap_more, spells_more}

-- what begins at a place
data Begins (text : List ℕ) (a : ℕ) : Type 0 where
  a_gap : (b : ℕ) → IsGap text a b → Begins text a
  a_token : (kind : TokenKind) (b : ℕ) → IsToken text kind a b → Begins text a
  nothing : (fault : LexFault) (place : ℕ) → IsFault text a fault place → Begins text a

begins_block : (text : List ℕ) (a : ℕ) → beginning_at text a ≡ first.BlockComment → Begins text a
begins_block text a h =
    ⊎_elim
    (λ s. a_gap s.0 (block h s.1))
    (λ none. nothing UnclosedComment a (unclosed_comment h none refl refl))
    (block_or_none text a (block_opens text a h))

begins_annotation : (text : List ℕ) (a : ℕ) → beginning_at text a ≡ first.Annotation → Begins text a
begins_annotation text a h =
    let e : ℕ = word_end text (a + 2) in
    ⊎_elim
    (λ some. ⊎_elim
    (λ goes. ⊎_elim
    (λ r. nothing Glued e (glued r.0 h some r.1 refl refl))
    (λ s. nothing s.0 s.1 (broken_behind_name h some s.2))
    (run_or_broken text e goes))
    (λ stops. a_token kinds.Annotation e (annotation h refl refl some stops))
    (run_or_not (beginning_at text e)))
    (λ none. nothing EmptyId a (no_name h (omega arith) refl refl))
    (cases_lt (a + 2) e)

begins_kind : (text : List ℕ) (a b : ℕ) (kind : Result TokenKind LexFault) → beginning_at text a ≡ first.Run → IsRun text a b → IsOfKind text a b kind → Begins text a
begins_kind text a b (Ok kind) h r k = a_token kind b (run h r k)
begins_kind text a b (Err fault) h r k = nothing fault a (wrong_run b h r k refl)

begins_run : (text : List ℕ) (a : ℕ) → beginning_at text a ≡ first.Run → Begins text a
begins_run text a h =
    ⊎_elim
    (λ r. let k = some_kind text a r.0 in begins_kind text a r.0 k.0 h r.1 k.1)
    (λ s. nothing s.0 s.1 (broken_run h s.2))
    (run_or_broken text a h)

begins_by : (text : List ℕ) (a : ℕ) (x : Beginning) → a < length text → beginning_at text a ≡ x → Begins text a
begins_by text a first.Space lt h = a_gap (a + 1) (space h refl)
begins_by text a first.LineComment lt h = a_gap (line_end text (a + 2)) (line h refl)
begins_by text a first.BlockComment lt h = begins_block text a h
begins_by text a first.Annotation lt h = begins_annotation text a h
begins_by text a first.Opening lt h = a_token kinds.LParen (a + 1) (opening h refl refl)
begins_by text a first.Closing lt h = a_token kinds.RParen (a + 1) (closing h refl refl)
begins_by text a first.Run lt h = begins_run text a h
begins_by text a first.Nothing lt h = nothing BadChar a (bad_char h lt refl refl)

begins : (text : List ℕ) (a : ℕ) → a < length text → Begins text a
begins text a lt = begins_by text a (beginning_at text a) lt refl

-- a chain from a place to the end of the text, or to a fault
abbrev Cut : List ℕ → ℕ → Type 0
Cut text a = (ls : List Lexeme) × (b : ℕ) × Chain text a ls b × ((b ≡ length text) ⊎ ((fault : LexFault) × (place : ℕ) × IsFault text b fault place))

cut_more : (text : List ℕ) (a : ℕ) → Begins text a → ((b : ℕ) → a < b → b ≤ length text → Cut text b) → Cut text a
cut_more text a (a_gap b g) rest =
    let m = gap_more text a b g in
    let r = rest b m.0 m.1 in
    (gap b ∷ r.0, r.1, (g, r.2), r.3)
cut_more text a (a_token kind b s) rest =
    let m = spells_more text kind a b s in
    let r = rest b m.0 m.1 in
    let t : Token = record { kind = kind; start = a; end = b } in
    (token t ∷ r.0, r.1, (refl, s, r.2), r.3)
cut_more text a (nothing fault place f) rest = ([], a, refl, inr (fault, place, f))

cut_from : (text : List ℕ) (n a : ℕ) → a ≤ length text → length text ≤ a + n → Cut text a
cut_from text zero a le h = ([], a, refl, inl (omega arith))
cut_from text (suc n) a le h =
    ⊎_elim
    (λ lt. cut_more text a (begins text a lt) (λ b more within. cut_from text n b within (omega arith)))
    (λ end. ([], a, refl, inl (omega arith)))
    (cases_lt a (length text))

pub one_of_both : (text : List ℕ) → ((ts : List Token) × IsTiling text ts) ⊎ ((fault : LexFault) × (place : ℕ) × StopsAt text fault place)
one_of_both text =
    let c = cut_from text (length text) 0 (omega arith) (omega arith) in
    ⊎_elim
    (λ e. inl (kept c.0, (c.0, subst (Chain text 0 c.0) e c.2, refl)))
    (λ f. inr (f.0, f.1, (c.0, c.1, c.2, f.2)))
    c.3
