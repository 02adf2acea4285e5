-- How a text is cut into tokens and what stands between them (WebAssembly text format, Lexical Format).
-- A place is an offset in bytes, and what stands from place a to place b are the bytes a, .., b - 1.
use Rattle.std.specs.Prelude.{◌≡◌, ℕ, ◌+◌, ◌<◌, List, [], ◌∷◌, length, slice_index, Ok, Err}
use Rattle.wast_tokens.specs.declared.token.Token.{Token}
use Rattle.wast_tokens.specs.declared.token.TokenKind.{TokenKind}
use Rattle.wast_tokens.specs.declared.token.TokenKind.TheVariants as kinds
use Rattle.wast_tokens.specs.declared.error.LexFault.{LexFault}
use Rattle.wast_tokens.specs.declared.error.LexFault.TheVariants.{UnclosedComment, BadChar, EmptyId, Glued}
use Rattle.wast_tokens.specs.declared.chars.Beginning.TheVariants as first
use Rattle.wast_tokens.specs.Chars.{beginning_at, word_end, line_end}
use Rattle.wast_tokens.specs.Blocks.{IsBlock}
use Rattle.wast_tokens.specs.Strings.{IsString}
use Rattle.wast_tokens.specs.Runs.{IsRun, IsBrokenRun, IsOfKind}

-- what stands between tokens: a character of white space, a line comment without the end of its line, or a block comment
pub data IsGap (text : List ℕ) (a b : ℕ) : Type 0 where
  space : beginning_at text a ≡ first.Space → b ≡ a + 1 → IsGap text a b
  line : beginning_at text a ≡ first.LineComment → b ≡ line_end text (a + 2) → IsGap text a b
  block : beginning_at text a ≡ first.BlockComment → IsBlock text a b → IsGap text a b

-- a token of a kind: a parenthesis, an annotation (`(@` and a name that no run follows), or a whole run
pub data IsToken (text : List ℕ) (kind : TokenKind) (a b : ℕ) : Type 0 where
  opening : beginning_at text a ≡ first.Opening → kind ≡ kinds.LParen → b ≡ a + 1 → IsToken text kind a b
  closing : beginning_at text a ≡ first.Closing → kind ≡ kinds.RParen → b ≡ a + 1 → IsToken text kind a b
  annotation : beginning_at text a ≡ first.Annotation → kind ≡ kinds.Annotation → b ≡ word_end text (a + 2) → a + 2 < b
      → ¬ (beginning_at text b ≡ first.Run) → IsToken text kind a b
  run : beginning_at text a ≡ first.Run → IsRun text a b → IsOfKind text a b (Ok kind) → IsToken text kind a b

-- why nothing begins at place a, and where this shows
pub data IsFault (text : List ℕ) (a : ℕ) (fault : LexFault) (place : ℕ) : Type 0 where
  unclosed_comment : beginning_at text a ≡ first.BlockComment → ((b : ℕ) → ¬ (IsBlock text a b))
      → fault ≡ UnclosedComment → place ≡ a → IsFault text a fault place
  broken_run : beginning_at text a ≡ first.Run → IsBrokenRun text a fault place → IsFault text a fault place
  wrong_run : (b : ℕ) → beginning_at text a ≡ first.Run → IsRun text a b → IsOfKind text a b (Err fault) → place ≡ a → IsFault text a fault place
  no_name : beginning_at text a ≡ first.Annotation → word_end text (a + 2) ≡ a + 2 → fault ≡ EmptyId → place ≡ a → IsFault text a fault place
  broken_behind_name : beginning_at text a ≡ first.Annotation → a + 2 < word_end text (a + 2)
      → IsBrokenRun text (word_end text (a + 2)) fault place → IsFault text a fault place
  glued : (b : ℕ) → beginning_at text a ≡ first.Annotation → a + 2 < word_end text (a + 2)
      → IsRun text (word_end text (a + 2)) b → fault ≡ Glued → place ≡ word_end text (a + 2) → IsFault text a fault place
  bad_char : beginning_at text a ≡ first.Nothing → a < length text → fault ≡ BadChar → place ≡ a → IsFault text a fault place

-- a gap up to a place, or a token
pub data Lexeme : Type 0 where
  gap : ℕ → Lexeme
  token : Token → Lexeme

-- from place a to place b these stand one behind the other
abbrev pub Chain : List ℕ → ℕ → List Lexeme → ℕ → Type 0
Chain text a [] b = a ≡ b
Chain text a (gap e ∷ ls) b = IsGap text a e × Chain text e ls b
Chain text a (token t ∷ ls) b = (t.start ≡ a) × IsToken text t.kind a t.end × Chain text t.end ls b

-- the tokens among them
abbrev pub kept : List Lexeme → List Token
kept [] = []
kept (gap e ∷ ls) = kept ls
kept (token t ∷ ls) = t ∷ kept ls

-- the whole text is these tokens, with gaps between them
abbrev pub IsTiling : List ℕ → List Token → Type 0
IsTiling text ts = (ls : List Lexeme) × Chain text 0 ls (length text) × (ts ≡ kept ls)

-- the text is cut up to some place, and no further for a fault that shows at a place
abbrev pub StopsAt : List ℕ → LexFault → ℕ → Type 0
StopsAt text fault place = (ls : List Lexeme) × (a : ℕ) × Chain text 0 ls a × IsFault text a fault place

-- what takes memory at a place: a token, or a run that is `$` and a string
pub data TakesMemory (text : List ℕ) (a : ℕ) : Type 0 where
  token : (kind : TokenKind) (b : ℕ) → IsToken text kind a b → TakesMemory text a
  quoted : (b : ℕ) → IsRun text a b → slice_index text a ≡ 36 → IsString text (a + 1) b → TakesMemory text a

-- behind what is cut off stands what takes memory
abbrev pub HasToken : List ℕ → Type 0
HasToken text = (ls : List Lexeme) × (a : ℕ) × Chain text 0 ls a × TakesMemory text a
