-- Runs, the tokens other than parentheses and annotations (WebAssembly text format, Tokens).
use Rattle.std.specs.Prelude.{◌≡◌, ℕ, ◌+◌, ◌-◌, ◌<◌, cond, ◌==◌, List, length, slice_index, slice_range, Result, Ok, Err}
use Rattle.std.specs.Str.{is_utf8}
use Rattle.std.specs.Char.{is_ascii_lowercase}
use Rattle.wast_tokens.specs.declared.token.TokenKind.{TokenKind}
use Rattle.wast_tokens.specs.declared.token.TokenKind.TheVariants.{Text, Id, Integer, Keyword, Reserved}
use Rattle.wast_tokens.specs.declared.error.LexFault.{LexFault}
use Rattle.wast_tokens.specs.declared.error.LexFault.TheVariants.{EmptyId, BadIdText}
use Rattle.wast_tokens.specs.declared.chars.Beginning.TheVariants.{Run}
use Rattle.wast_tokens.specs.Along.{Along}
use Rattle.wast_tokens.specs.Chars.{beginning_at, word_end}
use Rattle.wast_tokens.specs.Numbers.{is_integer}
use Rattle.wast_tokens.specs.Strings.{IsString, IsBrokenString, decoded}

-- a part of a run: an id character or a reserved mark, alone, or a string
pub data IsPart (text : List ℕ) (a b : ℕ) : Type 0 where
  character : beginning_at text a ≡ Run → ¬ (slice_index text a ≡ 34) → b ≡ a + 1 → IsPart text a b
  string : IsString text a b → IsPart text a b

-- a run: the longest sequence of parts
pub record IsRun (text : List ℕ) (a b : ℕ) : Type 0 where
  pub some : a < b
  pub parts : Along (IsPart text) a b
  pub longest : ¬ (beginning_at text b ≡ Run)

-- a run with a fault in a string
pub record IsBrokenRun (text : List ℕ) (a : ℕ) (fault : LexFault) (place : ℕ) : Type 0 where
  pub behind : ℕ
  pub parts : Along (IsPart text) a behind
  pub string : IsBrokenString text behind fault place

-- the kind of a run of id characters alone: `$` begins an id, which has a name
unfoldable pub word_kind : List ℕ → Result TokenKind LexFault
word_kind run =
    cond (slice_index run 0 == 36) (cond (length run == 1) (Err EmptyId) (Ok Id))
    (cond (is_integer run) (Ok Integer) (cond (is_ascii_lowercase (slice_index run 0)) (Ok Keyword) (Ok Reserved)))

-- the bytes that a string in quotes stands for
abbrev pub string_of : List ℕ → List ℕ
string_of bytes = decoded (slice_range bytes 1 (length bytes - 1))

-- the kind of a run that is `$` and a string with a value: an id with that name, which is UTF-8 and not empty
unfoldable pub named_kind : List ℕ → Result TokenKind LexFault
named_kind name = cond (length name == 0) (Err EmptyId) (cond (is_utf8 name) (Ok Id) (Err BadIdText))

-- the kind of the run from place a to place b, or its fault
pub data IsOfKind (text : List ℕ) (a b : ℕ) (kind : Result TokenKind LexFault) : Type 0 where
  word : word_end text a ≡ b → kind ≡ word_kind (slice_range text a b) → IsOfKind text a b kind
  string : IsString text a b → kind ≡ Ok Text → IsOfKind text a b kind
  quoted : slice_index text a ≡ 36 → IsString text (a + 1) b → kind ≡ named_kind (string_of (slice_range text (a + 1) b)) → IsOfKind text a b kind
  other : ¬ (word_end text a ≡ b) → ¬ (IsString text a b) → (slice_index text a ≡ 36 → ¬ (IsString text (a + 1) b)) → kind ≡ Ok Reserved → IsOfKind text a b kind
