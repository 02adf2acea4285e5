-- How the tokens whose value is asked for are spelled: as much of it as the value needs.
use Rattle.std.specs.Prelude.{◌≡◌, ℕ, ◌-◌, ◌<◌, ◌≤◌, List, length, slice_index, slice_range, drop, true}
use Rattle.std.specs.Str.{is_utf8}
use Rattle.wast_tokens.specs.declared.token.Token.{Token}
use Rattle.wast_tokens.specs.declared.token.TokenKind.{TokenKind}
use Rattle.wast_tokens.specs.declared.token.TokenKind.TheVariants.{Annotation, Text, Id}
use Rattle.wast_tokens.specs.Values.{string_of}

-- quotes at both ends
pub record IsStringSpelling (bytes : List ℕ) : Type 0 where
  pub some : 2 ≤ length bytes
  pub opened : slice_index bytes 0 ≡ 34
  pub closed : slice_index bytes (length bytes - 1) ≡ 34

-- `$` with something behind it; if that begins with a quote, it is a string that stands for characters
pub record IsIdSpelling (bytes : List ℕ) : Type 0 where
  pub some : 2 ≤ length bytes
  pub dollar : slice_index bytes 0 ≡ 36
  pub string : slice_index bytes 1 ≡ 34 → IsStringSpelling (drop 1 bytes)
  pub utf8 : slice_index bytes 1 ≡ 34 → is_utf8 (string_of (drop 1 bytes)) ≡ true

-- `(@` with something behind it
pub record IsAnnotationSpelling (bytes : List ℕ) : Type 0 where
  pub some : 2 < length bytes
  pub opened : slice_index bytes 0 ≡ 40
  pub marked : slice_index bytes 1 ≡ 64

-- how a token of a kind is spelled, if its value is asked for
pub record IsSpelledAs (kind : TokenKind) (bytes : List ℕ) : Type 0 where
  pub annotation : kind ≡ Annotation → IsAnnotationSpelling bytes
  pub string : kind ≡ Text → IsStringSpelling bytes
  pub id : kind ≡ Id → IsIdSpelling bytes

-- a token of a text is spelled as those of its kind are
abbrev pub IsSpelled : List ℕ → Token → Type 0
IsSpelled text t = IsSpelledAs t.kind (slice_range text t.start t.end)
