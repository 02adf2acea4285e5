-- Classes of characters, as bytes: each character of a class is ASCII.
use Rattle.std.specs.Prelude.{not, ℕ, ◌+◌, Bool, ◌||◌, ◌&&◌, ◌==◌, cond, List, slice_index, drop}
use Rattle.std.specs.List.{list_any, prefix_len}
use Rattle.std.specs.Char.{is_ascii_alphanumeric}
use Rattle.wast_tokens.specs.declared.chars.TheConstants.{ID_MARKS}
use Rattle.wast_tokens.specs.declared.chars.Beginning.{Beginning}
use Rattle.wast_tokens.specs.declared.chars.Beginning.TheVariants.{Space, LineComment, BlockComment, Annotation, Opening, Closing, Run, Nothing}

-- white space: space, tab, line feed, carriage return (WebAssembly text format, White Space)
unfoldable pub is_space : ℕ → Bool
is_space b = (b == 32) || (b == 9) || (b == 10) || (b == 13)

-- what ends a line: line feed, carriage return
unfoldable pub is_newline : ℕ → Bool
is_newline b = (b == 10) || (b == 13)

-- an id character: an ASCII digit, a letter or a mark (WebAssembly text format, Identifiers)
unfoldable pub is_id_char : ℕ → Bool
is_id_char b = is_ascii_alphanumeric b || list_any (λ m. m == b) ID_MARKS

-- a character that stands in reserved runs alone: `,` `;` `[` `]` `{` `}` (WebAssembly text format, Tokens)
unfoldable pub is_reserved_mark : ℕ → Bool
is_reserved_mark b = (b == 44) || (b == 59) || (b == 91) || (b == 93) || (b == 123) || (b == 125)

-- what begins with a byte, given the byte behind it, 0 at the end of the text
unfoldable pub begun_by : ℕ → ℕ → Beginning
begun_by b next =
    cond (is_id_char b || (b == 34)) Run
    (cond (is_space b) Space
    (cond (b == 40) (cond (next == 59) BlockComment (cond (next == 64) Annotation Opening))
    (cond (b == 41) Closing
    (cond ((b == 59) && (next == 59)) LineComment
    (cond (is_reserved_mark b) Run Nothing)))))

-- what begins at a place of a text
abbrev pub beginning_at : List ℕ → ℕ → Beginning
beginning_at text a = begun_by (slice_index text a) (slice_index text (a + 1))

-- where the id characters from a place on end
abbrev pub word_end : List ℕ → ℕ → ℕ
word_end text a = a + prefix_len is_id_char (drop a text)

-- where the line with a place ends: before the next line feed or carriage return, or at the end of the text
abbrev pub line_end : List ℕ → ℕ → ℕ
line_end text a = a + prefix_len (λ b. not (is_newline b)) (drop a text)
