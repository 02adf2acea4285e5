-- The tokens of a printed text, as readers have them.
use Rattle.std.specs.Prelude.{◌≡◌, ℕ, ◌+◌, ◌<◌, ◌^◌, nat_lt, true, false, ◌&&◌, slice_index, List, [], ◌∷◌, length, codes, ⊤}
use Rattle.std.specs.List.{list_all}
use Rattle.std.specs.Str.{is_utf8}
use Rattle.std.specs.Char.{is_ascii_lowercase}
use Rattle.wast_tokens.specs.declared.token.TokenKind.{TokenKind}
use Rattle.wast_tokens.specs.declared.token.TokenKind.TheVariants as kinds
use Rattle.wast_tokens.specs.Chars.{is_id_char}
use Rattle.wast_grammar.specs.Classes as class
use Rattle.wast_grammar.specs.Classes.{Class}
use Rattle.wast_grammar.specs.Tokens.{Tok, Text}
use Rattle.print_table.specs.Tokens as printed
use Rattle.print_table.specs.Tokens.{PrintedToken, spelled, gap, text_of_tokens}

abbrev pub kind_of : PrintedToken → TokenKind
kind_of printed.opening = kinds.LParen
kind_of printed.closing = kinds.RParen
kind_of (printed.note x) = kinds.Annotation
kind_of (printed.word x) = kinds.Keyword
kind_of (printed.numeral n) = kinds.Integer
kind_of (printed.string bs) = kinds.Text

-- what a grammar asks of it
abbrev pub class_of_printed : PrintedToken → Class
class_of_printed printed.opening = class.opening
class_of_printed printed.closing = class.closing
class_of_printed (printed.note x) = class.annotation x
class_of_printed (printed.word x) = class.keyword x
class_of_printed (printed.numeral n) = class.numeral
class_of_printed (printed.string bs) = class.string (is_utf8 bs)

-- a token that begins at an offset
abbrev pub tok_at : ℕ → PrintedToken → Tok
tok_at o x = record { kind = kind_of x; start = o; spelled = spelled x }

-- the tokens behind one that ends at an offset
abbrev pub toks_behind : ℕ → PrintedToken → List PrintedToken → List Tok
toks_behind o x [] = []
toks_behind o x (y ∷ ys) = tok_at (o + length (gap x y)) y ∷ toks_behind (o + length (gap x y) + length (spelled y)) y ys

-- the tokens of a text that begins at an offset
abbrev pub toks_from : ℕ → List PrintedToken → List Tok
toks_from o [] = []
toks_from o (x ∷ xs) = tok_at o x ∷ toks_behind (o + length (spelled x)) x xs

-- the tokens of a text
abbrev pub toks : List PrintedToken → List Tok
toks xs = toks_from 0 xs

abbrev pub cut_text : List PrintedToken → Text
cut_text xs = record { tokens = toks xs; size = length (text_of_tokens xs); legacy = false }

-- A token that can be printed: a word from `a` to `z` on, the annotation of a custom section, a number below 2^32, and bytes.
abbrev pub IsGood : PrintedToken → Type 0
IsGood printed.opening = ⊤
IsGood printed.closing = ⊤
IsGood (printed.note x) = x ≡ codes "(@custom"
IsGood (printed.word x) = (is_ascii_lowercase (slice_index x 0) && list_all is_id_char x) ≡ true
IsGood (printed.numeral n) = n < 2 ^ 32
IsGood (printed.string bs) = list_all (λ b. nat_lt b 256) bs ≡ true

abbrev pub AreGood : List PrintedToken → Type 0
AreGood [] = ⊤
AreGood (x ∷ xs) = IsGood x × AreGood xs
