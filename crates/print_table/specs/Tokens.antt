-- Tokens that are printed, and how a text is made of them (WebAssembly text format, Lexical Format).
use Rattle.std.specs.Prelude.{ℕ, ◌+◌, ◌/◌, ◌%◌, ◌==◌, nat_lt, nat_le, Bool, not, ◌&&◌, ◌||◌, cond, List, [], ◌∷◌, ◌++◌}
use Rattle.std.specs.Fmt.{decimal}

-- a token as it is printed
pub data PrintedToken : Type 0 where
  opening : PrintedToken
  closing : PrintedToken
  -- an annotation, with the `(@` that opens its group
  note : List ℕ → PrintedToken
  word : List ℕ → PrintedToken
  numeral : ℕ → PrintedToken
  string : List ℕ → PrintedToken

-- ---- how a token is spelled

-- a hexadecimal digit in lower case
abbrev pub hex_digit : ℕ → ℕ
hex_digit d = cond (nat_lt d 10) (48 + d) (87 + d)

-- a byte that stands for itself in a string: one from 0x20 to 0x7e other than `"` and `\`
abbrev pub is_literal : ℕ → Bool
is_literal b = (nat_le 0x20 b && nat_le b 0x7e) && not ((b == 34) || (b == 92))

-- a byte within a string: itself, or `\` and two hexadecimal digits
abbrev pub escaped_byte : ℕ → List ℕ
escaped_byte b = cond (is_literal b) (b ∷ []) (92 ∷ hex_digit (b / 16) ∷ hex_digit (b % 16) ∷ [])

abbrev pub escaped : List ℕ → List ℕ
escaped [] = []
escaped (b ∷ bs) = escaped_byte b ++ escaped bs

-- a string in quotes
abbrev pub quoted : List ℕ → List ℕ
quoted bs = 34 ∷ (escaped bs ++ 34 ∷ [])

-- the bytes of a token
abbrev pub spelled : PrintedToken → List ℕ
spelled opening = 40 ∷ []
spelled closing = 41 ∷ []
spelled (note w) = w
spelled (word w) = w
spelled (numeral n) = decimal n
spelled (string bs) = quoted bs

-- ---- how a text is made of them

-- a space stands between two tokens, but not behind `(` and in front of `)`
abbrev pub gap : PrintedToken → PrintedToken → List ℕ
gap opening y = []
gap x closing = []
gap x y = 32 ∷ []

-- the tokens behind one
abbrev pub behind : PrintedToken → List PrintedToken → List ℕ
behind x [] = []
behind x (y ∷ ys) = gap x y ++ (spelled y ++ behind y ys)

-- the text of some tokens
abbrev pub text_of_tokens : List PrintedToken → List ℕ
text_of_tokens [] = []
text_of_tokens (x ∷ xs) = spelled x ++ behind x xs
