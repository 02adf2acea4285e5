-- Strings in quotes, character by character (WebAssembly text format, Strings).
use Rattle.std.specs.Prelude.{not, ◌≡◌, ℕ, zero, suc, ◌+◌, ◌*◌, ◌-◌, ◌<◌, Bool, false, ◌||◌, ◌&&◌, ◌==◌, cond, nat_lt, nat_le, List, [], ◌∷◌, ◌++◌, length, slice_index, slice_range, drop, Option, Some, None}
use Rattle.std.specs.List.{prefix_len}
use Rattle.std.specs.Char.{is_digit, digit_value, encode_utf8}
use Rattle.wast_tokens.specs.declared.strings.Character.{Character}
use Rattle.wast_tokens.specs.declared.strings.Value.{Value}
use Rattle.wast_tokens.specs.declared.strings.Value.TheVariants.{Byte, Scalar}
use Rattle.wast_tokens.specs.declared.error.LexFault.{LexFault}
use Rattle.wast_tokens.specs.declared.error.LexFault.TheVariants.{UnclosedString, BadStringChar, BadEscape}
use Rattle.wast_tokens.specs.Along.{Along}
use Rattle.wast_tokens.specs.Numbers.{are_digits, number}

-- a byte that stands for itself: one of a character from U+0020 on, other than `"`, `\` and U+007F
unfoldable pub is_plain : ℕ → Bool
is_plain b = nat_le 32 b && not ((b == 34) || (b == 92) || (b == 127))

-- what `\` and a letter or mark stand for: `\t` `\n` `\r` `\"` `\'` `\\`
unfoldable pub short_escape : ℕ → Option ℕ
short_escape c =
    cond (c == 116) (Some 9)
    (cond (c == 110) (Some 10)
    (cond (c == 114) (Some 13)
    (cond ((c == 34) || (c == 39) || (c == 92)) (Some c) None)))

-- a Unicode scalar value: below 0x110000, and no surrogate
unfoldable pub is_scalar : ℕ → Bool
is_scalar n = nat_lt n 0xd800 || (nat_le 0xe000 n && nat_lt n 0x11_0000)

-- how many hexadecimal digits and underscores stand at a place
abbrev pub digits_at : List ℕ → ℕ → ℕ
digits_at text a = prefix_len (λ b. is_digit b 16 || (b == 95)) (drop a text)

-- a scalar value in hexadecimal and `}`, given its digits and the byte behind them
abbrev pub scalar_of : List ℕ → ℕ → Option Character
scalar_of digits next =
    cond (are_digits 16 digits && (next == 125) && is_scalar (number 16 digits))
    (Some (record { len = length digits + 4; value = Scalar (number 16 digits) })) None

-- an escape, given the two bytes behind its `\` and what `\u{` would stand for there
abbrev pub escape_of : ℕ → ℕ → Option Character → Option Character
escape_of c d scalar = elim (short_escape c) [
  | Some b ↦ Some (record { len = 2; value = Byte b })
  | None ↦ cond ((c == 117) && (d == 123)) scalar
      (cond (is_digit c 16 && is_digit d 16) (Some (record { len = 3; value = Byte (16 * digit_value c + digit_value d) })) None)
]

-- the escape whose `\` stands at a place
unfoldable pub escape_at : List ℕ → ℕ → Option Character
escape_at text a =
    escape_of (slice_index text (a + 1)) (slice_index text (a + 2))
    (scalar_of (slice_range text (a + 3) (a + 3 + digits_at text (a + 3))) (slice_index text (a + 3 + digits_at text (a + 3))))

-- the character of a string that stands at a place
abbrev pub character_at : List ℕ → ℕ → Option Character
character_at text a =
    cond (is_plain (slice_index text a)) (Some (record { len = 1; value = Byte (slice_index text a) }))
    (cond (slice_index text a == 92) (escape_at text a) None)

-- from place a to place b stands a character of a string
abbrev pub IsCharacter : List ℕ → ℕ → ℕ → Type 0
IsCharacter text a b = (c : Character) × (character_at text a ≡ Some c) × (b ≡ a + c.len)

-- a string: characters between two quotes
pub record IsString (text : List ℕ) (a b : ℕ) : Type 0 where
  pub opened : slice_index text a ≡ 34
  pub close : ℕ
  pub characters : Along (IsCharacter text) (a + 1) close
  pub closed : slice_index text close ≡ 34
  pub end : b ≡ close + 1

-- what is wrong with a string behind some of its characters: the text ends, a `\` begins no escape, or no character of a string stands there
pub data IsBroken (text : List ℕ) (a m : ℕ) (fault : LexFault) (place : ℕ) : Type 0 where
  unclosed : fault ≡ UnclosedString → m ≡ length text → place ≡ a → IsBroken text a m fault place
  bad_escape : fault ≡ BadEscape → slice_index text m ≡ 92 → escape_at text m ≡ None → place ≡ m → IsBroken text a m fault place
  bad_char : fault ≡ BadStringChar → m < length text → is_plain (slice_index text m) ≡ false → ¬ (slice_index text m ≡ 92) → ¬ (slice_index text m ≡ 34) → place ≡ m → IsBroken text a m fault place

-- a string that begins at a place and has a fault
pub record IsBrokenString (text : List ℕ) (a : ℕ) (fault : LexFault) (place : ℕ) : Type 0 where
  pub opened : slice_index text a ≡ 34
  pub behind : ℕ
  pub characters : Along (IsCharacter text) (a + 1) behind
  pub broken : IsBroken text a behind fault place

-- the bytes that a character stands for: one, or a scalar value's in UTF-8
abbrev pub bytes_of : Value → List ℕ
bytes_of (Byte b) = b ∷ []
bytes_of (Scalar c) = encode_utf8 c

-- the character at the beginning of some bytes; a byte that begins none stands for itself
abbrev pub first_of : ℕ → Option Character → Character
first_of b None = record { len = 1; value = Byte b }
first_of b (Some c) = c

-- what characters stand for, behind the first n bytes
abbrev pub decoded_behind : ℕ → List ℕ → List ℕ
decoded_behind n [] = []
decoded_behind zero (b ∷ bs) =
    let c = first_of b (character_at (b ∷ bs) 0) in
    bytes_of c.value ++ decoded_behind (c.len - 1) bs
decoded_behind (suc n) (b ∷ bs) = decoded_behind n bs

-- what characters stand for
abbrev pub decoded : List ℕ → List ℕ
decoded bytes = decoded_behind 0 bytes
