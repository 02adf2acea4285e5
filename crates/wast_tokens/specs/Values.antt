-- What tokens stand for, by their bytes (WebAssembly text format, Values), and what of it is more than a part of the text.
use Rattle.std.specs.Prelude.{ℕ, ◌-◌, ◌^◌, ◌%◌, Bool, not, ◌&&◌, ◌||◌, ◌==◌, cond, nat_lt, nat_le, List, [], ◌∷◌, length, slice_index, slice_range, drop, Option, Some, None}
use Rattle.std.specs.List.{list_any}
pub use Rattle.wast_tokens.specs.Runs.{string_of}
use Rattle.wast_tokens.specs.Numbers.{unsigned, is_hexadecimal, number}

-- the bytes between the quotes of a string
abbrev pub between_quotes : List ℕ → List ℕ
between_quotes bytes = slice_range bytes 1 (length bytes - 1)

-- what a string stands for, if a `\` stands in it
abbrev pub escaped_string : List ℕ → Option (List ℕ)
escaped_string bytes = cond (list_any (λ b. b == 92) (between_quotes bytes)) (Some (string_of bytes)) None

-- an id is spelled with quotes
abbrev pub is_in_quotes : List ℕ → Bool
is_in_quotes bytes = slice_index bytes 1 == 34

-- the name of an id: what stands behind its `$`, or what a string there stands for
abbrev pub name_of : List ℕ → List ℕ
name_of bytes = cond (is_in_quotes bytes) (string_of (drop 1 bytes)) (drop 1 bytes)

-- the name of an id, if it is spelled with quotes and a `\` between them
abbrev pub escaped_name : List ℕ → Option (List ℕ)
escaped_name bytes = cond (is_in_quotes bytes) (escaped_string (drop 1 bytes)) None

-- how some bytes stand in a string: a `\` behind another
abbrev pub in_string : List ℕ → List ℕ
in_string [] = []
in_string (b ∷ bs) = cond (b == 92) (92 ∷ 92 ∷ in_string bs) (b ∷ in_string bs)

-- an integer has the sign `-`
abbrev pub is_negative : List ℕ → Bool
is_negative bytes = slice_index bytes 0 == 45

-- the number of an integer, without its sign
abbrev pub number_of : List ℕ → ℕ
number_of bytes = cond (is_hexadecimal (unsigned bytes)) (number 16 (drop 2 (unsigned bytes))) (number 10 (unsigned bytes))

-- an integer without `-`, below 2^k
abbrev pub is_unsigned : ℕ → List ℕ → Bool
is_unsigned k bytes = not (is_negative bytes) && nat_lt (number_of bytes) (2 ^ k)

-- an integer from -2^(k-1) up to below 2^(k-1)
abbrev pub is_signed : ℕ → List ℕ → Bool
is_signed k bytes = cond (is_negative bytes) (nat_le (number_of bytes) (2 ^ (k - 1))) (nat_lt (number_of bytes) (2 ^ (k - 1)))

-- an integer of k bits, written without or with a sign (WebAssembly text format, Integers: uninterpreted integers)
abbrev pub is_constant : ℕ → List ℕ → Bool
is_constant k bytes = is_unsigned k bytes || is_signed k bytes

-- the number of such an integer modulo 2^k
abbrev pub constant_of : ℕ → List ℕ → ℕ
constant_of k bytes = cond (is_negative bytes) ((2 ^ k - number_of bytes) % 2 ^ k) (number_of bytes)

-- an integer without `-`, below 2^32
abbrev pub is_numeral : List ℕ → Bool
is_numeral bytes = is_unsigned 32 bytes
