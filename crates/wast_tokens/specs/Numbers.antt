-- Digits, and the numbers that they write (WebAssembly text format, Integers).
use Rattle.std.specs.Prelude.{not, ℕ, Bool, false, ◌||◌, ◌&&◌, ◌==◌, cond, List, [], ◌∷◌, slice_index, drop}
use Rattle.std.specs.List.{filter}
use Rattle.std.specs.Char.{is_digit}
use Rattle.std.specs.Str.Parse.{digits_value}

-- digits of a radix, with an underscore behind a digit alone; `last` tells whether a digit stands before them, and a digit ends them
abbrev pub are_more_digits : ℕ → Bool → List ℕ → Bool
are_more_digits radix last [] = last
are_more_digits radix last (b ∷ bs) = (is_digit b radix || ((b == 95) && last)) && are_more_digits radix (is_digit b radix) bs

-- one digit of a radix or more, with single underscores between two
abbrev pub are_digits : ℕ → List ℕ → Bool
are_digits radix bs = are_more_digits radix false bs

-- the number that digits write, without their underscores
abbrev pub number : ℕ → List ℕ → ℕ
number radix bs = digits_value radix (filter (λ b. not (b == 95)) bs)

-- the bytes behind a sign, `+` or `-`
abbrev pub unsigned : List ℕ → List ℕ
unsigned bytes = cond ((slice_index bytes 0 == 43) || (slice_index bytes 0 == 45)) (drop 1 bytes) bytes

-- the bytes begin with `0x`
abbrev pub is_hexadecimal : List ℕ → Bool
is_hexadecimal bytes = (slice_index bytes 0 == 48) && (slice_index bytes 1 == 120)

-- an integer: a sign or none, then decimal digits, or `0x` and hexadecimal digits
abbrev pub is_integer : List ℕ → Bool
is_integer bytes = cond (is_hexadecimal (unsigned bytes)) (are_digits 16 (drop 2 (unsigned bytes))) (are_digits 10 (unsigned bytes))
