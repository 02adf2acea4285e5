-- How many types a sample is to have, as a word says it.
use Rattle.std.specs.Prelude.{ℕ, List, [], ◌∷◌, Bool, false, not, ◌&&◌, ◌||◌, cond, nat_eq, nat_lt, nat_le, length, Option, Some, None}
use Rattle.std.specs.Str.{all_ascii_digits}
use Rattle.std.specs.Str.Parse.{digits_value}

-- a word begins with a plus, or with a zero that isn't all of it
abbrev pub begins_otherwise : List ℕ → Bool
begins_otherwise [] = false
begins_otherwise (c ∷ cs) = nat_eq c 43 || (nat_eq c 48 && nat_lt 0 (length cs))

-- a word is digits alone, without a leading zero; `0` alone is a numeral
abbrev pub is_numeral : List ℕ → Bool
is_numeral [] = false
is_numeral (c ∷ cs) = all_ascii_digits (c ∷ cs) && not (nat_eq c 48 && nat_lt 0 (length cs))

-- the number that a word says, where it is a numeral of at most 100,000
abbrev pub count_of : List ℕ → Option ℕ
count_of word = cond (is_numeral word && nat_le (digits_value 10 word) 100_000) (Some (digits_value 10 word)) None
