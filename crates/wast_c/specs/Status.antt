-- The numbers that cross to C: what a call answers, and what it is asked for.
use Rattle.std.specs.Prelude.{ℕ, Bool, nat_eq}

-- what was asked for is written
abbrev pub done : ℕ
done = 0

-- the text is refused
abbrev pub refused : ℕ
refused = 1

-- the buffer is too short
abbrev pub too_short : ℕ
too_short = 2

-- the bytes of the text aren't UTF-8
abbrev pub not_utf8 : ℕ
not_utf8 = 3

-- memory ran out
abbrev pub out_of_memory : ℕ
out_of_memory = 4

-- the flags aren't defined: they are 0 or 1
abbrev pub bad_flags : ℕ
bad_flags = 5

-- no refusal has this kind
abbrev pub no_kind : ℕ
no_kind = 6

-- references are read in their older forms too
abbrev pub legacy : ℕ → Bool
legacy flags = nat_eq flags 1
