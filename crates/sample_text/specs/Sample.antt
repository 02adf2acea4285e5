-- The text of a component of any length.
use Rattle.std.specs.Prelude.{ℕ, zero, suc, List, [], ◌++◌, codes}
use Rattle.std.specs.Fmt.{decimal}

-- what is listed by the type of a number: `u8` by the first, and the type before it by another
abbrev pub listed : ℕ → List ℕ
listed zero = codes "u8"
listed (suc before) = codes "$t" ++ decimal before

-- the type of a number
abbrev pub declared : ℕ → List ℕ
declared number = codes " (type $t" ++ decimal number ++ codes " (list " ++ listed number ++ codes "))"

-- the type of the inner component that lists it
abbrev pub used : ℕ → List ℕ
used number = codes " (type (list $t" ++ decimal number ++ codes "))"

-- a piece for each number from 0 to `count` - 1
abbrev pub each_below : ℕ → (ℕ → List ℕ) → List ℕ
each_below zero piece = []
each_below (suc count) piece = each_below count piece ++ piece count

-- the text: the types of all numbers below `count`, and an inner component with a list of each
abbrev pub sample_text : ℕ → List ℕ
sample_text count = codes "(component" ++ each_below count declared ++ codes " (component" ++ each_below count used ++ codes "))"
