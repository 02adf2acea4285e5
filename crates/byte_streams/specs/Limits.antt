-- How much of an input is read.
use Rattle.std.specs.Prelude.{ℕ}

-- the most bytes that are read of an input: one more than a text has, so that a longer one is seen
abbrev pub read_limit : ℕ
read_limit = 67_108_865
