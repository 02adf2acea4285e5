-- The end of a name as a number.
use Rattle.std.specs.Prelude.{ℕ, ◌+◌, ◌-◌, ◌*◌, ◌%◌, ◌^◌, List, [], ◌∷◌, length, drop}

-- a number with bytes behind it as its lowest, the last one the lowest, in 64 bits
abbrev pub lower_bytes : ℕ → List ℕ → ℕ
lower_bytes n [] = n
lower_bytes n (b ∷ bs) = lower_bytes ((((n * 256) % 2 ^ 64) + b) % 2 ^ 64) bs

-- the last eight bytes of a name as a number, the last byte the lowest
unfoldable pub ending : List ℕ → ℕ
ending t = lower_bytes 0 (drop (length t - 8) t)
