-- What a call leaves in the buffer of its caller.
use Rattle.std.specs.Prelude.{◌≡◌, ◌<◌, ◌≤◌, ◌++◌, ◌⊎◌, ℕ, List, length, drop}
use Rattle.wast_c.specs.Status.{done, too_short}

-- The bytes stand at its beginning, behind them stands what stood there, and it is told how many they are.
abbrev pub Holds : List ℕ → List ℕ → List ℕ → ℕ → Type 0
Holds bytes old new needed = (length bytes ≤ length old) × (new ≡ bytes ++ drop (length bytes) old) × (needed ≡ length bytes)

-- It has no room for the bytes and stays as it was, and it is told how many they are.
abbrev pub Lacks : List ℕ → List ℕ → List ℕ → ℕ → Type 0
Lacks bytes old new needed = (length old < length bytes) × (new ≡ old) × (needed ≡ length bytes)

-- The bytes are handed out, by this status.
abbrev pub IsHandedOut : List ℕ → ℕ → List ℕ → List ℕ → ℕ → Type 0
IsHandedOut bytes status old new needed = ((status ≡ done) × Holds bytes old new needed) ⊎ ((status ≡ too_short) × Lacks bytes old new needed)
