-- Steps from place to place, one behind the other.
use Rattle.std.specs.Prelude.{◌≡◌, ℕ}

-- from the one place to the other by such steps
pub data Along (IsStep : ℕ → ℕ → Type 0) : ℕ → ℕ → Type 0 where
  done : (a b : ℕ) → a ≡ b → Along IsStep a b
  more : (a m b : ℕ) → IsStep a m → Along IsStep m b → Along IsStep a b
