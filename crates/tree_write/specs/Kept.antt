-- What a sink keeps: how many bytes were put into it, or the bytes themselves; and for how many more there is room.
use Rattle.std.specs.Prelude.{◌≡◌, ℕ, ◌+◌, ◌-◌, List, ◌++◌, length, drop, Bool, true, false, cond, nat_lt}

pub data Kept : Type 0 where
  counted : ℕ → ℕ → Kept
  written : ℕ → List ℕ → Kept
  full : Kept

-- bytes in front of those that were put before; where there is no room for them, nothing is known any more
unfoldable pub put : List ℕ → Kept → Kept
put xs (counted room n) = cond (nat_lt room (length xs)) full (counted (room - length xs) (length xs + n))
put xs (written room ys) = cond (nat_lt room (length xs)) full (written (room - length xs) (xs ++ ys))
put xs full = full

-- how many bytes were put
abbrev pub Taken : Kept → ℕ → Type 0
Taken (counted room n) k = k ≡ n
Taken (written room ys) k = k ≡ length ys
Taken full k = Unit {0}

-- a count, whose greatest value stands for every greater number
abbrev pub count_kept : ℕ → Kept
count_kept n = cond (nat_lt n 18_446_744_073_709_551_615) (counted (18_446_744_073_709_551_614 - n) n) full

-- a buffer that is filled from its end down to a place
abbrev pub buffer_kept : List ℕ → ℕ → Bool → Kept
buffer_kept items at true = full
buffer_kept items at false = cond (nat_lt (length items) at) full (written at (drop at items))
