-- Runs of equal value types, found from the front: one run is open, of so many values, none at first.
use Rattle.std.specs.Prelude.{ℕ, zero, suc, ◌+◌, Bool, false, cond, List, [], ◌∷◌, ◌++◌}
use Rattle.comp_model.specs.Core.{CoreValue}
use Rattle.core_model.specs.Types.{same_value}

-- the open run, where it has a value
abbrev pub open_run : ℕ → CoreValue → List (ℕ × CoreValue)
open_run zero v = []
open_run (suc n) v = (suc n, v) ∷ []

-- whether a value belongs to the open run
abbrev pub extends : ℕ → CoreValue → CoreValue → Bool
extends zero v w = false
extends (suc n) v w = same_value v w

-- the runs of an open run and what follows it
abbrev pub runs_behind : ℕ → CoreValue → List CoreValue → List (ℕ × CoreValue)
runs_behind n v [] = open_run n v
runs_behind n v (w ∷ ws) = cond (extends n v w) (runs_behind (n + 1) v ws) (open_run n v ++ runs_behind 1 w ws)
