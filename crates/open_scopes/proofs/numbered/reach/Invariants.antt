use Rattle.std.proofs.Common.{◌≡◌, ℕ, get_or, length, None}
use Rattle.open_scopes.proofs.numbered.reach.Given as goal

abbrev pub invariant-loop : goal.invariant-loop
invariant-loop l = (length l.slots.items ≡ l.counter) × ((i : ℕ) → get_or l.slots.items i None ≡ get_or l.initial.slots.items i None)
