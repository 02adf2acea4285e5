use Rattle.std.proofs.Common.{◌≡◌, ◌≤◌, [], map, replicate}
use Rattle.comp_list.proofs.spots.Spots.new.Given as goal

abbrev pub invariant-loop : goal.invariant-loop
invariant-loop l = (l.counter ≤ 13) × (map (λ c. c.items) l.chains.items ≡ replicate l.counter [])
