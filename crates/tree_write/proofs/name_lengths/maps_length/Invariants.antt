use Rattle.std.proofs.Common.{◌≡◌, ◌+◌, ◌-◌, ◌^◌, ◌<◌, List, drop, length, min}
use Rattle.comp_model.specs.declared.Space.{Space}
use Rattle.comp_model.specs.NameMaps.{ItemName}
use Rattle.tree_write.specs.SpaceSums.{sum_at, Tells, maps_for}
use Rattle.tree_write.proofs.name_lengths.maps_length.Given as goal

-- the maps so far and those from here on
abbrev pub invariant-loop-space : goal.invariant-loop-space
invariant-loop-space l =
    ((f : Space → List ItemName) → ((s : Space) → Tells (sum_at s l.sums) (f s)) → min (l.bytes + length (maps_for f (drop l.space-index l.spaces))) (2 ^ 64 - 1) ≡ min (length (maps_for f l.spaces)) (2 ^ 64 - 1))
    × (l.bytes < 2 ^ 64)
