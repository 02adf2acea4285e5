use Rattle.std.specs.List.{range_with_len}
use Rattle.std.proofs.Common.{◌≡◌}
use Rattle.comp_tree.proofs.places.first_places.Given as goal

abbrev pub invariant-loop-place : goal.invariant-loop-place
invariant-loop-place l = l.list.items ≡ range_with_len 0 l.place
