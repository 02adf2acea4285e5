use Rattle.std.proofs.Common.{◌≡◌, ◌++◌, ◌≤◌, drop, length}
use Rattle.comp_list.specs.Places.{each_place, joined}
use Rattle.comp_list.proofs.item_references.push_places.Given as goal

abbrev pub invariant-loop-place : goal.invariant-loop-place
invariant-loop-place l = (l.place ≤ length (each_place l.places)) × (l.found.items ++ joined (drop l.place (each_place l.places)) ≡ l.initial.found.items ++ joined (each_place l.places))
