use Rattle.std.proofs.Common.{◌≡◌, ◌≤◌, ◌++◌, List, true, drop, replicate}
use Rattle.comp_model.specs.declared.Space.{Space}
use Rattle.comp_model.specs.NameMaps.{ItemName}
use Rattle.comp_model.specs.Spaces.{same_space}
use Rattle.tree_write.specs.Along.{along, ids_in, labels_in}
use Rattle.tree_write.specs.CountedItems.{items_in, most_items}
use Rattle.tree_write.specs.SpaceSums.{Tells}
use Rattle.tree_write.proofs.SpaceSums.{PartsSoFar}
use Rattle.tree_write.proofs.name_lengths.with_parts.Given as goal

-- the names so far and those of the parts that are left are those of all
abbrev pub invariant-loop-rest : goal.invariant-loop-rest
invariant-loop-rest l =
    (s u : Space) (ns : List ItemName) → same_space s u ≡ true → items_in l.before ≤ most_items → Tells l.fn.sum ns
    → PartsSoFar s u (items_in l.before) l.now l.at l.rest l.of (ns ++ along s (items_in l.before) l.from (drop l.from (ids_in l.of)) (drop l.from (labels_in l.of)) (replicate l.count u))

abbrev pub decreases-loop-rest : goal.decreases-loop-rest
decreases-loop-rest l = l.rest
