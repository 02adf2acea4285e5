use Rattle.std.proofs.Common.{◌≤◌, ◌++◌, List, drop}
use Rattle.comp_model.specs.declared.Space.{Space}
use Rattle.comp_model.specs.CoreModules.{CoreModule}
use Rattle.comp_model.specs.NameMaps.{ItemName}
use Rattle.comp_model.specs.Spaces.{leaves_spaces}
use Rattle.comp_tree.specs.Lists.{listed}
use Rattle.tree_write.specs.Along.{along, ids_in, labels_in}
use Rattle.tree_write.specs.CountedItems.{count_of, most_items}
use Rattle.tree_write.specs.SpaceSums.{sum_at, Tells}
use Rattle.tree_write.proofs.SpaceSums.{LeavesSoFar}
use Rattle.tree_write.proofs.name_lengths.add_leaves.Given as goal

-- the names so far and those of the leaves that are left are those of all
abbrev pub invariant-loop-leaf : goal.invariant-loop-leaf
invariant-loop-leaf l =
    (cores : List CoreModule) (s : Space) (ns : List ItemName) → count_of s l.counts ≤ most_items → Tells (sum_at s l.initial.sums) ns
    → LeavesSoFar cores s (count_of s l.counts) (sum_at s l.sums) l.part l.of l.by (drop l.leaf-index l.leaves)
    (ns ++ along s (count_of s l.counts) 0 (ids_in l.of) (labels_in l.of) (leaves_spaces (listed cores l.leaves) l.by))
