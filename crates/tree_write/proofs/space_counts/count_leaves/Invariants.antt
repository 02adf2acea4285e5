use Rattle.std.proofs.Common.{◌≡◌, ◌≤◌, ◌+◌, ◌*◌, ◌-◌, ◌^◌, List, drop}
use Rattle.comp_model.specs.declared.Space.{Space}
use Rattle.comp_model.specs.CoreModules.{CoreModule}
use Rattle.comp_model.specs.Spaces.{count_in, leaves_spaces}
use Rattle.comp_tree.specs.Lists.{listed}
use Rattle.tree_write.specs.CountedItems.{count_of, most_items, most_of_def}
use Rattle.tree_write.proofs.space_counts.count_leaves.Given as goal

-- the items so far and those of the leaves that are left are all
abbrev pub invariant-loop-leaf : goal.invariant-loop-leaf
invariant-loop-leaf l =
    ((cores : List CoreModule) (s : Space) → count_of s l.initial.counts + most_of_def ≤ most_items
    → count_of s l.counts + count_in s (leaves_spaces (listed cores (drop l.leaf-index l.leaves)) l.by) ≡ count_of s l.initial.counts + count_in s (leaves_spaces (listed cores l.leaves) l.by))
    × ((cores : List CoreModule) (s : Space)
    → count_in s (leaves_spaces (listed cores l.leaves) l.by) ≤ l.leaf-index * (2 ^ 64 - 1) + count_in s (leaves_spaces (listed cores (drop l.leaf-index l.leaves)) l.by))
