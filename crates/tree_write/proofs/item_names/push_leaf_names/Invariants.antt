use Rattle.std.proofs.Common.{◌≡◌, ◌++◌, ◌+◌, ◌<◌, ◌^◌, List, drop, length}
use Rattle.comp_model.specs.CoreModules.{CoreModule}
use Rattle.comp_model.specs.declared.Space.{Space}
use Rattle.comp_model.specs.Spaces.{leaves_spaces}
use Rattle.comp_tree.specs.Lists.{listed}
use Rattle.tree_write.specs.Along.{along, ids_in, labels_in, of_space}
use Rattle.tree_write.specs.CountedItems.{count_of}
use Rattle.tree_write.proofs.item_names.push_leaf_names.Given as goal

-- the names so far and those of the leaves that are left are those of all
abbrev pub invariant-loop-leaf : goal.invariant-loop-leaf
invariant-loop-leaf l =
    (cores : List CoreModule) (s : Space) → count_of s l.counts + length (leaves_spaces (listed cores l.leaves) l.by) < 2 ^ 64
    → (of_space s l.items.items ++ along s (count_of s l.counts) l.part (drop l.part (ids_in l.of)) (drop l.part (labels_in l.of)) (leaves_spaces (listed cores (drop l.leaf-index l.leaves)) l.by)
    ≡ of_space s l.initial.items.items ++ along s (count_of s l.counts) 0 (ids_in l.of) (labels_in l.of) (leaves_spaces (listed cores l.leaves) l.by))
    × (l.part + length (leaves_spaces (listed cores (drop l.leaf-index l.leaves)) l.by) ≡ length (leaves_spaces (listed cores l.leaves) l.by))
