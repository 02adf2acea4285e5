use Rattle.std.proofs.Common.{◌≡◌, ◌≤◌, ◌*◌, ◌+◌, ◌<◌, ◌^◌, ◌++◌, List, drop}
use Rattle.comp_model.specs.CoreModules.{CoreModule}
use Rattle.comp_model.specs.declared.Space.{Space}
use Rattle.comp_tree.specs.Lists.{defs_listed}
use Rattle.tree_write.specs.Along.{names_in, of_space}
use Rattle.tree_write.specs.CountedItems.{count_of, most_of_def}
use Rattle.tree_write.specs.FewItems.{count_declared}
use Rattle.tree_write.proofs.item_names.items_of.Given as goal

-- the names so far and those of the definitions that are left are those of all
abbrev pub invariant-loop-def : goal.invariant-loop-def
invariant-loop-def l = (cores : List CoreModule) (s : Space)
    → (count_declared (defs_listed cores l.defs) < 2 ^ 64 → of_space s l.items.items ++ names_in cores s (count_of s l.counts) (drop l.def-index l.defs) ≡ names_in cores s 0 l.defs)
    × (count_of s l.counts ≤ l.def-index * most_of_def)
    × (count_of s l.counts + count_declared (defs_listed cores (drop l.def-index l.defs)) ≤ count_declared (defs_listed cores l.defs))
