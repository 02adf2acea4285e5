use Rattle.std.proofs.Common.{List, drop}
use Rattle.comp_model.specs.declared.Space.{Space}
use Rattle.comp_model.specs.CoreModules.{CoreModule}
use Rattle.tree_write.specs.Along.{names_in}
use Rattle.tree_write.specs.CountedItems.{count_of}
use Rattle.tree_write.specs.SpaceSums.{sum_at}
use Rattle.tree_write.proofs.SpaceSums.{DefsSoFar}
use Rattle.tree_write.proofs.name_lengths.definitions_length.Given as goal

-- the names so far and those of the definitions that are left are those of all
abbrev pub invariant-loop-def : goal.invariant-loop-def
invariant-loop-def l = (cores : List CoreModule) (s : Space) → DefsSoFar cores s (sum_at s l.sums) (count_of s l.counts) l.def-index (drop l.def-index l.defs) (names_in cores s 0 l.defs)
