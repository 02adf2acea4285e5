use Rattle.std.proofs.Common.{◌≡◌, ◌++◌, List, drop}
use Rattle.comp_model.specs.CoreModules.{CoreModule}
use Rattle.comp_model.specs.Spaces.{leaves_spaces}
use Rattle.comp_tree.specs.Lists.{listed}
use Rattle.comp_model.specs.Spaces.{maybe_one}
use Rattle.tree_resolve.proofs.sole.sole_given.Given as goal

abbrev pub invariant-loop-leaf : goal.invariant-loop-leaf
invariant-loop-leaf l = (C : List CoreModule) → maybe_one l.sole ++ leaves_spaces (listed C (drop l.leaf-index l.leaves)) l.by ≡ leaves_spaces (listed C l.leaves) l.by
