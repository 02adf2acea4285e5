use Rattle.std.proofs.Common.{◌≡◌, List, drop}
use Rattle.comp_model.specs.CoreModules.{CoreModule}
use Rattle.comp_tree.specs.Lists.{defs_listed}
use Rattle.tree_resolve.specs.ListNames.{any_in}
use Rattle.tree_resolve.proofs.naming.name_items.Given as goal

abbrev pub invariant-loop-def : goal.invariant-loop-def
invariant-loop-def l = (C : List CoreModule) → any_in (defs_listed C (drop l.def-index l.defs)) ≡ any_in (defs_listed C l.defs)
