use Rattle.std.proofs.Common.{◌≡◌, List, drop}
use Rattle.comp_model.specs.CoreModules.{CoreModule}
use Rattle.comp_tree.specs.Lists.{defs_listed}
use Rattle.tree_expand.specs.Numbering.{inlines_defs}
use Rattle.tree_expand.proofs.inlines.scope_inlines.Given as goal

abbrev pub invariant-loop-def : goal.invariant-loop-def
invariant-loop-def l = (C : List CoreModule) → inlines_defs (defs_listed C (drop l.def-index l.def-items)) ≡ inlines_defs (defs_listed C l.def-items)
