use Rattle.std.proofs.Common.{◌≡◌, ◌++◌, List, map, take}
use Rattle.comp_model.specs.CoreModules.{CoreModule}
use Rattle.comp_tree.specs.Lists.{defs_listed}
use Rattle.tree_write.specs.Along.{payload_by}
use Rattle.tree_write.specs.FewItems.{FewInDefs}
use Rattle.tree_write.specs.Plans.{payloads_of_defs}
use Rattle.tree_write.proofs.plans.+gathering.Given as goal

-- the names so far and those of the definitions in front are those of all
abbrev pub invariant-gather_defs-loop-i : goal.invariant-gather_defs-loop-i
invariant-gather_defs-loop-i l = (cores : List CoreModule) → FewInDefs (defs_listed cores l.defs) → map payload_by l.plans.items ++ payloads_of_defs (defs_listed cores (take l.i l.defs)) ≡ map payload_by l.initial.plans.items ++ payloads_of_defs (defs_listed cores l.defs)
