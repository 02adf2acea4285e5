use Rattle.std.proofs.Common.{List, [], drop, ◌<◌, ◌^◌}
use Rattle.comp_tables.specs.Bounds.{most_declared}
use Rattle.tree_names.specs.Room.{SumsHaveRoom}
use Rattle.comp_model.specs.CoreModules.{CoreModule}
use Rattle.comp_tree.specs.Lists.{defs_listed}
use Rattle.tree_names.specs.AllFound.{defs_found, FoundSoFar}
use Rattle.tree_resolve.specs.Tabled.{TabledUpTo}
use Rattle.tree_resolve.proofs.table.count_defs.Given as goal

abbrev pub invariant-loop-def : goal.invariant-loop-def
invariant-loop-def l = ((C : List CoreModule) → TabledUpTo C l.scopes l.sums l.table.items l.defs (drop l.def-index l.defs))
    × ((C : List CoreModule) → FoundSoFar l.scopes (λ ms. defs_found ms (defs_listed C l.defs)) (λ ms. defs_found ms (defs_listed C (drop l.def-index l.defs))) [] l.found.items)
    × ((C : List CoreModule) → most_declared (defs_listed C l.defs) < 2 ^ 32 → SumsHaveRoom l.sums (most_declared (defs_listed C (drop l.def-index l.defs))))
