use Rattle.std.proofs.Common.{◌≡◌, List, map, length}
use Rattle.comp_model.specs.CoreModules.{CoreModule}
use Rattle.comp_tree.specs.Lists.{def_of}
use Rattle.tree_build.proofs.wraps.number_defs.Given as goal

abbrev pub invariant-loop-i : goal.invariant-loop-i
invariant-loop-i l = ((cs : List CoreModule) → map (def_of cs) l.defs.items ≡ map (def_of cs) l.fn.defs.items) × (length l.defs.items ≡ length l.fn.defs.items)
