use Rattle.std.proofs.Common.{◌≡◌, List, map, take, drop}
use Rattle.comp_model.specs.CoreModules.{CoreModule, Field}
use Rattle.comp_tree.specs.Model.{leaf_of}
use Rattle.tree_build.specs.Cores.{Final, Grows}
use Rattle.tree_build.specs.Held.{loose}
use Rattle.tree_build.proofs.modules.settle.Given as goal

abbrev pub invariant-leaves : goal.invariant-leaves
invariant-leaves l = record {
  grows : Grows l.fn.cores l.cores;
  done : (fs : List (List Field)) (cs : List CoreModule) → Final fs cs l.cores → map (leaf_of cs) (take l.i l.leaves) ≡ map (loose fs cs) (take l.i l.fn.leaves);
  left : drop l.i l.leaves ≡ drop l.i l.fn.leaves;
}
