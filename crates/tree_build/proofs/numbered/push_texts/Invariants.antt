use Rattle.std.proofs.Common.{◌≡◌, ◌++◌, List, map, drop}
use Rattle.comp_model.specs.CoreModules.{CoreModule, Field}
use Rattle.text_rules.specs.Made.{joined_text}
use Rattle.comp_tree.specs.Model.{joined}
use Rattle.tree_build.specs.Held.{loose}
use Rattle.tree_build.proofs.numbered.push_texts.Given as goal

abbrev pub invariant-leaves : goal.invariant-leaves
invariant-leaves l = (fs : List (List Field)) (cs : List CoreModule)
    → joined l.pieces.items ++ joined_text (map (loose fs cs) (drop l.leaf-index l.leaves)) ≡ joined l.fn.pieces.items ++ joined_text (map (loose fs cs) l.leaves)
