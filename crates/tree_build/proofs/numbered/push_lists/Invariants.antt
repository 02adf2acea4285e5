use Rattle.std.proofs.Common.{◌≡◌, ◌++◌, ◌-◌, List, map}
use Rattle.comp_model.specs.CoreModules.{CoreModule, Field}
use Rattle.text_rules.specs.Made.{numbered_lists}
use Rattle.comp_tree.specs.Lists.{node_of}
use Rattle.tree_build.specs.Held.{loose}
use Rattle.tree_build.proofs.numbered.push_lists.Given as goal

abbrev pub invariant-lists : goal.invariant-lists
invariant-lists l = (fs : List (List Field)) (cs : List CoreModule)
    → map (loose fs cs) l.leaves.items ++ numbered_lists l.number (l.lists - l.number) (map (node_of cs) l.nodes) ≡ map (loose fs cs) l.fn.leaves.items ++ numbered_lists 0 l.lists (map (node_of cs) l.nodes)
