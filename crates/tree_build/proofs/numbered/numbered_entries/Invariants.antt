use Rattle.std.proofs.Common.{◌≡◌, ◌++◌, List, map, drop}
use Rattle.comp_model.specs.CoreModules.{CoreModule}
use Rattle.text_rules.specs.Made.{numbered_nodes}
use Rattle.comp_tree.specs.Lists.{node_of}
use Rattle.tree_build.proofs.numbered.numbered_entries.Given as goal

abbrev pub invariant-nodes : goal.invariant-nodes
invariant-nodes l = (cs : List CoreModule) → map (node_of cs) l.entries.items ++ numbered_nodes l.number (map (node_of cs) (drop l.node-index l.nodes)) ≡ numbered_nodes l.number (map (node_of cs) l.nodes)
