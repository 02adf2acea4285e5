use Rattle.std.proofs.Common.{◌≡◌, List, drop}
use Rattle.comp_model.specs.CoreModules.{CoreModule}
use Rattle.comp_tree.specs.Lists.{nodes_listed}
use Rattle.typed_nodes.proofs.Lists.{nodes_behind}
use Rattle.typed_nodes.specs.NameRows.{name_nodes}
use Rattle.typed_nodes.proofs.parts.nodes_of_names.Given as goal

abbrev pub invariant-loop-i : goal.invariant-loop-i
invariant-loop-i l = (cores : List CoreModule) → nodes_behind (nodes_listed cores l.nodes.items) (name_nodes (drop l.i l.names)) ≡ name_nodes l.names
