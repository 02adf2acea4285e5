use Rattle.std.proofs.Common.{◌≡◌, List, drop}
use Rattle.comp_model.specs.CoreModules.{CoreModule}
use Rattle.comp_model.specs.Origins.{Origins}
use Rattle.comp_tree.specs.OriginMarks.{marks_after, marks_of_items, without_places}
use Rattle.tree_resolve.specs.Planned.{planned_listed, planned_nodes, planned_defs}
use Rattle.tree_resolve.proofs.origins.+planned.Given as goal

abbrev pub invariant-leaves_plan-loop-leaf : goal.invariant-leaves_plan-loop-leaf
invariant-leaves_plan-loop-leaf l = (C : List CoreModule) → planned_listed C (drop l.leaf-index l.leaves) ≡ planned_listed C l.leaves

abbrev pub invariant-nodes_plan-loop-node : goal.invariant-nodes_plan-loop-node
invariant-nodes_plan-loop-node l = (C : List CoreModule) → planned_nodes C (drop l.node-index l.nodes) ≡ planned_nodes C l.nodes

abbrev pub invariant-scope_plan-loop-def : goal.invariant-scope_plan-loop-def
invariant-scope_plan-loop-def l = (C : List CoreModule) (more : Origins) → marks_after (marks_of_items l.items.items) (without_places (planned_defs C more (drop l.def-index l.def-items))) ≡ without_places (planned_defs C more l.def-items)
