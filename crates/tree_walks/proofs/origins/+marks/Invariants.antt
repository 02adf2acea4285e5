use Rattle.std.proofs.Common.{◌≡◌, map, drop}
use Rattle.comp_tree.specs.Marks.{inside_listed, nodes_inside, marks_listed}
use Rattle.comp_tree.specs.OriginMarks.{FewPlaces, marks_after, marks_of_items, recorded, recorded_inside}
use Rattle.tree_walks.proofs.origins.+marks.Given as goal

abbrev pub invariant-leaves_origins-loop-leaf : goal.invariant-leaves_origins-loop-leaf
invariant-leaves_origins-loop-leaf g l = recorded_inside (inside_listed (map g.M.CoreSource.core_module l.cores) (drop l.leaf-index l.leaves)) ≡ recorded_inside (inside_listed (map g.M.CoreSource.core_module l.cores) l.leaves)

abbrev pub invariant-nodes_origins-loop-node : goal.invariant-nodes_origins-loop-node
invariant-nodes_origins-loop-node g l = recorded_inside (nodes_inside (map g.M.CoreSource.core_module l.cores) (drop l.node-index l.nodes)) ≡ recorded_inside (nodes_inside (map g.M.CoreSource.core_module l.cores) l.nodes)

abbrev pub invariant-scope_origins-loop-def : goal.invariant-scope_origins-loop-def
invariant-scope_origins-loop-def g l =
    (marks_after (marks_of_items l.items.items) (recorded (marks_listed (map g.M.CoreSource.core_module l.cores) (drop l.def-index l.def-items))) ≡ recorded (marks_listed (map g.M.CoreSource.core_module l.cores) l.def-items))
    × FewPlaces (recorded (marks_listed (map g.M.CoreSource.core_module l.cores) (drop l.def-index l.def-items)))
