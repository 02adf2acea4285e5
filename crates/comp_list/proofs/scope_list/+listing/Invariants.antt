use Rattle.std.proofs.Common.{◌≡◌, ◌++◌, drop}
use Rattle.wire_tree.specs.Lists.{listed, nodes_listed, defs_listed}
use Rattle.comp_list.specs.Open.{scopes_of, AllFound}
use Rattle.comp_list.specs.Listing.{leaves_lines, nodes_lines, defs_lines}
use Rattle.comp_list.specs.Room.{LeavesFit, NodesFit, DefsFit}
use Rattle.comp_list.proofs.scope_list.+listing.Given as goal

abbrev pub invariant-push_leaves-loop-leaf : goal.invariant-push_leaves-loop-leaf
invariant-push_leaves-loop-leaf l =
    LeavesFit (listed (drop l.leaf-index l.leaves)) l.level
    × (AllFound l.around → l.lines.items ++ leaves_lines (listed (drop l.leaf-index l.leaves)) l.level (scopes_of l.around)
    ≡ l.initial.lines.items ++ leaves_lines (listed l.leaves) l.level (scopes_of l.around))

abbrev pub invariant-push_nodes-loop-node : goal.invariant-push_nodes-loop-node
invariant-push_nodes-loop-node l =
    NodesFit (nodes_listed (drop l.node-index l.nodes)) l.level
    × (AllFound l.around → l.lines.items ++ nodes_lines (nodes_listed (drop l.node-index l.nodes)) l.level (scopes_of l.around)
    ≡ l.initial.lines.items ++ nodes_lines (nodes_listed l.nodes) l.level (scopes_of l.around))

abbrev pub invariant-push_defs-loop-node : goal.invariant-push_defs-loop-node
invariant-push_defs-loop-node l =
    DefsFit (defs_listed (drop l.node-index l.defs)) l.level l.def
    × (AllFound l.around → l.lines.items ++ defs_lines (defs_listed (drop l.node-index l.defs)) l.level (scopes_of l.around) l.def
    ≡ l.initial.lines.items ++ defs_lines (defs_listed l.defs) l.level (scopes_of l.around) 0)
