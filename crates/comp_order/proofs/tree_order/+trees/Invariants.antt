use Rattle.std.proofs.Common.{List, drop}
use Rattle.comp_model.specs.Model.{Defs}
use Rattle.item_tree.specs.Model.{defs_listed}
use Rattle.comp_order.specs.Before.{AllCounted}
use Rattle.comp_order.proofs.Walking.{SoFar}
use Rattle.comp_order.proofs.tree_order.+trees.Given as goal

abbrev pub invariant-pass_items-loop-item : goal.invariant-pass_items-loop-item
invariant-pass_items-loop-item l = (befores : List Defs) → AllCounted l.outer befores →
    SoFar befores l.line (defs_listed l.items) l.counts l.next (defs_listed (drop l.item-index l.items))
