use Rattle.std.proofs.Common.{◌≡◌, ◌+◌, drop}
use Rattle.comp_model.specs.declared.Space.{Space}
use Rattle.comp_model.specs.Spaces.{count_in, leaves_spaces}
use Rattle.wire_tree.specs.Lists.{listed}
use Rattle.comp_order.specs.Counts.{capped, counted}
use Rattle.comp_order.proofs.counts.Counts.add_leaves.Given as goal

abbrev pub invariant-loop-leaf : goal.invariant-loop-leaf
invariant-loop-leaf l = (s : Space) →
    capped (counted l.self s + count_in s (leaves_spaces (listed (drop l.leaf-index l.leaves)) l.by))
    ≡ capped (counted l.initial.self s + count_in s (leaves_spaces (listed l.leaves) l.by))
