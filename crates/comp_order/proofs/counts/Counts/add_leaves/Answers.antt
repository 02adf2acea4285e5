use Rattle.std.proofs.Common.{◌+◌, ap, sym, ◌∙◌, drop}
use Rattle.comp_model.specs.Spaces.{count_in, leaves_spaces}
use Rattle.wire_tree.specs.Lists.{listed}
use Rattle.comp_list.proofs.DefSpots.{drop_item}
use Rattle.comp_order.specs.Counts.{capped, counted}
use Rattle.comp_order.proofs.Counting.{leaf_counted}
use Rattle.comp_order.proofs.counts.Counts.add_leaves.Goals as goal

pub loop-leaf-preserved : goal.loop-leaf-preserved
loop-leaf-preserved c = λ s.
    leaf_counted s c.args.by c.leaf-item.result (drop (c.loop-leaf.leaf-index + 1) c.args.leaves.now) c.leaf_run.result c.loop-leaf.self c.add_run.new.self c.leaf_run.ensures (c.add_run.ensures s)
    ∙ ap (λ q. capped (counted c.loop-leaf.self s + count_in s (leaves_spaces (listed q) c.args.by))) (sym (drop_item c.args.leaves.now c.loop-leaf.leaf-index c.leaf-item.result c.loop-leaf-test.true c.leaf-item.is))
    ∙ c.loop-leaf.invariant s
