use Rattle.std.proofs.Common.{arith}
use Rattle.tree_write.specs.CountedItems.{count_of}
use Rattle.tree_write.proofs.ItemNames.{all_counted}
use Rattle.tree_write.proofs.CountedItems.{counts_turn, few_turn, few_end}
use Rattle.tree_write.proofs.space_counts.count_leaves.Goals as goal

pub loop-leaf-preserved : goal.loop-leaf-preserved
loop-leaf-preserved c =
    let i = c.loop-leaf.leaf-index in
    let xs = c.args.leaves.now in
    let d = c.args.by in (
      λ cores s h. counts_turn cores s i xs c.leaf-item.result d c.leaf_run.result (count_of s c.args.counts.now) (count_of s c.loop-leaf.counts) (count_of s c.count_run.new.counts) _
          c.loop-leaf-test.true (omega (arith, c.entries-most.type_inv, c.entries-most.ensures)) c.leaf-item.is (c.leaf_run.ensures cores) h (c.count_run.ensures.items s) (c.loop-leaf.invariant.1 cores s) (c.loop-leaf.invariant.0 cores s h),
      λ cores s. few_turn cores s i xs c.leaf-item.result d c.leaf_run.result _ c.loop-leaf-test.true c.leaf-item.is (c.leaf_run.ensures cores) (c.count_run.ensures.few s) (c.loop-leaf.invariant.1 cores s),
    )

pub returns-clause-items : goal.returns-clause-items
returns-clause-items c = λ cores s h. all_counted cores s c.loop-leaf.leaf-index c.args.leaves.now c.args.by _ _ c.loop-leaf-test.false (c.loop-leaf.invariant.0 cores s h)

pub returns-clause-few : goal.returns-clause-few
returns-clause-few c = λ cores s. few_end cores s c.loop-leaf.leaf-index c.args.leaves.now c.args.by _ c.loop-leaf-test.false c.loop-leaf.auto.leaf-index-end (omega (arith, c.entries-most.type_inv, c.entries-most.ensures)) (c.loop-leaf.invariant.1 cores s)
