use Rattle.std.proofs.Common.{arith, drop}
use Rattle.tree_write.specs.CountedItems.{count_of}
use Rattle.tree_write.specs.SpaceSums.{sum_at}
use Rattle.tree_write.proofs.SpaceSums.{leaves_turn, leaves_out, leaves_end}
use Rattle.tree_write.proofs.name_lengths.add_leaves.Goals as goal

pub loop-leaf-preserved : goal.loop-leaf-preserved
loop-leaf-preserved c = λ cores s ns h t.
    leaves_turn cores s (count_of s c.args.counts.now) (sum_at s c.loop-leaf.sums) (sum_at s c.add_parts.new.sums) c.loop-leaf.part c.saturating_add-part.result c.loop-leaf.leaf-index c.named_parts-parts.result c.args.of.now c.args.by c.args.leaves.now
    c.leaf-item.result c.leaf_run-run.result _ c.loop-leaf-test.true c.leaf-item.is (c.leaf_run-run.ensures cores) c.if-part-parts.false (omega (arith, c.named_parts-parts.type_inv)) c.saturating_add-part.ensures (λ ms x. c.add_parts.ensures s ms h x)
    (c.loop-leaf.invariant cores s ns h t)

pub returns-then-part-parts : goal.returns-then-part-parts
returns-then-part-parts c = λ cores s ns h t.
    leaves_out cores s (count_of s c.args.counts.now) (sum_at s c.loop-leaf.sums) c.loop-leaf.part c.named_parts-parts.result c.args.of.now c.args.by (drop c.loop-leaf.leaf-index c.args.leaves.now) _ c.named_parts-parts.ensures.ids
    c.named_parts-parts.ensures.labels c.if-part-parts.true (c.loop-leaf.invariant cores s ns h t)

pub returns : goal.returns
returns c = λ cores s ns h t.
    leaves_end cores s (count_of s c.args.counts.now) (sum_at s c.loop-leaf.sums) c.loop-leaf.part c.loop-leaf.leaf-index c.args.of.now c.args.by c.args.leaves.now _ c.loop-leaf-test.false (c.loop-leaf.invariant cores s ns h t)
