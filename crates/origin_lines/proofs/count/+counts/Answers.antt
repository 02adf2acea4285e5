use Rattle.origin_lines.proofs.Turns.{counts_full, counts_end}
use Rattle.origin_lines.proofs.count.+counts.Goals as goal

pub add_marks-returns-in-None : goal.add_marks-returns-in-None
add_marks-returns-in-None t c =
    counts_full c.args.counts c.loop-item.all c.args.scope.now _ c.item-item.result c.loop-item.item-index c.as_slice-item-items.ensures.same_items c.loop-item-test.true c.item-item.is c.loop-item.invariant.marks
    c.in-None.ensures

pub add_marks-returns : goal.add_marks-returns
add_marks-returns t c =
    counts_end c.args.counts c.loop-item.all c.args.scope.now _ c.loop-item.item-index c.as_slice-item-items.ensures.same_items c.loop-item-test.false c.loop-item.invariant.marks c.loop-item.invariant.outer_aliases
    c.loop-item.invariant.fewer
