use Rattle.origin_lines.proofs.Turns.{lines_end}
use Rattle.origin_lines.proofs.print.+push_lines.Goals as goal

pub returns : goal.returns
returns t c = lines_end _ _ _ c.args.scope.now _ c.loop-item.item-index c.as_slice-item-items.ensures.same_items c.loop-item-test.false c.loop-item.invariant
