use Rattle.std.proofs.Common.{◌<◌, length, arith, ap, ◌∙◌}
use Rattle.plan_lines.specs.Shown.{lines_left}
use Rattle.plan_lines.proofs.Lefts.{next_left}
use Rattle.plan_lines.proofs.plan.next_line.Goals as goal

pub returns-else-is_empty-clause-lines : goal.returns-else-is_empty-clause-lines
returns-else-is_empty-clause-lines c =
    let some : 0 < length c.in-Some.word.bytes.now = grind (arith, c.is_empty.ensures, c.if-is_empty.false) in
    ap lines_left c.in-Some.is ∙ next_left c.in-Some.word c.cut.result.0 c.cut.result.1 some c.cut.ensures.pieces c.cut.ensures.whole
