use Rattle.std.proofs.Common.{string_bytes, arith}
use Rattle.list_lines.proofs.Indents.{one_level}
use Rattle.list_lines.proofs.print.push_indent.Goals as goal

pub loop-preserved : goal.loop-preserved
loop-preserved c = (omega (arith, c.loop-test.true), one_level (string_bytes c.args.out.now) (string_bytes c.loop.out) _ c.args.level c.loop.counter c.loop-test.true c.in_ok-push_str.ensures.bytes c.loop.invariant.1)
