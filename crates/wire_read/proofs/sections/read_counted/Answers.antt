use Rattle.byte_table.specs.Lines.{family_of}
use Rattle.wire_read.proofs.Exactly.{count_is_zero, counted_outcome}
use Rattle.wire_read.proofs.sections.read_counted.Goals as goal

pub returns-then-count-eq0 : goal.returns-then-count-eq0
returns-then-count-eq0 c = λ k. (count_is_zero (family_of c.args.family) c.args.left c.in-Some.count _ _ c.in-Some.ensures c.if-count-eq0.true, tt)

pub returns-else-count-eq0 : goal.returns-else-count-eq0
returns-else-count-eq0 c = λ k. counted_outcome (family_of c.args.family) c.args.left c.in-Some.count _ _ c.read_exactly.result c.in-Some.ensures c.if-count-eq0.false (c.read_exactly.ensures k)
