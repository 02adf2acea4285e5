use Rattle.byte_table.specs.Lines.{family_of}
use Rattle.wire_read.proofs.WrittenOut.{no_func_byte, no_func_index, func_read}
use Rattle.wire_read.proofs.common.read_func_description.Goals as goal

pub returns-then-not-expect : goal.returns-then-not-expect
returns-then-not-expect c = λ left k. no_func_byte (family_of c.args.family) left c.args.input.now k (c.expect.ensures.1 c.if-not-expect.true)

pub returns-in-None : goal.returns-in-None
returns-in-None c = λ left k. no_func_index (family_of c.args.family) left c.args.input.now k _ (c.expect.ensures.0 c.if-not-expect.false) c.in-None.ensures

pub returns-in-Ok : goal.returns-in-Ok
returns-in-Ok c = λ left k. func_read (family_of c.args.family) left c.args.input.now k _ (c.expect.ensures.0 c.if-not-expect.false) c.in-Some.index _ c.in-Ok.leaves c.in-Some.ensures c.in-Ok.ensures
