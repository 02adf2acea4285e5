use Rattle.std.proofs.Common.{arith}
use Rattle.leb_lengths.proofs.Lengths.{one-byte, more-bytes, some-byte, ten-bytes}
use Rattle.leb_lengths.proofs.leb.leb_length.Goals as goal

pub overflow_add-length : goal.overflow_add-length
overflow_add-length c =
    omega (arith, c.loop-rest.invariant, ten-bytes c.args.limit c.requires.least c.requires.most c.args.value (omega (arith, c.ranges.value)), some-byte c.args.limit c.requires.least c.requires.most c.loop-rest.rest)

pub loop-rest-preserved : goal.loop-rest-preserved
loop-rest-preserved c = omega (arith, c.loop-rest.invariant, more-bytes c.args.limit c.requires.least c.requires.most c.loop-rest.rest c.loop-rest-test.true)

pub returns-clause-bytes : goal.returns-clause-bytes
returns-clause-bytes c = omega (arith, c.loop-rest.invariant, one-byte c.args.limit c.requires.least c.requires.most c.loop-rest.rest c.loop-rest-test.false)

pub returns-clause-few : goal.returns-clause-few
returns-clause-few c =
    omega (arith, c.loop-rest.invariant, ten-bytes c.args.limit c.requires.least c.requires.most c.args.value (omega (arith, c.ranges.value)), some-byte c.args.limit c.requires.least c.requires.most c.loop-rest.rest)
