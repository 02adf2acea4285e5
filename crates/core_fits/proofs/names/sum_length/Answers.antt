use Rattle.std.proofs.Common.{◌+◌, arith}
use Rattle.core_fits.proofs.NamesSized.{ten_bytes}
use Rattle.core_fits.proofs.names.sum_length.Goals as goal

pub returns-in-None : goal.returns-in-None
returns-in-None c = ten_bytes (c.args.one + c.args.two) (omega (arith, c.in-None.ensures)) (omega (arith, c.ranges.one, c.ranges.two))
