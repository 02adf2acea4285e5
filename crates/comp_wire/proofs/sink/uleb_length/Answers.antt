use Rattle.std.proofs.Common.{◌/◌, arith, sym}
use Rattle.comp_wire.proofs.Numbers.{length_one, length_more}
use Rattle.comp_wire.proofs.sink.uleb_length.Goals as goal

pub returns-then-value-lt128-clause-length : goal.returns-then-value-lt128-clause-length
returns-then-value-lt128-clause-length c = sym (length_one c.args.value c.if-value-lt128.true)

pub returns-then-value-lt16384-clause-length : goal.returns-then-value-lt16384-clause-length
returns-then-value-lt16384-clause-length c =
    let n = c.args.value in
    sym (length_more n 1 (omega arith) (length_one (n / 128) (omega arith)))

pub returns-then-value-lt2097152-clause-length : goal.returns-then-value-lt2097152-clause-length
returns-then-value-lt2097152-clause-length c =
    let n = c.args.value in
    sym (length_more n 2 (omega arith) (length_more (n / 128) 1 (omega arith) (length_one (n / 128 / 128) (omega arith))))

pub returns-then-value-lt268435456-clause-length : goal.returns-then-value-lt268435456-clause-length
returns-then-value-lt268435456-clause-length c =
    let n = c.args.value in
    sym (length_more n 3 (omega arith) (length_more (n / 128) 2 (omega arith) (length_more (n / 128 / 128) 1 (omega arith) (length_one (n / 128 / 128 / 128) (omega arith)))))

pub returns-clause-length : goal.returns-clause-length
returns-clause-length c =
    let n = c.args.value in
    sym (length_more n 4 (omega arith) (length_more (n / 128) 3 (omega arith) (length_more (n / 128 / 128) 2 (omega arith) (length_more (n / 128 / 128 / 128) 1 (omega arith) (length_one (n / 128 / 128 / 128 / 128) (omega (arith, c.ranges.value.fits)))))))
