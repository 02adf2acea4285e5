use Rattle.std.proofs.Common.{◌≡◌, ◌+◌, ◌-◌, ◌<◌, ◌^◌, length}
use Rattle.std.specs.Fmt.{decimal}
use Rattle.tree_print.proofs.size.decimal_size.Given as goal

abbrev pub invariant-loop-rest : goal.invariant-loop-rest
invariant-loop-rest l = (l.digits + length (decimal l.rest) ≡ 1 + length (decimal l.number)) × (l.rest < 2 ^ 32)

abbrev pub decreases-loop-rest : goal.decreases-loop-rest
decreases-loop-rest l = l.rest + 1 - 10
