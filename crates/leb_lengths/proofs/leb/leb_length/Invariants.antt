use Rattle.std.proofs.Common.{◌≡◌, ◌+◌, length}
use Rattle.comp_model.specs.Leb.{leb, plain}
use Rattle.leb_lengths.proofs.leb.leb_length.Given as goal

-- The bytes so far and those of the rest are those of the number.
abbrev pub invariant-loop-rest : goal.invariant-loop-rest
invariant-loop-rest l = l.length + length (leb plain l.limit l.rest) ≡ 1 + length (leb plain l.limit l.value)

abbrev pub decreases-loop-rest : goal.decreases-loop-rest
decreases-loop-rest l = l.rest
