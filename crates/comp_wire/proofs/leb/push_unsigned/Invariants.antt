use Rattle.std.proofs.Common.{◌≡◌, ◌++◌, take, length}
use Rattle.comp_model.specs.Leb.{uleb}
use Rattle.comp_wire.proofs.leb.push_unsigned.Given as goal

-- The bytes so far and those of the rest are those of the number; what stood before stands.
abbrev pub invariant-loop-rest : goal.invariant-loop-rest
invariant-loop-rest l = (l.out.items ++ uleb l.rest ≡ l.initial.out.items ++ uleb l.value) × (take (length l.initial.out.items) l.out.items ≡ l.initial.out.items)

abbrev pub decreases-loop-rest : goal.decreases-loop-rest
decreases-loop-rest l = l.rest
