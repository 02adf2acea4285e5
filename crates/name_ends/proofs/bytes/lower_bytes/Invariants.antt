use Rattle.std.proofs.Common.{◌≡◌, drop}
use Rattle.name_ends.specs.Endings.{lower_bytes}
use Rattle.name_ends.proofs.bytes.lower_bytes.Given as goal

-- what is left is still to come behind the number
abbrev pub invariant-loop-byte : goal.invariant-loop-byte
invariant-loop-byte l = lower_bytes l.number (drop l.byte-index l.bytes) ≡ lower_bytes 0 l.bytes
