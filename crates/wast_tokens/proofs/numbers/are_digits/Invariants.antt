use Rattle.std.proofs.Common.{◌≡◌, drop}
use Rattle.wast_tokens.specs.Numbers.{are_digits, are_more_digits}
use Rattle.wast_tokens.proofs.numbers.are_digits.Given as goal

abbrev pub invariant-loop-b : goal.invariant-loop-b
invariant-loop-b l = are_digits l.radix l.bytes ≡ are_more_digits l.radix l.last (drop l.b-index l.bytes)
