use Rattle.std.proofs.Common.{◌≡◌, ◌<◌, drop}
use Rattle.wast_tokens.specs.Numbers.{number}
use Rattle.wast_tokens.proofs.Digits.{number_behind}
use Rattle.wast_tokens.proofs.numbers.number.Given as goal

abbrev pub invariant-loop-b : goal.invariant-loop-b
invariant-loop-b l = (l.number < 18446744073709551616) × (number l.radix l.bytes ≡ number_behind l.radix l.number (drop l.b-index l.bytes))
