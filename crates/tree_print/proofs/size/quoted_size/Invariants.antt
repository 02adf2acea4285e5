use Rattle.std.proofs.Common.{◌≡◌, ◌+◌, ◌<◌, ◌^◌, length, drop}
use Rattle.print_table.specs.Tokens.{escaped}
use Rattle.tree_print.specs.Taken.{capped}
use Rattle.tree_print.proofs.size.quoted_size.Given as goal

abbrev pub invariant-loop-byte : goal.invariant-loop-byte
invariant-loop-byte l = (capped (l.size + length (escaped (drop l.byte-index l.bytes))) ≡ capped (2 + length (escaped l.bytes))) × (l.size < 2 ^ 64)
