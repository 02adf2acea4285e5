use Rattle.std.proofs.Common.{◌≡◌, ◌++◌, drop, string_bytes}
use Rattle.print_table.specs.Tokens.{escaped}
use Rattle.tree_print.proofs.token.push_escapes.Given as goal

abbrev pub invariant-loop-byte : goal.invariant-loop-byte
invariant-loop-byte l = string_bytes l.text ++ escaped (drop l.byte-index l.bytes) ≡ string_bytes l.initial.text ++ escaped l.bytes
