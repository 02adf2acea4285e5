use Rattle.std.proofs.Common.{ℕ}
use Rattle.comp_wire.specs.Table as t
use Rattle.wire_read.proofs.RowLoops.{SoFar}
use Rattle.wire_read.proofs.common.read_all_named.Given as goal

abbrev pub invariant-loop : goal.invariant-loop
invariant-loop l = (left : ℕ) → SoFar t.named_types left l.count l.counter l.initial.input l.input l.names.items
