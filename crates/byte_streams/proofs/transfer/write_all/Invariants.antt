use Rattle.std.proofs.Common.{◌-◌, ◌≤◌, length, take}
use Rattle.std.specs.Io.KnownBytes.{Appends}
use Rattle.byte_streams.specs.Outside.{Writes}
use Rattle.byte_streams.proofs.transfer.write_all.Given as goal

abbrev pub invariant-loop-at : goal.invariant-loop-at
invariant-loop-at g l = record {
  appends : Appends (g.O.Sink.taken l.fn.output) (g.O.Sink.taken l.output) (take l.at l.bytes);
  bound : l.at ≤ length l.bytes;
  later : g.O.Sink.faults l.fn.output ≤ g.O.Sink.faults l.output;
  writes : Writes g.O.Sink.write_gives l.fn.output l.output;
}

abbrev pub decreases-loop-at : goal.decreases-loop-at
decreases-loop-at g l = length l.bytes - l.at
