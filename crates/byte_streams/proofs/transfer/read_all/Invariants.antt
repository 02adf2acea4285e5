use Rattle.std.proofs.Common.{◌-◌, ◌≤◌, ◌≡◌, vec_len, length}
use Rattle.std.specs.Io.KnownBytes.{Consumes}
use Rattle.byte_streams.specs.Outside.{Reads}
use Rattle.byte_streams.specs.declared.transfer.TheConstants.{MAX_READ, CHUNK}
use Rattle.byte_streams.proofs.transfer.read_all.Given as goal

abbrev pub invariant-loop-bytes : goal.invariant-loop-bytes
invariant-loop-bytes g l = record {
  consumes : Consumes (g.S.Source.left l.fn.input) (g.S.Source.left l.input) l.bytes.items;
  bound : length l.bytes.items ≤ MAX_READ;
  chunk : vec_len l.chunk ≡ CHUNK;
  reads : Reads g.S.Source.read_gives l.fn.input l.input;
  later : g.S.Source.faults l.fn.input ≤ g.S.Source.faults l.input;
}

abbrev pub decreases-loop-bytes : goal.decreases-loop-bytes
decreases-loop-bytes g l = MAX_READ - vec_len l.bytes
