use Rattle.std.proofs.Common.{ℕ, rules, arith}
use Rattle.std.proofs.lemmas.List.{length-take}
use Rattle.byte_streams.specs.declared.transfer.TheConstants.{MAX_READ}
use Rattle.byte_streams.specs.Outside.Reads.{none, more}
use Rattle.byte_streams.proofs.Transfers.{reads_front, reads_until, reads_piece, length-piece}
use Rattle.byte_streams.proofs.transfer.read_all.Goals as goal

pub returns-in_default-clause-reads : goal.returns-in_default-clause-reads
returns-in_default-clause-reads g c = none

pub loop-bytes-init : goal.loop-bytes-init
loop-bytes-init g c = record {
  consumes = search rules;
  bound = search rules;
  chunk = search rules;
  reads = none;
  later = search rules;
}

pub returns-then-count-eq0-clause-reads : goal.returns-then-count-eq0-clause-reads
returns-then-count-eq0-clause-reads g c = more c.in-Ok-read_piece.count c.loop-bytes.invariant.reads c.in-Ok-read_piece.ensures.once

pub loop-bytes-preserved : goal.loop-bytes-preserved
loop-bytes-preserved g c = record {
  consumes = reads_piece _ _ _ _ _ _ _ c.loop-bytes.invariant.consumes c.in-Ok-read_piece.ensures.ok;
  bound = let most = length-piece _ _ _ _ _ _ c.in-Ok-read_piece.ensures.ok in omega (arith, length-take {A = ℕ});
  chunk = c.loop-bytes.invariant.chunk;
  reads = more c.in-Ok-read_piece.count c.loop-bytes.invariant.reads c.in-Ok-read_piece.ensures.once;
  later = omega (arith, c.loop-bytes.invariant.later, c.read_piece.ensures.later);
}

pub returns-in-Err-clause-err : goal.returns-in-Err-clause-err
returns-in-Err-clause-err g c = reads_front _ _ _ c.loop-bytes.bytes.items _ MAX_READ (omega (arith, length-take {A = ℕ})) c.loop-bytes.invariant.consumes c.in-Err.ensures.err

pub returns-in-Err-clause-reads : goal.returns-in-Err-clause-reads
returns-in-Err-clause-reads g c = reads_until _ _ c.in-Err.error c.loop-bytes.invariant.reads c.in-Err.ensures.once
