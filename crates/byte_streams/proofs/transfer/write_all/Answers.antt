use Rattle.std.proofs.Common.{rules, arith, ◌≤◌, ◌-◌, subst, length}
use Rattle.byte_streams.specs.Outside.Writes.{unwritten, written}
use Rattle.byte_streams.proofs.Transfers.{writes_more, writes_front, length-rest_of}
use Rattle.byte_streams.proofs.transfer.write_all.Goals as goal

pub loop-at-init : goal.loop-at-init
loop-at-init g c = record {
  appends = search rules;
  bound = search rules;
  later = search rules;
  writes = unwritten;
}

pub loop-at-preserved : goal.loop-at-preserved
loop-at-preserved g c =
    let room : c.in-Ok.count ≤ length c.args.bytes.now - c.loop-at.at = subst (λ n. c.in-Ok.count ≤ n) (length-rest_of c.args.bytes.now c.loop-at.at) c.in-Ok.ensures.ok.bound in
    record {
      appends = writes_more _ _ _ c.args.bytes.now c.loop-at.at c.in-Ok.count c.loop-at.invariant.appends c.in-Ok.ensures.ok.bytes;
      bound = omega (arith, room, c.loop-at.invariant.bound);
      later = omega (arith, c.write.ensures.later, c.loop-at.invariant.later);
      writes = written c.in-Ok.count c.loop-at.invariant.writes c.in-Ok.ensures.gives;
    }

pub returns-in-Err-clause-err : goal.returns-in-Err-clause-err
returns-in-Err-clause-err g c = writes_front _ _ _ c.args.bytes.now c.loop-at.at c.loop-at.invariant.bound c.loop-at.invariant.appends c.in-Err.ensures.err

pub returns-clause-writes : goal.returns-clause-writes
returns-clause-writes g c = c.loop-at.invariant.writes
