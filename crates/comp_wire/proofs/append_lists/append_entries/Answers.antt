use Rattle.std.proofs.Common.{arith}
use Rattle.comp_wire.proofs.Lists.{counted, list_written, turn_fits, turn_written}
use Rattle.comp_wire.proofs.append_lists.append_entries.Goals as goal

pub overflow_cast-entries : goal.overflow_cast-entries
overflow_cast-entries g c = omega (arith, c.requires.0, counted g.T.Entry.entry_row c.args.entries.now)

pub returns : goal.returns
returns g c = list_written g.T.Entry.entry_row g.T.Entry.family c.args.entries.now c.loop-entry.entry-index c.args.out.now.items c.uleb.new.out.items c.loop-entry.out.items c.loop-entry-test.false c.in_ok-uleb.ensures.appended c.loop-entry.invariant.written

pub append_entry-requires : goal.append_entry-requires
append_entry-requires g c = (turn_fits g.T.Entry.entry_row g.T.Entry.family c.args.entries.now c.loop-entry.entry-index c.entry-item.result c.loop-entry-test.true c.entry-item.is c.loop-entry.invariant.fits).0

pub loop-entry-preserved : goal.loop-entry-preserved
loop-entry-preserved g c = record {
  written = turn_written g.T.Entry.entry_row g.T.Entry.family c.args.entries.now c.loop-entry.entry-index c.entry-item.result c.loop-entry-test.true c.entry-item.is _ c.loop-entry.out.items c.append_entry.new.out.items c.loop-entry.invariant.written c.in_ok-append_entry.ensures;
  fits = (turn_fits g.T.Entry.entry_row g.T.Entry.family c.args.entries.now c.loop-entry.entry-index c.entry-item.result c.loop-entry-test.true c.entry-item.is c.loop-entry.invariant.fits).1;
}
