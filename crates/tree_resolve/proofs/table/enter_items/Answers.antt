use Rattle.std.proofs.Common.{sym, subst, ◌+◌, ◌<◌, ◌^◌, length, ℕ}
use Rattle.tree_resolve.proofs.Room.{first_fits}
use Rattle.tree_resolve.proofs.table.enter_items.Goals as goal

pub returns-clause-entered : goal.returns-clause-entered
returns-clause-entered c = record {
  index = c.first_of-first.result;
  table = c.in-Ok.ensures.items;
  first = c.first_of-first.ensures;
  small = subst (λ (i : ℕ). i + length c.args.spaces.now < 2 ^ 32) (sym c.first_of-first.ensures) (first_fits c.args.counters.now c.args.spaces.now c.requires.room);
  behind = c.advance_all.ensures.advanced;
}
