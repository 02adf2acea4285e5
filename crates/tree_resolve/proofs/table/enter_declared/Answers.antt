use Rattle.std.proofs.Common.{subst}
use Rattle.tree_resolve.specs.Tabled.{ItemsEntered}
use Rattle.tree_resolve.proofs.Outcomes.{on-weaker}
use Rattle.tree_resolve.proofs.Room.{room_for}
use Rattle.tree_resolve.proofs.table.enter_declared.Goals as goal

pub enter_items-requires : goal.enter_items-requires
enter_items-requires c = record { room = room_for c.args.counters.now _ _ (c.in-Some.ensures c.requires.room.0) c.requires.room.1 }

pub returns-in-Some-clause-entered : goal.returns-in-Some-clause-entered
returns-in-Some-clause-entered c = λ C.
    on-weaker c.enter_items.result c.enter_items.ensures.entered
    (λ w. subst (λ z. ItemsEntered c.args.counters.now z c.args.table.now.items c.enter_items.new.table.items c.enter_items.new.counters) (c.in-Some.ensures C) w)
