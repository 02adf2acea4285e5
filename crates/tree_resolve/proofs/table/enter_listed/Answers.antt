use Rattle.std.proofs.Common.{subst, ◌∙◌}
use Rattle.tree_resolve.specs.Tabled.{ItemsEntered}
use Rattle.tree_resolve.proofs.Room.{room_for}
use Rattle.tree_resolve.proofs.table.enter_listed.Goals as goal

pub enter_items-requires : goal.enter_items-requires
enter_items-requires c = record { room = room_for c.args.counters.now _ _ (c.deref.ensures.value ∙ c.in-Ok.ensures c.requires.room.0) c.requires.room.1 }

pub returns-in-Ok-enter_items-clause-entered : goal.returns-in-Ok-enter_items-clause-entered
returns-in-Ok-enter_items-clause-entered c = λ C.
    subst (λ z. ItemsEntered c.args.counters.now z c.args.table.now.items c.enter_items.new.table.items c.enter_items.new.counters) (c.deref.ensures.value ∙ c.in-Ok.ensures C) c.in-Ok-enter_items.ensures.entered
