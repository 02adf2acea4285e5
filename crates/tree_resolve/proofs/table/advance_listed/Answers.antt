use Rattle.std.proofs.Common.{◌∙◌}
use Rattle.tree_resolve.proofs.Room.{room_for}
use Rattle.tree_resolve.proofs.table.advance_listed.Goals as goal

pub advance_all-requires : goal.advance_all-requires
advance_all-requires c = record { room = room_for c.args.counters.now _ _ (c.deref.ensures.value ∙ c.in-Ok.ensures c.requires.room.0) c.requires.room.1 }
