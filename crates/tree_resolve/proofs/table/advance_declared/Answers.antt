use Rattle.std.proofs.Common.{ap, ◌∙◌}
use Rattle.comp_tables.specs.Walks.{all_more}
use Rattle.tree_resolve.proofs.Room.{room_for}
use Rattle.tree_resolve.proofs.table.advance_declared.Goals as goal

pub advance_all-requires : goal.advance_all-requires
advance_all-requires c = record { room = room_for c.args.counters.now _ _ (c.in-Some.ensures c.requires.room.0) c.requires.room.1 }

pub returns-in-Some-clause-advanced : goal.returns-in-Some-clause-advanced
returns-in-Some-clause-advanced c = λ C. c.advance_all.ensures.advanced ∙ ap (all_more c.args.counters.now) (c.in-Some.ensures C)
