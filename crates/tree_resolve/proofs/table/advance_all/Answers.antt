use Rattle.std.proofs.Common.{◌+◌, ◌∙◌, sym, ap, subst, drop, length}
use Rattle.std.proofs.lemmas.List.{drop_more}
use Rattle.comp_tables.specs.Walks.{all_more}
use Rattle.tree_names.specs.Room.{CountersHaveRoom}
use Rattle.tree_resolve.proofs.Room.{room_next, room_behind}
use Rattle.tree_resolve.proofs.table.advance_all.Goals as goal

pub advance-requires : goal.advance-requires
advance-requires c = room_next c.loop-space.counters _ (drop (c.loop-space.space-index + 1) c.args.spaces.now) _ (drop_more c.args.spaces.now c.loop-space.space-index _ c.loop-space-test.true) c.loop-space.invariant.1

pub loop-space-preserved : goal.loop-space-preserved
loop-space-preserved c =
    let left = drop_more c.args.spaces.now c.loop-space.space-index _ c.loop-space-test.true in (
      ap (λ z. all_more z (drop (c.loop-space.space-index + 1) c.args.spaces.now)) c.advance.ensures ∙ sym (ap (all_more c.loop-space.counters) left) ∙ c.loop-space.invariant.0,
      subst (λ z. CountersHaveRoom z (length (drop (c.loop-space.space-index + 1) c.args.spaces.now))) (sym c.advance.ensures) (room_behind c.loop-space.counters _ _ _ left c.loop-space.invariant.1),
    )
