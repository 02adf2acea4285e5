use Rattle.std.proofs.Common.{◌∙◌, refl, ap, length, ◌+◌, ◌*◌, ◌^◌, arith}
use Rattle.comp_list.specs.Runs.{run_of}
use Rattle.comp_list.specs.Spots.{spots_of}
use Rattle.comp_list.proofs.DefSpots.{item_turn}
use Rattle.comp_list.proofs.SpotRoom.{spots_within, run_counted, items_turn}
use Rattle.comp_list.proofs.spots.push_items.Goals as goal

pub push_run-requires-clause-few : goal.push_run-requires-clause-few
push_run-requires-clause-few c =
    let fits = c.loop-item.invariant.0 in
    let turn = items_turn c.args.items.now c.loop-item.item-index c.item-item.result fits.0 c.loop-item.def c.loop-item-test.true c.item-item.is fits.1 in
    omega (arith, turn.0.3, run_counted c.item_run.result _ c.item_run.ensures)

pub push_run-requires-clause-room : goal.push_run-requires-clause-room
push_run-requires-clause-room c = λ s. omega (arith, c.loop-item.invariant.1 s)

pub loop-item-preserved : goal.loop-item-preserved
loop-item-preserved c =
    let fits = c.loop-item.invariant.0 in
    let turn = items_turn c.args.items.now c.loop-item.item-index c.item-item.result fits.0 c.loop-item.def c.loop-item-test.true c.item-item.is fits.1 in
    let within = spots_within c.loop-item.spots c.push_run.new.spots (c.loop-item.def * 2 ^ 32) c.loop-item.def 0 (run_of c.item_run.result) c.in_ok-push_run.ensures.1 c.loop-item.invariant.1 in (
      (fits.0, turn.2),
      λ s. omega (arith, within s, turn.0.3, ap length c.item_run.ensures),
      λ s.
          item_turn s c.loop-item.def (c.loop-item.def + 1) c.args.items.now c.loop-item.item-index c.item-item.result c.item_run.result (spots_of c.loop-item.spots s) (spots_of c.push_run.new.spots s) c.loop-item-test.true c.item-item.is c.item_run.ensures refl (c.in_ok-push_run.ensures.1 s)
          ∙ c.loop-item.invariant.2 s,
    )
