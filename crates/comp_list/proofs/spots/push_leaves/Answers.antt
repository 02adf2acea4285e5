use Rattle.std.proofs.Common.{◌≡◌, ◌++◌, ◌+◌, ◌*◌, ◌^◌, ap, sym, ◌∙◌, length, drop, arith}
use Rattle.comp_model.specs.Spaces.{leaf_spaces, leaves_spaces}
use Rattle.wire_tree.specs.Lists.{listed}
use Rattle.wire_tree.specs.Model.{leaf_of}
use Rattle.comp_list.specs.Runs.{run_of}
use Rattle.comp_list.specs.Spots.{spots_of, def_spots}
use Rattle.comp_list.proofs.DefSpots.{leaf_step, drop_item}
use Rattle.comp_list.proofs.SpotRoom.{spots_within, run_counted, leaves_turn}
use Rattle.comp_list.proofs.spots.push_leaves.Goals as goal

pub push_run-requires-clause-few : goal.push_run-requires-clause-few
push_run-requires-clause-few c =
    omega (
      arith,
      c.loop-leaf.invariant.0,
      leaves_turn c.args.leaves.now c.loop-leaf.leaf-index c.leaf-item.result c.args.by c.loop-leaf-test.true c.leaf-item.is,
      run_counted c.leaf_run.result _ c.leaf_run.ensures,
    )

pub loop-leaf-preserved : goal.loop-leaf-preserved
loop-leaf-preserved c =
    let within = spots_within c.loop-leaf.spots c.push_run.new.spots (c.args.def * 2 ^ 32 + c.loop-leaf.part) c.args.def c.loop-leaf.part (run_of c.leaf_run.result) c.in_ok-part.ensures.1 c.loop-leaf.invariant.1 in (
      omega (
        arith,
        c.loop-leaf.invariant.0,
        leaves_turn c.args.leaves.now c.loop-leaf.leaf-index c.leaf-item.result c.args.by c.loop-leaf-test.true c.leaf-item.is,
        ap length c.leaf_run.ensures,
        c.in_ok-part.ensures.0,
      ),
      λ s. omega (arith, within s, c.in_ok-part.ensures.0),
      λ s.
          leaf_step s c.args.def c.loop-leaf.part c.in_ok-part.part c.args.by c.leaf-item.result (drop (c.loop-leaf.leaf-index + 1) c.args.leaves.now) c.leaf_run.result (spots_of c.loop-leaf.spots s) (spots_of c.push_run.new.spots s)
          c.leaf_run.ensures c.in_ok-part.ensures.0 (c.in_ok-part.ensures.1 s)
          ∙ ap (λ q. spots_of c.loop-leaf.spots s ++ def_spots s c.args.def c.loop-leaf.part (leaves_spaces (listed q) c.args.by)) (sym (drop_item c.args.leaves.now c.loop-leaf.leaf-index c.leaf-item.result c.loop-leaf-test.true c.leaf-item.is))
          ∙ c.loop-leaf.invariant.2 s,
    )
