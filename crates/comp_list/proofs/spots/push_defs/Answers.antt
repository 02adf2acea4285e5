use Rattle.std.proofs.Common.{◌∙◌, refl, ◌+◌}
use Rattle.comp_list.specs.Spots.{spots_of}
use Rattle.comp_list.proofs.DefSpots.{def_turn}
use Rattle.comp_list.proofs.SpotRoom.{rows_turn, rows_rest, row_within}
use Rattle.comp_list.proofs.spots.push_defs.Goals as goal

pub push_def-requires-clause-few : goal.push_def-requires-clause-few
push_def-requires-clause-few c =
    let fits = c.loop-node.invariant.0 in
    (rows_turn c.args.defs.now c.loop-node.node-index _ fits.0 c.loop-node.def c.loop-node-test.true fits.1).0.3

pub loop-node-preserved : goal.loop-node-preserved
loop-node-preserved c =
    let fits = c.loop-node.invariant.0 in (
      (fits.0, rows_rest c.args.defs.now c.loop-node.node-index fits.0 c.loop-node.def c.loop-node-test.true fits.1),
      row_within c.args.defs.now c.loop-node.node-index _ fits.0 c.loop-node.def c.loop-node.spots c.push_def.new.spots c.loop-node-test.true fits.1 c.in_ok-push_def.ensures c.loop-node.invariant.1,
      λ s.
          def_turn s c.loop-node.def (c.loop-node.def + 1) c.args.defs.now c.loop-node.node-index _ (spots_of c.loop-node.spots s) (spots_of c.push_def.new.spots s) c.loop-node-test.true refl (c.in_ok-push_def.ensures s)
          ∙ c.loop-node.invariant.2 s,
    )
