use Rattle.std.proofs.Common.{refl, ap, ◌∙◌, arith}
use Rattle.comp_tree.specs.Model.{leaf_of}
use Rattle.tree_build.specs.Held.{loose}
use Rattle.tree_build.proofs.Prefixes.{grows_itself, grows_then, final_before}
use Rattle.tree_build.proofs.Slices.{same_left, left_behind, one_done, all_done}
use Rattle.tree_build.proofs.modules.settle.Goals as goal

pub leaves-init : goal.leaves-init
leaves-init c = record { grows = grows_itself c.args.cores.now; done = λ fs cs h. refl; left = refl }

pub leaves-preserved : goal.leaves-preserved
leaves-preserved c =
    let q = c.leaves.invariant in
    record {
      grows = grows_then c.args.cores.now c.leaves.cores c.settled.new.cores q.grows c.in-Ok.ensures.grows;
      done = λ fs cs h.
          one_done (leaf_of cs) (loose fs cs) c.leaves.i c.leaves.leaves c.args.leaves.now c.in-Ok.leaf c.index-leaves-i.result (omega (arith, c.leaves-test.true, c.leaves.auto.leaves)) c.leaves.auto.leaves (q.done fs cs (final_before fs cs c.leaves.cores c.settled.new.cores c.in-Ok.ensures.grows h))
          (c.in-Ok.ensures.leaf fs cs h ∙ ap (loose fs cs) (c.index-leaves-i.is ∙ same_left c.leaves.i c.leaves.leaves c.args.leaves.now c.index-leaves-i.result (omega (arith, c.leaves-test.true, c.leaves.auto.leaves)) q.left));
      left = left_behind c.leaves.i c.leaves.leaves c.args.leaves.now c.in-Ok.leaf q.left;
    }

pub returns-clause-grows : goal.returns-clause-grows
returns-clause-grows c = c.leaves.invariant.grows

pub returns-clause-leaves : goal.returns-clause-leaves
returns-clause-leaves c = λ fs cs h. all_done (leaf_of cs) (loose fs cs) c.leaves.i c.leaves.leaves c.args.leaves.now c.leaves-test.false c.leaves.auto.leaves (c.leaves.invariant.done fs cs h)
