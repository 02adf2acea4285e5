use Rattle.std.proofs.Common.{refl}
use Rattle.comp_tree.specs.Model.{joined, lent_text}
use Rattle.tree_write.proofs.Turns.{starts, turn_at}
use Rattle.tree_write.proofs.leaf.write_joined.Goals as goal

pub loop-i-init : goal.loop-i-init
loop-i-init g c = starts joined lent_text refl (λ x xs. refl) c.args.pieces.now _

pub loop-i-preserved : goal.loop-i-preserved
loop-i-preserved g c = turn_at joined lent_text refl (λ x xs. refl) c.args.pieces.now c.loop-i.i _ _ _ _ c.loop-i-test.true c.loop-i.auto.i c.loop-i.invariant c.bytes.ensures
