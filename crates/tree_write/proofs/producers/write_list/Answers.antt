use Rattle.std.proofs.Common.{refl}
use Rattle.comp_model.specs.Payloads.{producer_bytes, producers_bytes}
use Rattle.comp_tree.specs.Lists.{listed, nodes_listed}
use Rattle.comp_tree.specs.declared.tree.Node.{Node}
use Rattle.tree_write.proofs.Turns.{starts, turn_at}
use Rattle.tree_write.proofs.producers.write_list.Goals as goal

pub loop-i-init : goal.loop-i-init
loop-i-init g c = λ cores. starts (λ ns. producers_bytes (nodes_listed cores ns)) (λ (n : Node). producer_bytes (listed cores n.leaves.now)) refl (λ x xs. refl) c.args.nodes.now _

pub loop-i-preserved : goal.loop-i-preserved
loop-i-preserved g c =
    λ cores. turn_at (λ ns. producers_bytes (nodes_listed cores ns)) (λ (n : Node). producer_bytes (listed cores n.leaves.now)) refl (λ x xs. refl) c.args.nodes.now c.loop-i.i _ _ _ _ c.loop-i-test.true c.loop-i.auto.i (c.loop-i.invariant cores) (c.write_producer.ensures cores)
