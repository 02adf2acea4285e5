use Rattle.tree_write.proofs.ProducerFields.{at_place, behind_leaves}
use Rattle.tree_write.proofs.producers.nodes_at.Goals as goal

pub returns-then-at-leaves : goal.returns-then-at-leaves
returns-then-at-leaves c = λ cores x xs. at_place cores c.args.leaves.now c.args.at c.index-leaves-at.result c.as_nodes.result c.if-at-leaves.true c.index-leaves-at.is (c.as_nodes.ensures cores) x xs

pub returns-else-at-leaves : goal.returns-else-at-leaves
returns-else-at-leaves c = λ cores x xs. behind_leaves cores c.args.leaves.now c.args.at x xs c.if-at-leaves.false
