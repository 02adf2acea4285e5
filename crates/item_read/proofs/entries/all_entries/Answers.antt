use Rattle.std.proofs.Common.{refl}
use Rattle.item_read.proofs.ListRows.{one_of_all}
use Rattle.item_read.proofs.entries.all_entries.Goals as goal

pub of_node-requires : goal.of_node-requires
of_node-requires g c κs = ((refl, tt), one_of_all g.T.Entry.is_entry _ c.args.nodes.now c.loop-node.node-index c.requires c.loop-node-test.true)
