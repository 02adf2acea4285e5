use Rattle.item_read.specs.Rows.{IsCoreFunction}
use Rattle.item_read.proofs.ListRows.{one_of_all}
use Rattle.item_read.proofs.core_types.all_functions.Goals as goal

pub function_of-requires : goal.function_of-requires
function_of-requires c = one_of_all IsCoreFunction _ c.args.nodes.now c.loop-node.node-index c.requires c.loop-node-test.true
