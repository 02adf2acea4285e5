use Rattle.std.proofs.Common.{sym}
use Rattle.comp_list.proofs.DefSpots.{nodes_spaces}
use Rattle.comp_list.proofs.runs.leaf_run.Goals as goal

pub returns-in-ByList : goal.returns-in-ByList
returns-in-ByList c = rw c.in-ByList.is (sym (nodes_spaces c.args.leaf.now c.in-Nodes.nodes c.in-Nodes.is))
