use Rattle.tree_build.proofs.LeafKinds.{no_core}
use Rattle.tree_build.proofs.modules.core_number.Goals as goal

pub returns-in_default : goal.returns-in_default
returns-in_default c = no_core c.args.leaf.now c.in_default.not-Core
