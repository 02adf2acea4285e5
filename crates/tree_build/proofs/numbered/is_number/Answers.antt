use Rattle.tree_build.proofs.LeafKinds.{not_number}
use Rattle.tree_build.proofs.numbered.is_number.Goals as goal

pub returns-in_default : goal.returns-in_default
returns-in_default c = λ cs. not_number c.args.number cs c.args.leaf.now c.in_default.not-Number
