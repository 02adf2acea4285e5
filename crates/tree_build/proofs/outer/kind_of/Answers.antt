use Rattle.tree_build.proofs.LeafKinds.{no_kind}
use Rattle.tree_build.proofs.outer.kind_of.Goals as goal

pub returns-in_default : goal.returns-in_default
returns-in_default c = λ fs cs. no_kind fs cs c.args.leaf.now c.in_default.not-Kind
