use Rattle.comp_tree.specs.Model.{lent_text}
use Rattle.tree_resolve.proofs.RegisterSteps.{part_there}
use Rattle.tree_resolve.proofs.naming.label_at.Goals as goal

pub returns-then-part-labels : goal.returns-then-part-labels
returns-then-part-labels c = part_there lent_text c.args.labels.now c.args.part c.if-part-labels.true
