use Rattle.comp_tree.specs.Model.{lent_text}
use Rattle.tree_write.proofs.ItemNames.{at_place, behind_last}
use Rattle.tree_write.proofs.item_names.label_at.Goals as goal

pub returns-then-at-labels : goal.returns-then-at-labels
returns-then-at-labels c = at_place lent_text c.args.labels.now c.args.at c.if-at-labels.true

pub returns-else-at-labels : goal.returns-else-at-labels
returns-else-at-labels c = behind_last lent_text c.args.labels.now c.args.at c.if-at-labels.false
