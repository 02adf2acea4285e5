use Rattle.comp_tree.specs.Model.{id_of}
use Rattle.tree_write.proofs.ItemNames.{at_place, behind_last}
use Rattle.tree_write.proofs.item_names.id_at.Goals as goal

pub returns-then-at-ids : goal.returns-then-at-ids
returns-then-at-ids c = at_place id_of c.args.ids.now c.args.at c.if-at-ids.true

pub returns-else-at-ids : goal.returns-else-at-ids
returns-else-at-ids c = behind_last id_of c.args.ids.now c.args.at c.if-at-ids.false
