use Rattle.tree_write.proofs.ItemNames.{item_pushed}
use Rattle.tree_write.proofs.item_names.push_name.Goals as goal

pub returns-in-Ok : goal.returns-in-Ok
returns-in-Ok c = λ s. rw c.in-Some.is (item_pushed s c.args.items.now.items c.push.new.self.items (record { space = c.args.space; index = c.args.index; name = c.in-Some.name }) c.in-Ok.ensures.items)
