use Rattle.std.proofs.Common.{Some}
use Rattle.std.proofs.lemmas.Map.Text.{btree_map_updates_str}
use Rattle.comp_compose.proofs.names.Names.add.Goals as goal

pub returns-in-Ok : goal.returns-in-Ok
returns-in-Ok c = λ x. btree_map_updates_str c.args.name.now c.args.self.now.items c.insert.new.self (Some c.args.item) c.in-Ok.ensures.updates x
