use Rattle.open_scopes.proofs.AliasNoted.{noted}
use Rattle.open_scopes.proofs.aliases.Aliases.note.Goals as goal

pub returns-in-Ok : goal.returns-in-Ok
returns-in-Ok c = λ xs d h i free. noted c.args.self.now.by_item.entries c.insert.new.self.entries xs c.alias_key.result c.args.space d c.args.index (c.alias_key.ensures d i) c.in-Ok.ensures.updates.0 h free
