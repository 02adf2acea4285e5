use Rattle.std.proofs.Common.{◌∙◌, ap}
use Rattle.open_scopes.specs.Aliases.{index_under}
use Rattle.open_scopes.proofs.aliases.Aliases.find.Goals as goal

pub returns : goal.returns
returns c = λ xs d h i. c.copied.ensures ∙ c.get.ensures.value ∙ ap (index_under c.args.self.now.by_item.entries) (c.alias_key.ensures d i) ∙ h c.args.space d
