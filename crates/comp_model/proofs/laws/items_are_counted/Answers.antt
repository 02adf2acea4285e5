use Rattle.comp_model.proofs.Counts.{items-counted, item-behind}
use Rattle.comp_model.proofs.laws.items_are_counted.Goals as goal

pub returns-clause-number : goal.returns-clause-number
returns-clause-number c = items-counted

pub returns-clause-behind : goal.returns-clause-behind
returns-clause-behind c = item-behind
