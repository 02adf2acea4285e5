use Rattle.comp_wire.proofs.OneComponent.{one_spelling}
use Rattle.comp_wire.proofs.laws.component_has_one_spelling.Goals as goal

pub returns : goal.returns
returns c = record { one_spelling = one_spelling }
