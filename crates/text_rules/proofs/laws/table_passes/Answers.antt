use Rattle.text_rules.proofs.Passes.{passes}
use Rattle.text_rules.proofs.laws.table_passes.Goals as goal

pub returns : goal.returns
returns c = passes
