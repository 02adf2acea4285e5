use Rattle.comp_expanded.proofs.HasNaming.{expands-expand}
use Rattle.comp_expanded.proofs.laws.expansion_has_naming.Goals as goal

pub returns : goal.returns
returns c = expands-expand
