use Rattle.comp_expanded.proofs.NamingExpands.{expand-expands}
use Rattle.comp_expanded.proofs.laws.naming_expands.Goals as goal

pub returns : goal.returns
returns c = expand-expands
