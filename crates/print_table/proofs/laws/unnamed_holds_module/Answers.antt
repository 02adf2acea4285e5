use Rattle.print_table.proofs.NamesHold.{unnamed_holds}
use Rattle.print_table.proofs.laws.unnamed_holds_module.Goals as goal

pub returns : goal.returns
returns c = unnamed_holds
