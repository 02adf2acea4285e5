use Rattle.print_table.proofs.TestsPassed.{printable_has_text, printable_holds_none}
use Rattle.print_table.proofs.laws.printable_passes.Goals as goal

pub returns-clause-text : goal.returns-clause-text
returns-clause-text c = printable_has_text

pub returns-clause-no_module : goal.returns-clause-no_module
returns-clause-no_module c = printable_holds_none
