use Rattle.print_table.proofs.Converse.{passing_is_printable}
use Rattle.print_table.proofs.laws.passing_is_printable.Goals as goal

pub returns : goal.returns
returns c = passing_is_printable
