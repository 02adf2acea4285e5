use Rattle.comp_wire.proofs.TypeRows.{type_row-Instance}
use Rattle.comp_wire_tests.proofs.tests.types.instance_type.Goals as goal

pub returns : goal.returns
returns c = type_row-Instance c.args.decls
