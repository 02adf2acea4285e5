use Rattle.comp_wire.proofs.TypeRows.{type_row-Component}
use Rattle.comp_wire_tests.proofs.tests.types.component_type.Goals as goal

pub returns : goal.returns
returns c = type_row-Component c.args.decls
