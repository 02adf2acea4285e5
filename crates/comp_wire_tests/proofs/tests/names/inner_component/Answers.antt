use Rattle.comp_wire.proofs.DefRows.{definition_row-Component}
use Rattle.comp_wire_tests.proofs.tests.names.inner_component.Goals as goal

pub returns : goal.returns
returns c = definition_row-Component c.args.defs c.args.names
