use Rattle.comp_wire.proofs.TypeRows.{core_type_row-Module}
use Rattle.comp_wire_tests.proofs.tests.types.module_type.Goals as goal

pub returns : goal.returns
returns c = core_type_row-Module c.args.decls
