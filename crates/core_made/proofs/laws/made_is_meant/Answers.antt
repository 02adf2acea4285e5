use Rattle.core_made.proofs.Fields.{core_module_is, named_module_is}
use Rattle.core_made.proofs.laws.made_is_meant.Goals as goal

pub returns-clause-fields : goal.returns-clause-fields
returns-clause-fields c = core_module_is

pub returns-clause-named : goal.returns-clause-named
returns-clause-named c = named_module_is
