use Rattle.core_made.proofs.OfText.{module_fields_are, fields_alone_are, read_fields_are}
use Rattle.core_made.proofs.laws.made_of_text_is_meant.Goals as goal

pub returns-clause-module_fields : goal.returns-clause-module_fields
returns-clause-module_fields c = module_fields_are

pub returns-clause-fields_alone : goal.returns-clause-fields_alone
returns-clause-fields_alone c = fields_alone_are

pub returns-clause-read : goal.returns-clause-read
returns-clause-read c = read_fields_are
