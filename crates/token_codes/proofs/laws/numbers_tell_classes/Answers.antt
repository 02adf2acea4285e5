use Rattle.token_codes.proofs.Tables.{number_of_class, told_by_number_too, among_range}
use Rattle.token_codes.proofs.laws.numbers_tell_classes.Goals as goal

pub returns-clause-own : goal.returns-clause-own
returns-clause-own c = number_of_class

pub returns-clause-told : goal.returns-clause-told
returns-clause-told c = told_by_number_too

pub returns-clause-range : goal.returns-clause-range
returns-clause-range c = among_range
