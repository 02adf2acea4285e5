use Rattle.comp_tables.proofs.Walks.{count-all, table-all, read-all}
use Rattle.comp_tables.proofs.laws.walks_fill_tables.Goals as goal

pub returns-clause-count : goal.returns-clause-count
returns-clause-count c = count-all

pub returns-clause-table : goal.returns-clause-table
returns-clause-table c = λ os ds w. (table-all os ds w).0

pub returns-clause-refused : goal.returns-clause-refused
returns-clause-refused c = λ os ds w. (table-all os ds w).1

pub returns-clause-read : goal.returns-clause-read
returns-clause-read c = read-all
