use Rattle.comp_tables.proofs.Aliased.{alias-served}
use Rattle.comp_tables.proofs.Counts.{head-held, moved-past}
use Rattle.comp_tables.proofs.laws.counters_count.Goals as goal

pub returns-clause-head : goal.returns-clause-head
returns-clause-head c = head-held

pub returns-clause-front : goal.returns-clause-front
returns-clause-front c = moved-past

pub returns-clause-serve : goal.returns-clause-serve
returns-clause-serve c = alias-served
