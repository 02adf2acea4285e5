use Rattle.core_groups.proofs.OfRows.{params-groups, results-groups, locals-groups}
use Rattle.core_groups.proofs.rows_are_groups.Goals as goal

pub returns-clause-params : goal.returns-clause-params
returns-clause-params c = params-groups

pub returns-clause-results : goal.returns-clause-results
returns-clause-results c = results-groups

pub returns-clause-locals : goal.returns-clause-locals
returns-clause-locals c = locals-groups
