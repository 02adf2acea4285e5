use Rattle.rule_runs.proofs.Runs.{run_also, run_wraps}
use Rattle.rule_runs.proofs.laws.parts_are_made.Goals as goal

pub returns-clause-also : goal.returns-clause-also
returns-clause-also c = run_also

pub returns-clause-wraps : goal.returns-clause-wraps
returns-clause-wraps c = run_wraps
