use Rattle.rule_runs.proofs.Runs.{run_plain_name}
use Rattle.rule_runs.proofs.laws.names_run.Goals as goal

pub returns : goal.returns
returns c = run_plain_name
