use Rattle.rule_runs.proofs.Runs.{run_many, run_many_by}
use Rattle.rule_runs.proofs.laws.lists_run.Goals as goal

pub returns-clause-many : goal.returns-clause-many
returns-clause-many c = λ t x s a f. run_many t x s a f.sound

pub returns-clause-many_by : goal.returns-clause-many_by
returns-clause-many_by c = λ t x s a f. run_many_by t x s a f.sound
