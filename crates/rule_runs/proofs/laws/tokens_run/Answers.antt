use Rattle.rule_runs.proofs.Runs.{run_nothing, run_placed, run_keeps, run_silent, run_reference, run_told}
use Rattle.rule_runs.proofs.laws.tokens_run.Goals as goal

pub returns-clause-nothing : goal.returns-clause-nothing
returns-clause-nothing c = run_nothing

pub returns-clause-placed : goal.returns-clause-placed
returns-clause-placed c = run_placed

pub returns-clause-keeps : goal.returns-clause-keeps
returns-clause-keeps c = run_keeps

pub returns-clause-silent : goal.returns-clause-silent
returns-clause-silent c = run_silent

pub returns-clause-reference : goal.returns-clause-reference
returns-clause-reference c = run_reference

pub returns-clause-told : goal.returns-clause-told
returns-clause-told c = run_told
