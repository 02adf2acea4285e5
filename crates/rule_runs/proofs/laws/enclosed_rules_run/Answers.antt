use Rattle.rule_runs.proofs.Runs.{run_before, run_after, run_marks, run_skipping, run_checked}
use Rattle.rule_runs.proofs.laws.enclosed_rules_run.Goals as goal

pub returns-clause-before : goal.returns-clause-before
returns-clause-before c = run_before

pub returns-clause-after : goal.returns-clause-after
returns-clause-after c = run_after

pub returns-clause-marks : goal.returns-clause-marks
returns-clause-marks c = run_marks

pub returns-clause-skipping : goal.returns-clause-skipping
returns-clause-skipping c = run_skipping

pub returns-clause-checked : goal.returns-clause-checked
returns-clause-checked c = run_checked
