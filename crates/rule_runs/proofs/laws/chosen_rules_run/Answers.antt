use Rattle.rule_runs.proofs.Runs.{run_pair, run_either, run_by_test, run_case, run_no_case, run_row}
use Rattle.rule_runs.proofs.laws.chosen_rules_run.Goals as goal

pub returns-clause-pair : goal.returns-clause-pair
returns-clause-pair c = run_pair

pub returns-clause-either : goal.returns-clause-either
returns-clause-either c = run_either

pub returns-clause-by_test : goal.returns-clause-by_test
returns-clause-by_test c = run_by_test

pub returns-clause-case : goal.returns-clause-case
returns-clause-case c = λ n t x y s a f. run_case n t x y s a f.sound

pub returns-clause-no_case : goal.returns-clause-no_case
returns-clause-no_case c = run_no_case

pub returns-clause-row : goal.returns-clause-row
returns-clause-row c = run_row
