use Rattle.text_table.proofs.Words.{run_word, run_placed_word, run_note}
use Rattle.text_table.proofs.laws.numbered_rules_run.Goals as goal

pub returns-clause-word : goal.returns-clause-word
returns-clause-word c = run_word

pub returns-clause-placed : goal.returns-clause-placed
returns-clause-placed c = run_placed_word

pub returns-clause-note : goal.returns-clause-note
returns-clause-note c = run_note
