use Rattle.text_table.proofs.Words.{rank_word, rank_placed_word, rank_note}
use Rattle.text_table.proofs.laws.rests_are_below.Goals as goal

pub returns-clause-word : goal.returns-clause-word
returns-clause-word c = rank_word

pub returns-clause-placed : goal.returns-clause-placed
returns-clause-placed c = rank_placed_word

pub returns-clause-note : goal.returns-clause-note
returns-clause-note c = rank_note
