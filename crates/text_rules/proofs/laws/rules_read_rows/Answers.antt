use Rattle.text_rules.proofs.TableReads.{reads_rows, reads_wat_item}
use Rattle.text_rules.proofs.laws.rules_read_rows.Goals as goal

pub returns-clause-rows : goal.returns-clause-rows
returns-clause-rows c = reads_rows

pub returns-clause-text : goal.returns-clause-text
returns-clause-text c = reads_wat_item
