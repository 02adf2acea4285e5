use Rattle.text_rules.proofs.TableReads.{rows_fit, text_fits}
use Rattle.text_rules.proofs.laws.rules_are_readable.Goals as goal

pub returns-clause-rows : goal.returns-clause-rows
returns-clause-rows c = rows_fit

pub returns-clause-text : goal.returns-clause-text
returns-clause-text c = text_fits
