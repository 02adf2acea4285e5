use Rattle.text_rules.proofs.TableReads.{begin_with_tokens}
use Rattle.text_rules.proofs.laws.rows_begin_with_tokens.Goals as goal

pub returns : goal.returns
returns c = begin_with_tokens
