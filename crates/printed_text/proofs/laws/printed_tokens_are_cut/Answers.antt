use Rattle.printed_text.proofs.Lexical.{tokens_are_text}
use Rattle.printed_text.proofs.laws.printed_tokens_are_cut.Goals as goal

pub returns : goal.returns
returns c = tokens_are_text
