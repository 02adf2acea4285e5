use Rattle.tree_read.proofs.Tokens.{next_then, next_else}
use Rattle.tree_read.proofs.names.is_word.Goals as goal

pub returns-then-code-word : goal.returns-then-code-word
returns-then-code-word c = λ d e. next_then c.args.code c.args.word d e c.if-code-word.true

pub returns-else-code-word : goal.returns-else-code-word
returns-else-code-word c = λ d e. next_else c.args.code c.args.word d e c.if-code-word.false
