use Rattle.std.proofs.Common.{◌∙◌, refl, ap, sym}
use Rattle.token_codes.specs.Numbers.{number}
use Rattle.wast_grammar.specs.Stand.{class_at}
use Rattle.tree_read.proofs.Tokens.{next_then, next_else}
use Rattle.tree_read.proofs.reader.Reader.is_next.Goals as goal

pub returns-then-self-code : goal.returns-then-self-code
returns-then-self-code c = next_then c.self.inside.code c.args.code (class_at c.args.self.now) (c.self.invariant.0 ∙ ap (λ s. number (class_at s)) c.self.view_is) c.if-self-code.true

pub returns-else-self-code : goal.returns-else-self-code
returns-else-self-code c = next_else c.self.inside.code c.args.code (class_at c.args.self.now) (c.self.invariant.0 ∙ ap (λ s. number (class_at s)) c.self.view_is) c.if-self-code.false
