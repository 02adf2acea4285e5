use Rattle.std.proofs.Common.{◌≡◌, List, length, ◌-◌}
use Rattle.wast_tokens.specs.Tiling.{Chain, Lexeme, kept}
use Rattle.wast_tokens.proofs.lexer.lex.Given as goal

abbrev pub invariant-loop-at : goal.invariant-loop-at
invariant-loop-at l = (ls : List Lexeme) × Chain l.bytes 0 ls l.at × (l.tokens.items ≡ kept ls)

abbrev pub decreases-loop-at : goal.decreases-loop-at
decreases-loop-at l = length l.bytes - l.at
