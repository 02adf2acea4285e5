use Rattle.std.proofs.Common.{sym}
use Rattle.wast_tokens.proofs.Classes.{line_within, block_opens}
use Rattle.wast_tokens.proofs.lexer.step_at.Goals as goal

pub line_end-requires : goal.line_end-requires
line_end-requires c = record { here = line_within _ _ (sym c.in-LineComment.ensures.beginning) }

pub block_end-requires : goal.block_end-requires
block_end-requires c = record { opened = block_opens _ _ (sym c.in-BlockComment.ensures.beginning) }
