use Rattle.std.proofs.Common.{◌∙◌, sym}
use Rattle.wast_parser.specs.View.{stand_of}
use Rattle.token_codes.proofs.Ends.{nothing_behind}
use Rattle.token_codes.proofs.next.number_behind.Goals as goal

pub returns-then-is_at_end : goal.returns-then-is_at_end
returns-then-is_at_end c = nothing_behind (stand_of c.args.cursor) (sym c.is_at_end.ensures.end ∙ c.if-is_at_end.true)
