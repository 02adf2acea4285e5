use Rattle.std.proofs.Common.{arith}
use Rattle.wast_tokens.proofs.Classes.{class_at}
use Rattle.wast_tokens.proofs.chars.class_of.Goals as goal

pub returns : goal.returns
returns c = record { class = class_at c.args.b (omega arith) }
