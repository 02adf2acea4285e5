use Rattle.std.proofs.Common.{sym}
use Rattle.wast_tokens.proofs.Named.{named_id, named_bad}
use Rattle.wast_tokens.proofs.runs.named_kind.Goals as goal

pub returns-in-Ok : goal.returns-in-Ok
returns-in-Ok c = record { kind = named_id c.args.name.now (sym c.if-is_empty.ensures) c.in-Ok.ensures.cases.1 }

pub returns-in-Err : goal.returns-in-Err
returns-in-Err c = record { kind = named_bad c.args.name.now (sym c.if-is_empty.ensures) c.in-Err.ensures.cases.0 }
