use Rattle.std.proofs.Common.{[], ◌∷◌}
use Rattle.tree_read.proofs.Paths.{text_read, text_refused}
use Rattle.tree_read.proofs.path.read_text.Goals as goal

pub returns-in-Ok-push : goal.returns-in-Ok-push
returns-in-Ok-push c = record { read = c.in-Ok.text ∷ []; items = c.in-Ok-push.ensures.items; runs = text_read c.in-Ok.text c.args.reader.now c.text.new.self c.in-Ok.ensures }

pub returns-in-Err : goal.returns-in-Err
returns-in-Err c = text_refused c.in-Err.fault c.args.reader.now c.text.new.self c.in-Err.ensures
