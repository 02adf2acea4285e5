use Rattle.std.proofs.Common.{refl}
use Rattle.tree_write.proofs.Puts.{more_counted}
use Rattle.tree_write.proofs.sink.CountSink.bytes.Goals as goal

pub returns : goal.returns
returns c = more_counted c.args.self.now.bytes _ _ c.args.bytes.now refl c.saturating_add-self.ensures
