use Rattle.std.proofs.Common.{refl, [], ◌∷◌}
use Rattle.tree_write.proofs.Puts.{more_counted}
use Rattle.tree_write.proofs.sink.CountSink.byte.Goals as goal

pub returns : goal.returns
returns c = more_counted c.args.self.now.bytes 1 _ (c.args._byte ∷ []) refl c.saturating_add-self.ensures
