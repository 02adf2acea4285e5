use Rattle.std.proofs.Common.{◌≡◌, drop}
use Rattle.comp_tree.specs.Model.{joined}
use Rattle.tree_write.specs.Kept.{put}
use Rattle.tree_write.proofs.leaf.write_joined.Given as goal

-- the pieces from here on are written
abbrev pub invariant-loop-i : goal.invariant-loop-i
invariant-loop-i g l = g.S.Sink.kept l.sink ≡ put (joined (drop l.i l.pieces)) (g.S.Sink.kept l.initial.sink)
