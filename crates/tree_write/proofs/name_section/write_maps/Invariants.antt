use Rattle.std.proofs.Common.{◌≡◌, drop}
use Rattle.tree_write.specs.Along.{maps_by}
use Rattle.tree_write.specs.Kept.{put}
use Rattle.tree_write.proofs.name_section.write_maps.Given as goal

-- the maps from here on are written
abbrev pub invariant-loop-i : goal.invariant-loop-i
invariant-loop-i g l = g.S.Sink.kept l.sink ≡ put (maps_by l.items (drop l.i l.spaces)) (g.S.Sink.kept l.initial.sink)
