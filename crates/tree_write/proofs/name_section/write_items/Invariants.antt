use Rattle.std.proofs.Common.{◌≡◌, ◌+◌, ◌≤◌, drop, length}
use Rattle.comp_model.specs.Payloads.{item_name_bytes}
use Rattle.tree_write.specs.Along.{of_space}
use Rattle.tree_write.specs.Kept.{put}
use Rattle.tree_write.proofs.name_section.write_items.Given as goal

-- the names from here on are written and counted
abbrev pub invariant-loop-i : goal.invariant-loop-i
invariant-loop-i g l = (g.S.Sink.kept l.sink ≡ put (item_name_bytes (of_space l.space (drop l.i l.items))) (g.S.Sink.kept l.initial.sink)) × (l.count ≡ length (of_space l.space (drop l.i l.items))) × (l.count + l.i ≤ length l.items)
