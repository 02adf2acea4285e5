use Rattle.std.proofs.Common.{◌≡◌, List, drop}
use Rattle.comp_model.specs.CoreModules.{CoreModule}
use Rattle.comp_model.specs.Payloads.{producers_bytes}
use Rattle.comp_tree.specs.Lists.{nodes_listed}
use Rattle.tree_write.specs.Kept.{put}
use Rattle.tree_write.proofs.producers.write_list.Given as goal

-- the producers from here on are written
abbrev pub invariant-loop-i : goal.invariant-loop-i
invariant-loop-i g l = (cores : List CoreModule) → g.S.Sink.kept l.sink ≡ put (producers_bytes (nodes_listed cores (drop l.i l.nodes))) (g.S.Sink.kept l.initial.sink)
