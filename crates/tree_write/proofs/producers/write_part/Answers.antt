use Rattle.std.proofs.Common.{sym, ap, ◌∙◌}
use Rattle.tree_write.specs.Kept.{put}
use Rattle.tree_write.specs.Produced.{framed_text}
use Rattle.tree_write.proofs.CoreLeaves.{no_text}
use Rattle.tree_write.proofs.Puts.{put_none}
use Rattle.tree_write.proofs.producers.write_part.Goals as goal

pub returns-in-Core : goal.returns-in-Core
returns-in-Core g c = λ cores. let k = g.S.Sink.kept c.args.sink.now in rw c.in-Core.is (sym (ap (λ o. put (framed_text o) k) (no_text cores c.in-Core.field-0) ∙ put_none k))
