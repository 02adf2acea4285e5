use Rattle.std.proofs.Common.{sym}
use Rattle.tree_write.proofs.NameSections.{own_put}
use Rattle.tree_write.proofs.Puts.{put_none}
use Rattle.tree_write.proofs.name_section.write_own.Goals as goal

pub returns-in-Some : goal.returns-in-Some
returns-in-Some g c = rw c.in-Some.is (own_put c.in-Some.text.now c.length-end.result _ _ _ _ c.write_text.ensures c.close.ensures c.length-end.ensures c.byte.ensures)

pub returns-in-None : goal.returns-in-None
returns-in-None g c = rw c.in-None.is (sym (put_none (g.S.Sink.kept c.args.sink.now)))
