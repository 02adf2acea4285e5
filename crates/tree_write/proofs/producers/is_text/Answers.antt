use Rattle.std.proofs.Common.{sym}
use Rattle.tree_write.proofs.CoreLeaves.{not_text}
use Rattle.tree_write.proofs.producers.is_text.Goals as goal

pub returns-in-Core : goal.returns-in-Core
returns-in-Core c = λ cores. rw c.in-Core.is (sym (not_text cores c.in-Core.field-0))
