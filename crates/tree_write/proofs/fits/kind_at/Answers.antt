use Rattle.std.proofs.Common.{sym, ◌∙◌}
use Rattle.tree_write.proofs.Tests.{kind_found, kind_beyond}
use Rattle.tree_write.proofs.fits.kind_at.Goals as goal

pub returns-then-at-leaves : goal.returns-then-at-leaves
returns-then-at-leaves c = c.space_of_kind.ensures ∙ sym (kind_found c.args.leaves.now c.args.at c.index-leaves-at.result c.if-at-leaves.true c.index-leaves-at.is)

pub returns-else-at-leaves : goal.returns-else-at-leaves
returns-else-at-leaves c = sym (kind_beyond c.args.leaves.now c.args.at c.if-at-leaves.false)
