use Rattle.std.proofs.Common.{refl}
use Rattle.tree_write.proofs.Sizes.{with_some, with_none}
use Rattle.tree_write.proofs.short.with_item.Goals as goal

pub returns-in-Some : goal.returns-in-Some
returns-in-Some c =
    λ items fit one item h e z. with_some c.opened-open.result _ c.args.kind items fit one item c.args.size c.in-Some.more (c.opened-open.ensures items fit h) e c.in-Some.is z refl c.saturating_add-count.ensures c.saturating_add-bytes.ensures refl refl

pub returns-in-None : goal.returns-in-None
returns-in-None c = λ items fit one item h e z. with_none c.opened-open.result _ c.args.kind items fit one item c.args.size (c.opened-open.ensures items fit h) e c.in-None.is z refl c.saturating_add-count.ensures refl
