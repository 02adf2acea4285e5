use Rattle.std.proofs.Common.{refl, sym, ◌∙◌}
use Rattle.tree_write.proofs.Sizes.{goes_on, begins_one}
use Rattle.tree_write.proofs.short.opened.Goals as goal

pub returns-then-joins_open : goal.returns-then-joins_open
returns-then-joins_open c = λ items fit h. goes_on c.args.front c.args.kind items fit (sym c.joins_open.ensures ∙ c.if-joins_open.true) h

pub returns : goal.returns
returns c = λ items fit h. begins_one c.args.front _ c.closed-behind.result c.args.kind items fit (sym c.joins_open.ensures ∙ c.if-joins_open.false) h (c.closed-behind.ensures items fit h) refl refl refl refl refl
