use Rattle.std.proofs.Common.{refl, sym, ◌∙◌}
use Rattle.tree_write.proofs.Closing.{takes_open, takes_new}
use Rattle.tree_write.proofs.sections.begin.Goals as goal

pub returns-then-joins_open-clause-takes : goal.returns-then-joins_open-clause-takes
returns-then-joins_open-clause-takes g c = λ before items h. takes_open before _ c.args.front c.args.kind items (sym c.joins_open.ensures ∙ c.if-joins_open.true) h

pub returns-clause-takes : goal.returns-clause-takes
returns-clause-takes g c = λ before items h. takes_new before _ _ c.args.front _ c.args.kind items (sym c.joins_open.ensures ∙ c.if-joins_open.false) h (c.close_section.ensures before items h) refl refl c.length.ensures
