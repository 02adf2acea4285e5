use Rattle.std.proofs.Common.{◌+◌, ap, sym, ◌∙◌, arith}
use Rattle.comp_model.specs.Spaces.{count_items}
use Rattle.comp_order.specs.Order.{own_items, verdict_of}
use Rattle.comp_order.proofs.before.judge_reference.Goals as goal

pub returns-in-None : goal.returns-in-None
returns-in-None c = λ before befores t ls h o a.
    c.below.ensures (count_items c.args.reference.space before + own_items t ls c.args.reference.space) (omega (arith, c.saturating_add.ensures, c.of-own.ensures, c.of-before.ensures, h c.args.reference.space, o c.args.reference.space))
    ∙ ap (λ u. verdict_of befores before t ls u c.args.reference) (sym c.in-None.is)

pub returns-in-Some : goal.returns-in-Some
returns-in-Some c = λ before befores t ls h o a.
    c.judge_outward.ensures before befores h a ∙ ap (λ u. verdict_of befores before t ls u c.args.reference) (sym c.in-Some.is)
