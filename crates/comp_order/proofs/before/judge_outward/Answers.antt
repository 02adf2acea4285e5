use Rattle.std.proofs.Common.{ap, ◌∙◌, arith}
use Rattle.comp_model.specs.Spaces.{count_items}
use Rattle.comp_order.specs.Counts.{capped}
use Rattle.comp_order.proofs.Outward.{judged_own, judged_none, judged_some}
use Rattle.comp_order.proofs.before.judge_outward.Goals as goal

pub returns-then-up-eq0 : goal.returns-then-up-eq0
returns-then-up-eq0 c = λ before befores h a.
    c.below.ensures (count_items c.args.reference.space before) (ap capped c.of.ensures ∙ h c.args.reference.space) ∙ judged_own before befores c.args.up c.args.reference c.if-up-eq0.true

pub returns-in-Nothing : goal.returns-in-Nothing
returns-in-Nothing c = λ before befores h a.
    judged_none c.outward.result befores c.args.up (omega (arith, c.if-up-eq0.false)) (c.outward.ensures befores a) before c.args.reference c.in-Nothing.is

pub returns-in-Scope : goal.returns-in-Scope
returns-in-Scope c = λ before befores h a.
    let f = judged_some c.outward.result befores c.args.up (omega (arith, c.if-up-eq0.false)) (c.outward.ensures befores a) before c.args.reference c.in-Scope.open c.in-Scope.is in
    c.below-in-Scope.ensures (count_items c.args.reference.space f.0) (ap capped c.of-in-Scope.ensures ∙ f.1 c.args.reference.space) ∙ f.2
