use Rattle.std.proofs.Common.{refl}
use Rattle.comp_compose.proofs.Refusals.{big_refused, line_refused}
use Rattle.comp_compose.proofs.from_plan.compose_plan.Goals as goal

pub returns-then-plan-gt67108864 : goal.returns-then-plan-gt67108864
returns-then-plan-gt67108864 c = big_refused c.args.plan.now _ _ c.if-plan-gt67108864.true refl refl

pub returns-in-Some : goal.returns-in-Some
returns-in-Some c = line_refused c.args.plan.now c.first_bad_line.result c.in-Some.at _ c.if-plan-gt67108864.false c.first_bad_line.ensures c.in-Some.is refl
