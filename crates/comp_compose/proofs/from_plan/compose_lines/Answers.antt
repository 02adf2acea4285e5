use Rattle.plan_lines.specs.Lines.{lines, said}
use Rattle.comp_compose.proofs.Going.{accepted}
use Rattle.comp_compose.proofs.Refusals.{is_unmet}
use Rattle.comp_compose.proofs.from_plan.compose_lines.Goals as goal

pub returns-in-Ok-finish : goal.returns-in-Ok-finish
returns-in-Ok-finish c =
    let a = c.in-Ok-add_lines.ensures in
    accepted c.add_lines.new.composer c.args.plan.now c.in-Ok-finish.out.items c.requires.small c.requires.read a (c.in-Ok-finish.ensures (said (lines c.args.plan.now)) a.spent a.composing a.small)

pub returns-in-Err-add_lines : goal.returns-in-Err-add_lines
returns-in-Err-add_lines c = is_unmet c.args.plan.now c.in-Err-add_lines.refusal c.requires.small c.requires.read c.in-Err-add_lines.ensures
